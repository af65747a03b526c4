use Rattle.std.proofs.Common.{◌≡◌, [], ◌∷◌, map, take}
use Rattle.json.specs.Token.{begin_array}
use Rattle.storm_values.specs.Keys.{token_of}
use Rattle.storm_values.specs.Rows.{values_in}
use Rattle.storm_values.proofs.keys.key_string.Given as goal

abbrev pub invariant-loop-field : goal.invariant-loop-field
invariant-loop-field l = record {
  before : l.writer.before ≡ [];
  tokens : l.writer.tokens ≡ begin_array ∷ map token_of (values_in l.row (take l.field-index l.fields));
}
