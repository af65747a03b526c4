use Rattle.std.proofs.Common.{◌≡◌, [], ◌∷◌, map, take}
use Rattle.json.specs.Token.{begin_array}
use Rattle.storm_values.specs.Keys.{token_of}
use Rattle.storm_values.proofs.keys.key_text.Given as goal

abbrev pub invariant-loop-value : goal.invariant-loop-value
invariant-loop-value l = record {
  before : l.writer.before ≡ [];
  tokens : l.writer.tokens ≡ begin_array ∷ map token_of (take l.value-index l.key);
}
