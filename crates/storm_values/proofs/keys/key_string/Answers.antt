use Rattle.std.proofs.Common.{◌≡◌, ◌+◌, ◌∷◌, ◌++◌, [], take, ap, sym, ◌∙◌, arith}
use Rattle.std.proofs.lemmas.Grind.{common_steps}
use Rattle.std.proofs.lemmas.List.{map-append}
use Rattle.std.proofs.lemmas.List.Elements.{filter_map-append}
use Rattle.json.specs.Token.{begin_array}
use Rattle.storm_values.specs.Keys.{token_of}
use Rattle.storm_values.specs.Rows.{values_in}
use Rattle.storm_values.proofs.keys.key_string.Goals as goal
use Rattle.storm_values.proofs.keys.key_string.Goals.{in-Some+in_ok-put_value, in_default}

pub loop-field-preserved : goal.loop-field-preserved
loop-field-preserved c =
    let row = c.args.row.now in
    let before = values_in row (take c.loop-field.field-index c.args.fields.now) in
    elim c.match-value_at.branch [
      | in-Some+in_ok-put_value w ↦
          let value = w.in-Some.value.now in
          let more : values_in row (take (c.loop-field.field-index + 1) c.args.fields.now) ≡ before ++ value ∷ [] = grind (arith, common_steps, filter_map-append) in
          record {
            before = rw w.writer-is (w.in_ok-put_value.ensures.before ∙ c.loop-field.invariant.before);
            tokens = rw (w.writer-is, w.in_ok-put_value.ensures.tokens, more, c.loop-field.invariant.tokens) (ap (λ tokens. begin_array ∷ tokens) (sym (map-append token_of before (value ∷ []))));
          }
      | in_default w ↦
          let same : values_in row (take (c.loop-field.field-index + 1) c.args.fields.now) ≡ before = grind (arith, common_steps, filter_map-append) in
          record {
            before = rw w.writer-is c.loop-field.invariant.before;
            tokens = rw (w.writer-is, same) c.loop-field.invariant.tokens;
          }
    ]
