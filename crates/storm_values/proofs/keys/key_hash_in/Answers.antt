use Rattle.std.proofs.Common.{◌≡◌, ◌+◌, ◌∷◌, ◌++◌, [], take, ◌∙◌, arith}
use Rattle.std.proofs.lemmas.Grind.{common_steps}
use Rattle.std.proofs.lemmas.List.{take_all, length-append}
use Rattle.std.proofs.lemmas.List.Elements.{filter_map-append}
use Rattle.storm_values.specs.Rows.{values_in}
use Rattle.storm_values.proofs.KeyLemmas.{hash-push, hash-whole}
use Rattle.storm_values.proofs.keys.key_hash_in.Goals as goal
use Rattle.storm_values.proofs.keys.key_hash_in.Goals.{in-Some, in_default}

pub loop-field-preserved : goal.loop-field-preserved
loop-field-preserved c =
    let row = c.args.row.now in
    let before = values_in row (take c.loop-field.field-index c.args.fields.now) in
    elim c.match-value_at.branch [
      | in-Some w ↦
          let value = w.in-Some.value.now in
          let more : values_in row (take (c.loop-field.field-index + 1) c.args.fields.now) ≡ before ++ value ∷ [] = grind (arith, common_steps, filter_map-append) in
          record {
            place = rw more (omega (arith, length-append before (value ∷ [])));
            few = omega arith;
            hash = rw more (w.hash-is ∙ w.mix_next-hash.ensures ∙ hash-push before value c.loop-field.hash c.loop-field.place c.loop-field.invariant.hash c.loop-field.invariant.place);
          }
      | in_default w ↦
          let same : values_in row (take (c.loop-field.field-index + 1) c.args.fields.now) ≡ before = grind (arith, common_steps, filter_map-append) in
          record {
            place = rw same (omega arith);
            few = omega arith;
            hash = rw same (w.hash-is ∙ c.loop-field.invariant.hash);
          }
    ]

pub returns : goal.returns
returns c =
    let fields = c.args.fields.now in
    let whole : take c.loop-field.field-index fields ≡ fields = take_all _ fields c.loop-field-test.false in
    rw whole at c.loop-field.invariant.hash ∙ hash-whole (values_in c.args.row.now fields)
