use Rattle.std.proofs.Common.{◌≡◌, ◌∙◌, ◌<◌, ◌-◌, ◌+◌, List, [], ◌∷◌, ℕ, ◌++◌, ap, sym, arith, rules}
use Rattle.storm_values.specs.declared.value.Value.{Value}
use Rattle.storm_values.specs.declared.value.Value.TheVariants.{Text}
use Rattle.load_source.specs.Records.{number_after, records_after, sentence_after}
use Rattle.load_source.proofs.Steps.{one_record}
use Rattle.load_source.proofs.records.load_records.Goals as goal

pub loop-preserved : goal.loop-preserved
loop-preserved c =
    let k = c.loop.counter in
    let more : k < c.args.count = omega (arith, c.loop-test.true) in
    let last : c.in_ok-text.last ≡ number_after 6 c.loop.number = c.in_ok-text.ensures.last in
    let pushed : c.push.new.self ≡ c.loop.rows ++ (Text (sentence_after c.loop.number) ∷ []) ∷ [] = search rules in
    record {
      made = ap (λ (x : ℕ). c.push.new.self ++ records_after (c.args.count - (k + 1)) x) last
          ∙ ap (λ (rows : List (List Value)). rows ++ records_after (c.args.count - (k + 1)) (number_after 6 c.loop.number)) pushed
          ∙ sym (one_record c.args.count k c.loop.number c.loop.rows more) ∙ c.loop.invariant.made;
      small = c.in_ok-text.ensures.small;
    }
