use Rattle.std.proofs.Common.{◌≡◌, ◌∙◌, ◌<◌, ◌-◌, ◌+◌, List, ℕ, ◌++◌, codes, ap, sym, arith, rules, string_bytes}
use Rattle.load_source.specs.Records.{more_words, next_number, number_after, word_of}
use Rattle.load_source.proofs.Steps.{one_number, one_word}
use Rattle.load_source.proofs.records.sentence.Goals as goal

pub loop-preserved : goal.loop-preserved
loop-preserved c =
    let k = c.loop.counter in
    let more : k < 5 = omega (arith, c.loop-test.true) in
    let next : c.next-last-in-loop.result ≡ next_number c.loop.last = c.next-last-in-loop.ensures.value in
    let pushed : string_bytes c.push_word-in-loop.new.text ≡ (string_bytes c.loop.text ++ codes " ") ++ word_of (next_number c.loop.last) = search rules in
    record {
      text = ap (λ (x : ℕ). string_bytes c.push_word-in-loop.new.text ++ more_words (5 - (k + 1)) x) next
          ∙ ap (λ (t : List ℕ). t ++ more_words (5 - (k + 1)) (next_number c.loop.last)) pushed
          ∙ sym (one_word 5 k c.loop.last (string_bytes c.loop.text) more) ∙ c.loop.invariant.text;
      last = ap (number_after (5 - (k + 1))) next ∙ sym (one_number 5 k c.loop.last more) ∙ c.loop.invariant.last;
      small = c.next-last-in-loop.ensures.small;
    }
