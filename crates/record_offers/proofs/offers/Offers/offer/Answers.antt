use Rattle.std.proofs.Common.{◌≡◌, ◌<◌, ◌==◌, false, length, true≢false, sym, ◌∙◌, arith}
use Rattle.std.proofs.lemmas.Bool.Decides.{nat_tests}
use Rattle.record_offers.proofs.BatchLemmas.{some_runs}
use Rattle.record_offers.proofs.offers.Offers.offer.Goals as goal

pub returns-clause-none : goal.returns-clause-none
returns-clause-none c =
    let is_empty = sym c.is_empty-2.ensures ∙ c.if-is_empty-2.false in
    let spans = c.in_ok-spans.spans.ok.0 in
    let some : 0 < length c.in_ok-spans.spans.items = grind (arith, nat_tests, is_empty, spans) in
    let no_low = sym c.is_empty.ensures ∙ c.if-is_empty.false in
    let low = c.self.inside.low.ok.0 in
    let with_partitions : (length c.self.inside.low.items == 0) ≡ false = grind (arith, nat_tests, no_low, low) in (
      λ h. absurd (true≢false h),
      rw (← c.self.view_is) (rw with_partitions (λ none. absurd (some_runs _ c.in_ok-spans.spans.items (rw (c.deref.ensures.value, c.deref-2.ensures.value) at c.in_ok-spans.ensures.runs) some none))),
    )
