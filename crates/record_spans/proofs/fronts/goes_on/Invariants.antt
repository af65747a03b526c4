use Rattle.std.proofs.Common.{◌≡◌, ◌&&◌, ◌||◌, ℕ, Bool, length}
use Rattle.std.specs.Prelude.{nat_le}
use Rattle.record_spans.specs.Fronts.{IsNew, Reaches}
use Rattle.record_spans.proofs.fronts.goes_on.Given as goal

abbrev pub invariant-loop-at : goal.invariant-loop-at
invariant-loop-at l = record {
  len : length l.next ≡ length l.fn.next;
  reaches : (gone : ℕ → Bool) → Reaches gone l.fn.next → IsNew gone l.span
      → Reaches (λ n. gone n || nat_le l.span.first n && nat_le n l.at) l.next;
}
