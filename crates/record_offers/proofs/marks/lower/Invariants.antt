use Rattle.std.proofs.Common.{◌≡◌, ◌≤◌, ◌<◌, ◌+◌, ◌%◌, ℕ, length, slice_index}
use Rattle.record_offers.proofs.marks.lower.Given as goal

abbrev pub invariant-loop-at : goal.invariant-loop-at
invariant-loop-at l = record {
  len : length l.low ≡ length l.fn.low;
  no_higher : (q : ℕ) → slice_index l.low q ≤ slice_index l.fn.low q;
  reached : (i : ℕ) → l.span.first ≤ i + 1 → i < l.at → slice_index l.low (i % length l.fn.low) ≤ i;
  own : ((q : ℕ) → q < length l.fn.low → slice_index l.fn.low q % length l.fn.low ≡ q)
      → (q : ℕ) → q < length l.fn.low → slice_index l.low q % length l.fn.low ≡ q;
}
