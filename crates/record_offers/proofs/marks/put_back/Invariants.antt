use Rattle.std.proofs.Common.{◌≡◌, ◌≤◌, ◌<◌, ◌+◌, ◌%◌, ℕ, true, length, take, slice_index}
use Rattle.record_spans.specs.Spans.{stands_in}
use Rattle.record_offers.proofs.marks.put_back.Given as goal

abbrev pub invariant-loop-span : goal.invariant-loop-span
invariant-loop-span l = record {
  len : length l.low ≡ length l.fn.low;
  no_higher : (q : ℕ) → slice_index l.low q ≤ slice_index l.fn.low q;
  reached : (i : ℕ) → stands_in (take l.span-index l.spans) (i + 1) ≡ true → slice_index l.low (i % length l.fn.low) ≤ i;
  own : (q : ℕ) → q < length l.fn.low → slice_index l.low q % length l.fn.low ≡ q;
}
