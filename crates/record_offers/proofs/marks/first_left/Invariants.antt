use Rattle.std.proofs.Common.{◌≡◌, ◌≤◌, ◌<◌, ◌-◌, ◌%◌, ℕ, true, length, slice_index_or}
use Rattle.record_offers.proofs.marks.first_left.Given as goal

abbrev pub invariant-loop-at : goal.invariant-loop-at
invariant-loop-at l = record {
  own : l.at % l.step ≡ l.from % l.step;
  gone : (i : ℕ) → i < length l.gone → l.from ≤ i → i < l.at → i % l.step ≡ l.from % l.step → slice_index_or l.gone i true ≡ true;
}

abbrev pub decreases-loop-at : goal.decreases-loop-at
decreases-loop-at l = length l.gone - l.at
