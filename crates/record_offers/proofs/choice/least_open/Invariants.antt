use Rattle.std.proofs.Common.{◌≡◌, ◌≤◌, ◌<◌, ℕ, false, slice_index}
use Rattle.record_offers.specs.Offers.{is_shut}
use Rattle.record_offers.proofs.choice.least_open.Given as goal

abbrev pub invariant-loop-partition : goal.invariant-loop-partition
invariant-loop-partition l = record {
  within : l.least ≤ l.records;
  least : (q : ℕ) → q < l.partition → is_shut l.shut q ≡ false → l.least ≤ slice_index l.low q;
}
