use Rattle.std.proofs.Common.{◌≡◌, length}
use Rattle.record_offers.specs.Marks.{AreBounds}
use Rattle.record_offers.proofs.marks.raise.Given as goal

abbrev pub invariant-loop-partition : goal.invariant-loop-partition
invariant-loop-partition l = record {
  len : length l.low ≡ l.partitions;
  bounds : AreBounds l.low l.gone;
}
