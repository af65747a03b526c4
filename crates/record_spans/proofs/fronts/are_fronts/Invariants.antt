use Rattle.std.proofs.Common.{◌≡◌, ◌<◌, ℕ, length, take, slice_index}
use Rattle.record_spans.specs.Spans.{stands_in}
use Rattle.record_spans.specs.Fronts.{Reaches}
use Rattle.record_spans.proofs.fronts.are_fronts.Given as goal

abbrev pub invariant-loop-partition : goal.invariant-loop-partition
invariant-loop-partition l = record {
  len : length l.next ≡ l.partitions;
  set : (k : ℕ) → k < l.partition → slice_index l.next k ≡ k;
}

abbrev pub invariant-loop-span : goal.invariant-loop-span
invariant-loop-span l = record {
  len : length l.next ≡ l.partitions;
  reaches : Reaches (stands_in (take l.span-index l.spans)) l.next;
}
