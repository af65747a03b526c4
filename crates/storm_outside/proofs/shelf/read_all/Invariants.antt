use Rattle.std.proofs.Common.{◌-◌, ◌≤◌, vec_len}
use Rattle.storm_outside.proofs.Progress.{Reads}
use Rattle.storm_outside.proofs.shelf.read_all.Given as goal

abbrev pub invariant-loop-buf : goal.invariant-loop-buf
invariant-loop-buf g l = record {
  within : vec_len l.bytes ≤ l.limit;
  reads : Reads g.H.Shelf.rest g.H.Shelf.holds g.H.Shelf.has_file g.H.Shelf.ready g.H.Shelf.fetches g.H.Shelf.faults l.initial.shelf l.shelf l.bytes.items;
}

abbrev pub decreases-loop-buf : goal.decreases-loop-buf
decreases-loop-buf g l = l.limit - vec_len l.bytes
