use Rattle.std.proofs.Common.{◌≡◌, drop}
use Rattle.replay_pending.specs.InFlight.{AreCounted, counted, txids_of}
use Rattle.replay_pending.proofs.pending.count_aborted.Given as goal

abbrev pub invariant-loop-entry : goal.invariant-loop-entry
invariant-loop-entry g l = record {
  counts : AreCounted l.tries (drop l.entry-index l.entries);
  left : counted (txids_of (drop l.entry-index l.entries)) l.tries ≡ counted (txids_of l.entries) l.fn.tries;
}
