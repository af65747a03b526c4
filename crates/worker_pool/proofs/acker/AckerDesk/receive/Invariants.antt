use Rattle.std.proofs.Common.{length}
use Rattle.worker_pool.proofs.Acking.{Noting}
use Rattle.worker_pool.proofs.acker.AckerDesk.receive.Given as goal

abbrev pub invariant-loop-parcel : goal.invariant-loop-parcel
invariant-loop-parcel l = record {
  noting : Noting l.plan l.fn.run l.fn.self l.self l.rest.items;
}

abbrev pub decreases-loop-parcel : goal.decreases-loop-parcel
decreases-loop-parcel l = length l.rest.items
