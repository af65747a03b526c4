use Rattle.std.proofs.Common.{length}
use Rattle.worker_pool.proofs.Desking.{Receiving}
use Rattle.worker_pool.proofs.desk.TaskDesk.receive.Given as goal

abbrev pub invariant-loop-parcel : goal.invariant-loop-parcel
invariant-loop-parcel g l = record {
  receiving : Receiving l.plan l.fn.run l.fn.self l.self l.rest.items;
}

abbrev pub decreases-loop-parcel : goal.decreases-loop-parcel
decreases-loop-parcel g l = length l.rest.items
