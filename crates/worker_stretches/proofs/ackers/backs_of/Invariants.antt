use Rattle.std.proofs.Common.{length}
use Rattle.worker_stretches.proofs.Offices.{Closing}
use Rattle.worker_stretches.proofs.ackers.backs_of.Given as goal

abbrev pub invariant-loop-desk : goal.invariant-loop-desk
invariant-loop-desk l = Closing l.plan l.fn.desks.items l.rest.items l.seats.items

abbrev pub decreases-loop-desk : goal.decreases-loop-desk
decreases-loop-desk l = length l.rest.items
