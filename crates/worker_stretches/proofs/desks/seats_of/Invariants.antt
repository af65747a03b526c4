use Rattle.std.proofs.Common.{length}
use Rattle.worker_stretches.proofs.Seating.{Backing}
use Rattle.worker_stretches.proofs.desks.seats_of.Given as goal

abbrev pub invariant-loop-desk : goal.invariant-loop-desk
invariant-loop-desk g l = Backing l.plan l.fn.desks.items l.rest.items l.seats.items

abbrev pub decreases-loop-desk : goal.decreases-loop-desk
decreases-loop-desk g l = length l.rest.items
