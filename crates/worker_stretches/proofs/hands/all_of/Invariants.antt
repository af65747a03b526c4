use Rattle.std.proofs.Common.{◌≡◌, ◌++◌, length}
use Rattle.worker_stretches.specs.Hands.{items_in}
use Rattle.worker_stretches.proofs.hands.all_of.Given as goal

abbrev pub invariant-loop-hand : goal.invariant-loop-hand
invariant-loop-hand g l = l.all.items ++ items_in l.rest.items ≡ items_in l.fn.hands.items

abbrev pub decreases-loop-hand : goal.decreases-loop-hand
decreases-loop-hand g l = length l.rest.items
