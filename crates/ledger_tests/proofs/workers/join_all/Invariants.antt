use Rattle.std.proofs.Common.{All}
use Rattle.shared_ledger.specs.Seats.{IsSeatOf}
use Rattle.ledger_tests.proofs.workers.join_all.Given as goal

abbrev pub invariant-loop-worker : goal.invariant-loop-worker
invariant-loop-worker l = IsSeatOf l.ledger l.seat × All (λ w. IsSeatOf l.ledger w.seat) l.workers.items

abbrev pub decreases-loop-worker : goal.decreases-loop-worker
decreases-loop-worker l = goal.left-loop-worker l
