use Rattle.std.proofs.Common.{All}
use Rattle.shared_ledger.specs.Seats.{IsSeatOf}
use Rattle.ledger_tests.proofs.workers.new_workers.Given as goal

abbrev pub invariant-loop-number : goal.invariant-loop-number
invariant-loop-number l = IsSeatOf l.ledger l.seat × All (λ w. IsSeatOf l.ledger w.seat) l.workers.items
