use Rattle.shared_ledger.specs.Seats.{IsSeatOf}
use Rattle.ledger_tests.proofs.workers.work.Given as goal

abbrev pub invariant-loop-done : goal.invariant-loop-done
invariant-loop-done l = IsSeatOf l.ledger l.worker.seat
