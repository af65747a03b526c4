use Rattle.shared_ledger.specs.Seats.{IsSeatOf}
use Rattle.ledger_tests.proofs.steps.are_met.Given as goal

abbrev pub invariant-loop-step : goal.invariant-loop-step
invariant-loop-step l = IsSeatOf l.ledger l.seat
