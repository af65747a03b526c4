use Rattle.pulse_board.specs.Seats.{IsSeatOf}
use Rattle.ledger_tests.proofs.boards.fill.Given as goal

abbrev pub invariant-loop-number : goal.invariant-loop-number
invariant-loop-number l = IsSeatOf l.board l.seat
