use Rattle.std.specs.List.{AllByRecursion}
use Rattle.worker_test_kit.specs.Resting.{Rests}
use Rattle.pulse_board.specs.Seats.{IsSeatOf}
use Rattle.worker_test_kit.proofs.team.hire.Given as goal

abbrev pub invariant-loop-from : goal.invariant-loop-from
invariant-loop-from l = record {
  seat : IsSeatOf l.board l.seat;
  rest : AllByRecursion (Rests l.plan l.board) l.workers.items;
}
