use Rattle.std.specs.List.{AllByRecursion}
use Rattle.worker_test_kit.specs.Resting.{Rests}
use Rattle.box_rows.specs.FitRows.{IsFitRow}
use Rattle.pool_round_tests.proofs.rounds.all_rounds.Given as goal

abbrev pub invariant-loop : goal.invariant-loop
invariant-loop g l = record {
  row : IsFitRow l.posts.plan.now l.posts.boxes.items l.row.items;
  rest : AllByRecursion (Rests l.posts.plan.now l.board) l.team.items;
}
