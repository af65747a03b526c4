use Rattle.std.proofs.Common.{length}
use Rattle.std.specs.List.{AllByRecursion}
use Rattle.worker_test_kit.specs.Resting.{Came, Rests}
use Rattle.box_rows.specs.AllRows.{ArePassesIn}
use Rattle.worker_test_kit.proofs.team.without_rows.Given as goal

abbrev pub invariant-loop-worker : goal.invariant-loop-worker
invariant-loop-worker l = record {
  came : AllByRecursion (Came l.posts.plan.now l.posts.boxes.items l.board) l.left.items;
  rest : AllByRecursion (Rests l.posts.plan.now l.board) l.rested.items;
  rows : AllByRecursion (ArePassesIn l.posts.plan.now l.posts.boxes.items) l.rows.items;
}

abbrev pub decreases-loop-worker : goal.decreases-loop-worker
decreases-loop-worker l = length l.left.items
