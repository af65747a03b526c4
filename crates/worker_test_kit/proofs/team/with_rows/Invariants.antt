use Rattle.std.proofs.Common.{length}
use Rattle.std.specs.List.{AllByRecursion}
use Rattle.worker_test_kit.specs.Resting.{Rests}
use Rattle.box_rows.specs.AllRows.{ArePassesIn}
use Rattle.worker_pool.specs.Workers.{IsReady}
use Rattle.worker_test_kit.proofs.team.with_rows.Given as goal

abbrev pub invariant-loop-worker : goal.invariant-loop-worker
invariant-loop-worker l = record {
  rest : AllByRecursion (Rests l.posts.plan.now l.board) l.resting.items;
  rows : AllByRecursion (ArePassesIn l.posts.plan.now l.posts.boxes.items) l.left.items;
  ready : AllByRecursion (IsReady l.posts.plan.now l.posts.boxes.items l.board) l.ready.items;
}

abbrev pub decreases-loop-worker : goal.decreases-loop-worker
decreases-loop-worker l = length l.resting.items
