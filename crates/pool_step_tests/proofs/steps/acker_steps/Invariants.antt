use Rattle.box_rows.specs.Rows.{ArePasses}
use Rattle.worker_pool.specs.Ackers.{IsAcker}
use Rattle.pool_step_tests.proofs.steps.acker_steps.Given as goal

abbrev pub invariant-loop-count : goal.invariant-loop-count
invariant-loop-count g l = record {
  passes : ArePasses l.posts.plan.now l.posts.boxes.items l.row.items;
  desk : IsAcker l.posts.plan.now l.desk;
}
