use Rattle.box_rows.specs.Rows.{ArePasses}
use Rattle.pool_stretch_tests.proofs.stretches.count_left.Given as goal

abbrev pub invariant-loop-count : goal.invariant-loop-count
invariant-loop-count g l = ArePasses l.posts.plan.now l.posts.boxes.items l.row.items
