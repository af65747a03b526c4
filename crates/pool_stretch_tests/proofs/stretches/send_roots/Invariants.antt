use Rattle.box_rows.specs.FitRows.{IsFitRow}
use Rattle.pool_stretch_tests.proofs.stretches.send_roots.Given as goal

abbrev pub invariant-loop-number : goal.invariant-loop-number
invariant-loop-number g l = IsFitRow l.posts.plan.now l.posts.boxes.items l.row.items
