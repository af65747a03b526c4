use Rattle.box_rows.specs.FitRows.{IsFitRow}
use Rattle.row_tests.proofs.rows.fill.Given as goal

abbrev pub invariant-loop-count : goal.invariant-loop-count
invariant-loop-count g l = IsFitRow l.posts.plan.now l.posts.boxes.items l.row.items
