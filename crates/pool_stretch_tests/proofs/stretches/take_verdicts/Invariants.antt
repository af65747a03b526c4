use Rattle.box_rows.specs.FitRows.{IsFitRow}
use Rattle.pool_stretch_tests.proofs.stretches.take_verdicts.Given as goal

abbrev pub invariant-loop : goal.invariant-loop
invariant-loop g l = IsFitRow l.posts.plan.now l.posts.boxes.items l.row.items
