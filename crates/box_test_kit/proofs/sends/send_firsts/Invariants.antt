use Rattle.box_rows.specs.FitRows.{IsFitRow}
use Rattle.box_test_kit.proofs.sends.send_firsts.Given as goal

abbrev pub invariant-loop-number : goal.invariant-loop-number
invariant-loop-number g l = IsFitRow l.posts.plan.now l.posts.boxes.items l.row.items
