use Rattle.box_rows.specs.FitRows.{IsFitRow}
use Rattle.pool_round_tests.proofs.rounds.take_notes.Given as goal

abbrev pub invariant-loop-at : goal.invariant-loop-at
invariant-loop-at g l = IsFitRow l.posts.plan.now l.posts.boxes.items l.row.items
