use Rattle.box_rows.proofs.Fitting.{Looked}
use Rattle.box_rows.specs.Rows.{ArePasses}
use Rattle.box_rows.proofs.fit.look_row.Given as goal

abbrev pub invariant-loop-n : goal.invariant-loop-n
invariant-loop-n l = record {
  passes : ArePasses l.posts.plan.now l.posts.boxes.items l.row.items;
  looked : Looked l.n l.fn.row.items l.row.items;
}
