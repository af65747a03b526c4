use Rattle.std.proofs.Common.{◌≤◌, length}
use Rattle.std.specs.Prelude.{vec_capacity}
use Rattle.box_rows.proofs.Splitting.{HalfSplit}
use Rattle.box_rows.proofs.rows.split_row.Given as goal

abbrev pub invariant-loop-n : goal.invariant-loop-n
invariant-loop-n l = record {
  half : HalfSplit l.posts.plan.now l.posts.boxes.items l.n l.fn.row.items l.row.items l.made.items;
  room : length l.posts.boxes.items ≤ vec_capacity l.made;
}
