use Rattle.std.proofs.Common.{◌≡◌, ◌≤◌, length}
use Rattle.std.specs.Prelude.{vec_capacity}
use Rattle.box_rows.specs.AllRows.{HasSplit}
use Rattle.box_rows.specs.Rows.{ArePasses}
use Rattle.box_rows.proofs.all_rows.split_rows.Given as goal

abbrev pub invariant-loop-next : goal.invariant-loop-next
invariant-loop-next l = record {
  passes : ArePasses l.posts.plan.now l.posts.boxes.items l.row.items;
  split : HasSplit l.posts.plan.now l.posts.boxes.items l.fn.row.items l.row.items l.rows.items;
  count : length l.rows.items ≡ l._next;
  room : l.fn.count ≤ vec_capacity l.rows;
}
