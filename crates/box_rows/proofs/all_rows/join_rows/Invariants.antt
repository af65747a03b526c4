use Rattle.std.proofs.Common.{length}
use Rattle.std.specs.List.{AllByRecursion}
use Rattle.box_rows.specs.AllRows.{ArePassesIn, HasJoined}
use Rattle.box_rows.specs.Rows.{ArePasses}
use Rattle.box_rows.proofs.all_rows.join_rows.Given as goal

abbrev pub invariant-loop-other : goal.invariant-loop-other
invariant-loop-other l = record {
  passes : ArePasses l.posts.plan.now l.posts.boxes.items l.row.items;
  others : AllByRecursion (ArePassesIn l.posts.plan.now l.posts.boxes.items) l.rest.items;
  joined : HasJoined l.fn.row.items l.fn.rows.items l.row.items l.rest.items;
}

abbrev pub decreases-loop-other : goal.decreases-loop-other
decreases-loop-other l = length l.rest.items
