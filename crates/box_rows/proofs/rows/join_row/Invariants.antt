use Rattle.std.proofs.Common.{length}
use Rattle.box_rows.proofs.Splitting.{HalfJoined}
use Rattle.box_rows.proofs.rows.join_row.Given as goal

abbrev pub invariant-loop-pass : goal.invariant-loop-pass
invariant-loop-pass l = HalfJoined l.posts.plan.now l.posts.boxes.items l.fn.into.items l.fn.other.items l.into.items l.rest.items

abbrev pub decreases-loop-pass : goal.decreases-loop-pass
decreases-loop-pass l = length l.rest.items
