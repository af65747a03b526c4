use Rattle.box_rows.proofs.Making.{Made}
use Rattle.box_rows.proofs.boxes.Boxes.new.Given as goal

abbrev pub invariant-loop-owner : goal.invariant-loop-owner
invariant-loop-owner l = Made l.fn.plan l.owner l.boxes.items l.row.items
