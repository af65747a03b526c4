use Rattle.tree_model.proofs.Walks.{count_from_walk}
use Rattle.tree_model.proofs.plain.count_nodes.Goals as goal

-- each node that was visited counts
pub returns : goal.returns
returns g c =
    rw c.as_slice.ensures at (count_from_walk c.args.plan.now (g.O.RowOp.meaning c.args.custom.now) c.as_slice.result.now c.components.result c.visit_rows.new.visitor c.components.ensures c.in_ok-visit_rows.ensures)
