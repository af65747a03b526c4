use Rattle.tree_model.proofs.Walks.{writes_from_walk}
use Rattle.tree_model.proofs.write.writes_of.Goals as goal

-- the writes of the nodes that were visited
pub returns : goal.returns
returns g c =
    writes_from_walk c.args.plan.now (g.O.RowOp.meaning c.args.custom.now) c.args.rows.now c.components.result c.new-writes.result c.visit_rows.new.visitor c.new-writes.ensures c.components.ensures c.in_ok-visit_rows.ensures
