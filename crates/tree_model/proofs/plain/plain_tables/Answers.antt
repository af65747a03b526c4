use Rattle.std.proofs.Common.{refl}
use Rattle.std.proofs.lemmas.Result.{IfOk-weaker}
use Rattle.tree_model.specs.declared.fold.FoldsOf.{FoldsOf}
use Rattle.tree_model.specs.Tables.{AreTables}
use Rattle.tree_model.specs.Trees.{writes}
use Rattle.tree_model.proofs.TablesSoFar.{tables_from_filling}
use Rattle.tree_model.proofs.plain.plain_tables.Goals as goal

-- the walk has added the write of each node
pub returns : goal.returns
returns g c =
    let custom = g.O.RowOp.meaning c.args.custom.now in
    let all = tables_from_filling (λ (folds : FoldsOf g.row.O.Denot). g.O.RowOp.meaning folds.custom.now) c.args.plan.now custom c.args.rows.now c.components.result _ _ refl (c.in_ok-new.ensures custom) c.components.ensures (rw c.as_slice.ensures at c.in_ok-visit_rows.ensures) in
    IfOk-weaker _ _ (AreTables c.args.plan.now custom (writes c.args.plan.now custom c.args.rows.now)) (λ tables are. are custom (writes c.args.plan.now custom c.args.rows.now) all) c.tables.ensures
