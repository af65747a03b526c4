use Rattle.std.proofs.Common.{◌≡◌, take}
use Rattle.tree_model.specs.Tables.{folded}
use Rattle.cell_format.specs.Commits.{value_after}
use Rattle.cell_format.proofs.commit.fold_all.Given as goal

abbrev pub invariant-loop-amount : goal.invariant-loop-amount
invariant-loop-amount g l = l.folded ≡ value_after (folded (g.O.RowOp.meaning l.custom) l.by) (take l.amount-index l.amounts) l.fn.value
