use Rattle.std.proofs.Common.{◌≡◌, length, take}
use Rattle.tree_model.specs.Trees.{writes}
use Rattle.fold_tables.specs.Pieces.{IsPiece}
use Rattle.fold_tables.proofs.fold.fold_each.Given as goal

abbrev pub invariant-loop-row : goal.invariant-loop-row
invariant-loop-row g l = record {
  count : length l.piece.states.items ≡ length l.plan.components;
  piece : IsPiece l.plan (g.O.RowOp.meaning l.custom) (writes l.plan (g.O.RowOp.meaning l.custom) (take l.row-index l.rows)) l.piece;
}
