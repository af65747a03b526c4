use Rattle.std.proofs.Common.{◌≡◌, ◌++◌, List, length}
use Rattle.std.specs.Vec.Iter.{into_iter_items}
use Rattle.tree_model.specs.declared.write.Write.{Write}
use Rattle.fold_tables.specs.Pieces.{IsPiece}
use Rattle.fold_tables.proofs.Pieces.{IsPieceBut}
use Rattle.fold_tables.proofs.piece.Piece.add_all.Given as goal

abbrev pub invariant-loop-write : goal.invariant-loop-write
invariant-loop-write g l = record {
  can_go_on : (goal.iterator-loop-write g).can_next l.write-iterator;
  will_end : (goal.iterator-loop-write g).is_finite l.write-iterator;
  count : length l.self.states.items ≡ length l.plan.components;
  parts : (made : List Write) → IsPiece l.plan (g.O.RowOp.meaning l.custom) made l.fn.self
      → IsPieceBut l.plan (g.O.RowOp.meaning l.custom) (made ++ l.fn.writes) (into_iter_items l.write-iterator) l.self;
}
