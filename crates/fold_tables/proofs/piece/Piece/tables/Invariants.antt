use Rattle.std.proofs.Common.{List, length}
use Rattle.std.specs.List.{AllZip, filter_map, range_with_len}
use Rattle.tree_model.specs.bolt_ops.RowOp.{Custom}
use Rattle.tree_model.specs.declared.write.Write.{Write}
use Rattle.tree_model.specs.Tables.{IsTableOf, AreRunningTables, state_at}
use Rattle.fold_tables.specs.Pieces.{pairs_by}
use Rattle.fold_tables.proofs.piece.Piece.tables.Given as goal

abbrev pub invariant-loop-number : goal.invariant-loop-number
invariant-loop-number l = (custom : Custom) (made : List Write) → AreRunningTables l.plan custom made (pairs_by l.fn.self.states.items)
    → AllZip (IsTableOf made) (filter_map (state_at l.plan custom) (range_with_len 0 (length l.yielded))) l.tables
