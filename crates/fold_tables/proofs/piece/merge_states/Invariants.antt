use Rattle.std.proofs.Common.{◌≡◌, length}
use Rattle.fold_tables.specs.Pieces.{pairs_by}
use Rattle.fold_tables.proofs.Running.{AreMergedUpTo}
use Rattle.fold_tables.proofs.piece.merge_states.Given as goal

abbrev pub invariant-loop-number : goal.invariant-loop-number
invariant-loop-number g l = record {
  count : length l.states.items ≡ length l.plan.components;
  count_later : length l.later.items ≡ length l.plan.components;
  merged : AreMergedUpTo l.plan (g.O.RowOp.meaning l.custom) (pairs_by l.fn.states.items) (pairs_by l.fn.later.items) l.number (pairs_by l.states.items) (pairs_by l.later.items);
}
