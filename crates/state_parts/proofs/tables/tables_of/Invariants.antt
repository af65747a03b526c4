use Rattle.std.specs.List.{AllZip, filter_map, range_with_len}
use Rattle.tree_model.specs.Tables.{state_at}
use Rattle.tree_model.specs.bolt_ops.RowOp.{Custom}
use Rattle.state_parts.specs.Commits.{SameCounts}
use Rattle.state_parts.specs.PartTables.{AreRead, IsTableOver}
use Rattle.state_parts.proofs.tables.tables_of.Given as goal

abbrev pub invariant-loop-number : goal.invariant-loop-number
invariant-loop-number g l = record {
  read : AreRead g.C.CellStore.tells g.C.CellStore.fault_count l.fn.parts.items l.parts.items;
  counts : SameCounts g.C.CellStore.fault_count l.fn.parts.items l.parts.items;
  tables : (custom : Custom) → AllZip (IsTableOver g.C.CellStore.tells l.fn.parts.items) (filter_map (state_at l.plan custom) (range_with_len 0 l.number)) l.tables;
}
