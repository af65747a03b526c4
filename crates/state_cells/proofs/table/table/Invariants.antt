use Rattle.std.proofs.Common.{◌≡◌, length}
use Rattle.storm_stores.specs.CellMaps.{CellMap}
use Rattle.state_cells.proofs.RowLemmas.{Tabled}
use Rattle.state_cells.proofs.table.table.Given as goal

abbrev pub invariant-loop-i : goal.invariant-loop-i
invariant-loop-i g l = record {
  scanned : (cells : CellMap) → g.C.CellStore.tells l.fn.store cells → g.C.CellStore.tells l.store cells × (l.count ≡ length cells) × Tabled l.kind cells l.i l.pairs;
  told_before : (cells : CellMap) → g.C.CellStore.tells l.store cells → g.C.CellStore.tells l.fn.store cells;
  quiet : g.C.CellStore.fault_count l.store ≡ g.C.CellStore.fault_count l.fn.store;
}
