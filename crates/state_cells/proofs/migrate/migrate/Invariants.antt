use Rattle.std.proofs.Common.{◌≡◌, ◌≤◌, length, take}
use Rattle.storm_stores.specs.CellMaps.{CellMap}
use Rattle.state_cells.specs.Migrate.{Migrates, old_count}
use Rattle.state_cells.proofs.migrate.migrate.Given as goal

abbrev pub invariant-loop-i : goal.invariant-loop-i
invariant-loop-i g l = record {
  done : (cells : CellMap) → g.C.CellStore.tells l.fn.store cells → (l.count ≡ length cells) × Migrates g.C.CellStore.tells l.kind l.i cells l.store × (l.migrated ≡ old_count (take l.i cells));
  told_before : (cells : CellMap) → g.C.CellStore.tells l.store cells → (before : CellMap) × g.C.CellStore.tells l.fn.store before;
  quiet : g.C.CellStore.fault_count l.store ≡ g.C.CellStore.fault_count l.fn.store;
  few : l.migrated ≤ l.i;
}
