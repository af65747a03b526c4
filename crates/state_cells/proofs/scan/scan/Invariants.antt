use Rattle.std.proofs.Common.{◌≡◌, length}
use Rattle.storm_stores.specs.CellMaps.{CellMap}
use Rattle.tree_model.specs.topology_plan.declared.parts.Kind.TheVariants.{Opaque}
use Rattle.state_cells.proofs.ScanLemmas.{Scanned}
use Rattle.state_cells.proofs.scan.scan.Given as goal

abbrev pub invariant-loop-i : goal.invariant-loop-i
invariant-loop-i g l = record {
  txid : l.found.txid ≡ l.txid;
  scanned : (cells : CellMap) → g.C.CellStore.tells l.fn.store cells → g.C.CellStore.tells l.store cells × (l.count ≡ length cells) × Scanned Opaque l.found.txid cells l.i l.found.keys.items l.found.is_newest;
  told_before : (cells : CellMap) → g.C.CellStore.tells l.store cells → g.C.CellStore.tells l.fn.store cells;
  quiet : g.C.CellStore.fault_count l.store ≡ g.C.CellStore.fault_count l.fn.store;
}
