use Rattle.std.proofs.Common.{take, ◌≡◌}
use Rattle.storm_stores.specs.CellMaps.{CellMap}
use Rattle.tree_model.specs.Tables.{folded}
use Rattle.state_cells.specs.Groups.{restores_in}
use Rattle.state_cells.specs.Turns.{AreApart, IsWorked, Turns, job_at}
use Rattle.state_cells.proofs.commit.commit_restores.Given as goal

abbrev pub invariant-loop-key : goal.invariant-loop-key
invariant-loop-key g l = record {
  worked : AreApart (restores_in l.keys) → Turns g.C.CellStore.tells (λ key. IsWorked l.batch.kind (folded (g.O.RowOp.meaning l.custom) l.batch.by) l.batch.root (job_at (take l.key-index (restores_in l.keys)) key)) l.initial.store l.store;
  told_before : (cells : CellMap) → g.C.CellStore.tells l.store cells → (before : CellMap) × g.C.CellStore.tells l.initial.store before;
  quiet : g.C.CellStore.fault_count l.store ≡ g.C.CellStore.fault_count l.initial.store;
}
