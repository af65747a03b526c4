use Rattle.std.proofs.Common.{◌≡◌, ◌++◌, map}
use Rattle.std.specs.Map.Iter.{deref_pair}
use Rattle.storm_stores.specs.CellMaps.{CellMap}
use Rattle.tree_model.specs.Tables.{folded}
use Rattle.state_cells.specs.Groups.{job_of, jobs_in}
use Rattle.state_cells.specs.Turns.{AreApart, IsWorked, Turns, job_at}
use Rattle.state_cells.proofs.commit.commit_groups.Given as goal

abbrev pub invariant-loop-key : goal.invariant-loop-key
invariant-loop-key g l = record {
  parts : map deref_pair l.yielded ++ l.key-iterator ≡ l.groups.entries;
  worked : AreApart (jobs_in l.groups) → Turns g.C.CellStore.tells (λ key. IsWorked l.batch.kind (folded (g.O.RowOp.meaning l.custom) l.batch.by) l.batch.root (job_at (map job_of (map deref_pair l.yielded)) key)) l.initial.store l.store;
  told_before : (cells : CellMap) → g.C.CellStore.tells l.store cells → (before : CellMap) × g.C.CellStore.tells l.initial.store before;
  quiet : g.C.CellStore.fault_count l.store ≡ g.C.CellStore.fault_count l.initial.store;
}
