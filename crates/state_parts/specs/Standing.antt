-- When all parts stand at a number of commits. This project's own.
use Rattle.std.specs.Prelude.{◌≡◌, ℕ, List, [], All, Contains}
use Rattle.tree_model.specs.bolt_ops.RowOp.{Custom}
use Rattle.tree_model.specs.topology_plan.Topology.{Topology, tasks_of}
use Rattle.tree_model.specs.Tables.{folded}
use Rattle.tree_model.specs.declared.write.Write.{Write}
use Rattle.storm_stores.specs.CellMaps.{CellMap, cell_at}
use Rattle.cell_format.specs.Standing.{IsKeyOf, IsWithin, Stands}
use Rattle.state_parts.specs.declared.parts.StatePart.{StatePart}
use Rattle.state_parts.specs.Commits.{own_writes}

-- a write goes to the part of its state that its key's hash chooses
abbrev pub IsPlaced : Topology → Write → Type 0
IsPlaced t write = IsKeyOf (tasks_of t write.state) write.part write.key

abbrev pub ArePlaced : Topology → List Write → Type 0
ArePlaced t writes = All (IsPlaced t) writes

-- writes of one state for one key go to one part
abbrev pub HaveOnePart : List Write → Type 0
HaveOnePart writes =
    (a b : Write) → Contains writes a → Contains writes b → a.state ≡ b.state → a.key ≡ b.key
    → a.part ≡ b.part

-- A part tells cells that stand at n, where `done` are the writes of the batches 1 to n and `next`
-- those of batch n + 1, of all parts.
pub record PartStands {S : Type 0} (tells : S → CellMap → Type 0) (t : Topology) (custom : Custom) (n : ℕ)
    (done next : List Write) (at : StatePart S) : Type 0 where
  pub cells : CellMap
  pub told : tells at.over.store cells
  pub stands : Stands at.over.kind (folded custom at.over.by) (tasks_of t at.component) at.part n
      (own_writes done at) (own_writes next at) (cell_at cells)

-- the same where no cell has a larger transaction
pub record PartIsAt {S : Type 0} (tells : S → CellMap → Type 0) (t : Topology) (custom : Custom) (n : ℕ)
    (done next : List Write) (at : StatePart S) : Type 0 where
  pub cells : CellMap
  pub told : tells at.over.store cells
  pub stands : Stands at.over.kind (folded custom at.over.by) (tasks_of t at.component) at.part n
      (own_writes done at) (own_writes next at) (cell_at cells)
  pub within : IsWithin at.over.kind n (cell_at cells)

-- all parts stand at n
abbrev pub AllStand : {S : Type 0} → (S → CellMap → Type 0) → Topology → Custom → ℕ → List Write
    → List Write → List (StatePart S) → Type 0
AllStand tells t custom n done next parts = All (PartStands tells t custom n done next) parts

-- all parts stand at n, and no cell has a larger transaction
abbrev pub AllAreAt : {S : Type 0} → (S → CellMap → Type 0) → Topology → Custom → ℕ → List Write
    → List Write → List (StatePart S) → Type 0
AllAreAt tells t custom n done next parts = All (PartIsAt tells t custom n done next) parts

-- a part's store tells that it has no cell
abbrev pub IsEmpty : {S : Type 0} → (S → CellMap → Type 0) → StatePart S → Type 0
IsEmpty tells at = tells at.over.store []
