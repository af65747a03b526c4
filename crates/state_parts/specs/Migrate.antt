-- Parts whose cells of format 1 are brought to format 2, one after another. This project's own.
use Rattle.std.specs.Prelude.{◌≡◌, ◌≤◌, ◌-◌, ◌^◌, ◌⊎◌, ℕ, min, List, [], ◌∷◌}
use Rattle.std.specs.List.{AllZip, sum_by}
use Rattle.storm_stores.specs.CellMaps.{CellMap, cell_at}
use Rattle.state_cells.specs.Migrate.{IsSameCell, MigratesBefore, MigratesSome, all_migrated, old_count}
use Rattle.state_cells.specs.Rows.{IsBadRow, rows_of}
use Rattle.state_cells.specs.Turns.{Turns}
use Rattle.state_parts.specs.declared.parts.StatePart.{StatePart}
use Rattle.state_parts.specs.PartPlans.{plan_of}

-- how many cells of these maps are of format 1, up to 2^64 - 1
abbrev pub old_sum : List CellMap → ℕ
old_sum maps = min (sum_by old_count maps) (2 ^ 64 - 1)

-- a part has its numbers, the same cell at each key, and the same table
pub record KeepsCells {S : Type 0} (tells : S → CellMap → Type 0) (count : S → ℕ)
    (was is : StatePart S) : Type 0 where
  pub plan : plan_of is ≡ plan_of was
  pub same : Turns tells IsSameCell was.over.store is.over.store
  pub rows : (before after : CellMap) → tells was.over.store before → tells is.over.store after
      → rows_of after ≡ rows_of before
  pub never_falls : count was.over.store ≤ count is.over.store

-- so does each part
abbrev pub AreKept : {S : Type 0} → (S → CellMap → Type 0) → (S → ℕ) → List (StatePart S)
    → List (StatePart S) → Type 0
AreKept tells count old new = AllZip (KeepsCells tells count) old new

-- all cells of a part are of format 2 now, none of them was one that a table does not take, and its
-- store did not fail
pub record IsMigrated {S : Type 0} (tells : S → CellMap → Type 0) (count : S → ℕ)
    (was is : StatePart S) : Type 0 where
  pub kept : KeepsCells tells count was is
  pub done : (cells : CellMap) → tells was.over.store cells
      → tells is.over.store (all_migrated cells)
  pub none_bad : (cells : CellMap) → tells was.over.store cells → (key : List ℕ)
      → IsBadRow was.over.kind key (cell_at cells key) → ⊥
  pub same_count : count is.over.store ≡ count was.over.store

abbrev pub AreMigrated : {S : Type 0} → (S → CellMap → Type 0) → (S → ℕ) → List (StatePart S)
    → List (StatePart S) → Type 0
AreMigrated tells count old new = AllZip (IsMigrated tells count) old new

-- the cells of the first keys of a part are, and the others as they were
pub record IsBrokenOff {S : Type 0} (tells : S → CellMap → Type 0) (count : S → ℕ)
    (was is : StatePart S) : Type 0 where
  pub kept : KeepsCells tells count was is
  pub reached : (cells : CellMap) → tells was.over.store cells
      → MigratesSome tells was.over.kind cells is.over.store

-- a table does not take the cell of this key, and the cells of the keys before it are of format 2
pub record StopsBefore {S : Type 0} (tells : S → CellMap → Type 0) (key : List ℕ)
    (was is : StatePart S) : Type 0 where
  pub bad : (cells : CellMap) → tells was.over.store cells
      → IsBadRow was.over.kind key (cell_at cells key)
  pub before : (cells : CellMap) → tells was.over.store cells
      → MigratesBefore tells was.over.kind key cells is.over.store

-- The parts before one are migrated, of that one the relation holds, and those behind it are the
-- very ones that they were.
abbrev pub StopAt : {S : Type 0} → (S → CellMap → Type 0) → (S → ℕ)
    → (StatePart S → StatePart S → Type 0) → List (StatePart S) → List (StatePart S) → Type 0
StopAt tells count R [] new = ⊥
StopAt tells count R (was ∷ old) [] = ⊥
StopAt tells count R (was ∷ old) (is ∷ new) =
    (IsMigrated tells count was is × StopAt tells count R old new) ⊎ (R was is × (new ≡ old))
