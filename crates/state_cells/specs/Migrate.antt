-- Cells of format 1 that are brought to format 2. This project's own.
use Rattle.std.specs.Prelude.{◌≡◌, ◌≤◌, ◌==◌, ◌↔◌, ◌++◌, ℕ, Bool, if◌then◌else◌, List, map, filter, length, take, drop, Option, Some, IsSome, slice_get}
use Rattle.std.specs.List.{AllByRecursion}
use Rattle.std.specs.Map.{keys_of}
use Rattle.std.specs.Str.{IsUtf8}
use Rattle.tree_model.specs.topology_plan.declared.parts.Kind.{Kind}
use Rattle.storm_stores.specs.CellMaps.{CellMap, cell_at, with_cell}
use Rattle.cell_format.specs.Commits.{Holds, IsCellOf}
use Rattle.cell_format.specs.Layout.{AreBytesOf, bytes_of, read_of}
use Rattle.cell_format.specs.declared.cell.Cell.{Cell}
use Rattle.state_cells.specs.Rows.{IsBadRow}

-- the bytes of a cell are of format 1, which their number tells
abbrev pub is_old : List ℕ → Bool
is_old bytes = length bytes == 42

-- The bytes of a cell in format 2: those of one of format 1 written anew, with the attempt that is
-- not known, and those of format 2 as they are.
abbrev pub migrated : List ℕ → List ℕ
migrated bytes = if is_old bytes then bytes_of (read_of bytes) else bytes

-- the same of each cell of a map
abbrev pub all_migrated : CellMap → CellMap
all_migrated cells = map {B = List ℕ × List ℕ} (λ entry. (entry.0, migrated entry.1)) cells

-- the same of the cells of the first keys, so many of them
abbrev pub first_migrated : ℕ → CellMap → CellMap
first_migrated n cells = all_migrated (take n cells) ++ drop n cells

-- how many cells are of format 1
abbrev pub old_count : CellMap → ℕ
old_count cells = length (filter (λ (entry : List ℕ × List ℕ). is_old entry.1) cells)

-- the bytes are a cell that the table of a part of this kind takes at a key, which is a text where
-- there is a value
pub record IsRowCell (kind : Kind) (key bytes : List ℕ) (cell : Cell) : Type 0 where
  pub good : IsCellOf kind cell
  pub are : AreBytesOf cell bytes
  pub text : IsSome cell.value → IsUtf8 key

-- a key has such a cell
abbrev pub IsRow : Kind → List ℕ × List ℕ → Type 0
IsRow kind entry = (cell : Cell) × IsRowCell kind entry.0 entry.1 cell

-- the key of a number has a cell that a table does not take
abbrev pub IsBadKey : Kind → ℕ → List ℕ → CellMap → Type 0
IsBadKey kind i key cells =
    (slice_get (keys_of cells) i ≡ Some key) × IsBadRow kind key (cell_at cells key)

-- The cells of the first keys, so many of them, are ones that a table takes, and they are in
-- format 2; those of the keys behind them are as they were.
pub record Migrates {S : Type 0} (tells : S → CellMap → Type 0) (kind : Kind) (n : ℕ)
    (cells : CellMap) (new : S) : Type 0 where
  pub within : n ≤ length cells
  pub rows : AllByRecursion (IsRow kind) (take n cells)
  pub told : tells new (first_migrated n cells)

-- how far it came where the store or the memory failed
abbrev pub MigratesSome : {S : Type 0} → (S → CellMap → Type 0) → Kind → CellMap → S → Type 0
MigratesSome tells kind cells new = (n : ℕ) × Migrates tells kind n cells new

-- how far it came where the cell of a key is bad: the keys before it are done
abbrev pub MigratesBefore : {S : Type 0} → (S → CellMap → Type 0) → Kind → List ℕ → CellMap → S
    → Type 0
MigratesBefore tells kind key cells new =
    (n : ℕ) × (slice_get (keys_of cells) n ≡ Some key) × Migrates tells kind n cells new

-- what a key has is the same cell for a part of either kind, or none
abbrev pub IsSameCell : List ℕ → Option (List ℕ) → Option (List ℕ) → Type 0
IsSameCell key old new =
    (kind : Kind) (cell : Option Cell) → Holds kind old cell ↔ Holds kind new cell

-- the cell of the key of a number was read, and whether it is of format 1; its bytes in format 2
-- are there now
pub record MigratesAt {S : Type 0} (tells : S → CellMap → Type 0) (kind : Kind) (i : ℕ)
    (was_old : Bool) (cells : CellMap) (new : S) : Type 0 where
  pub key : List ℕ
  pub bytes : List ℕ
  pub at : slice_get cells i ≡ Some (key, bytes)
  pub row : IsRow kind (key, bytes)
  pub was : was_old ≡ is_old bytes
  pub told : tells new (with_cell cells key (migrated bytes))
