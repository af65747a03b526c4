-- What one look at each key of a store finds.
use Rattle.std.specs.Prelude.{◌≡◌, ◌≤◌, ◌==◌, ℕ, Bool, true, false, List, [], ◌∷◌, ◌++◌, if◌then◌else◌, filter, slice_get, Option, None, Some}
use Rattle.std.specs.Map.{keys_of}
use Rattle.tree_model.specs.topology_plan.declared.parts.Kind.{Kind}
use Rattle.storm_stores.specs.CellMaps.{CellMap, cell_at}
use Rattle.cell_format.specs.Commits.{Holds}
use Rattle.cell_format.specs.Layout.{read_of}
use Rattle.cell_format.specs.declared.cell.Cell.{Cell}

-- the cell is of this transaction
abbrev pub carries_of : ℕ → Option Cell → Bool
carries_of txid None = false
carries_of txid (Some cell) = cell.txid == txid

-- what a key has is of this transaction
abbrev pub is_carrier : ℕ → Option (List ℕ) → Bool
is_carrier txid None = false
is_carrier txid (Some bytes) = (read_of bytes).txid == txid

-- the keys with a cell of this transaction, in order
abbrev pub carriers : ℕ → CellMap → List (List ℕ)
carriers txid cells = filter (λ key. is_carrier txid (cell_at cells key)) (keys_of cells)

-- each key has a cell that a part of this kind takes
abbrev pub AreGood : Kind → CellMap → Type 0
AreGood kind cells = (key : List ℕ) → (cell : Option Cell) × Holds kind (cell_at cells key) cell

-- the cell is of this transaction or of an earlier one
abbrev pub IsNotLater : ℕ → Option Cell → Type 0
IsNotLater txid None = Unit {0}
IsNotLater txid (Some cell) = cell.txid ≤ txid

-- a key was noted where its cell is of this transaction; this is the newest so far where it was,
-- and this cell is not later
pub record Notes (txid : ℕ) (key : List ℕ) (cell : Option Cell)
    (old new : List (List ℕ)) (was is : Bool) : Type 0 where
  pub noted : new ≡ (if carries_of txid cell then old ++ key ∷ [] else old)
  pub newest : is ≡ true → (was ≡ true) × IsNotLater txid cell

-- the key of a number was looked at, and noted
pub record Scans (kind : Kind) (txid : ℕ) (cells : CellMap) (i : ℕ)
    (old new : List (List ℕ)) (was is : Bool) : Type 0 where
  pub key : List ℕ
  pub at : slice_get (keys_of cells) i ≡ Some key
  pub cell : Option Cell
  pub holds : Holds kind (cell_at cells key) cell
  pub notes : Notes txid key cell old new was is
