-- The table of a part.
use Rattle.std.specs.Prelude.{◌≡◌, ◌⊎◌, ℕ, ℤ, List, ◌++◌, slice_get, Option, None, Some, IsSome, option_map}
use Rattle.std.specs.List.{filter_map}
use Rattle.std.specs.Map.{keys_of}
use Rattle.std.specs.Option.{option_to_list}
use Rattle.std.specs.Str.{IsUtf8}
use Rattle.tree_model.specs.topology_plan.declared.parts.Kind.{Kind}
use Rattle.tree_model.specs.declared.write.Pair.{Pair}
use Rattle.storm_stores.specs.CellMaps.{CellMap, cell_at}
use Rattle.cell_format.specs.Commits.{Holds, value_of}
use Rattle.cell_format.specs.Layout.{read_of}
use Rattle.cell_format.specs.declared.cell.Cell.{Cell}
use Rattle.state_cells.specs.Turns.{IsBad}

-- a key beside a value, if there is one
abbrev pub row_by : List ℕ → Option ℤ → Option Pair
row_by key value = option_map (λ number. record { key = key; value = number }) value

-- the value that a key's bytes say
abbrev pub value_in : Option (List ℕ) → Option ℤ
value_in None = None
value_in (Some bytes) = (read_of bytes).value

-- the keys whose cell has a value, with it, in the order of keys
abbrev pub rows_of : CellMap → List Pair
rows_of cells = filter_map (λ key. row_by key (value_in (cell_at cells key))) (keys_of cells)

-- the key of a number was read, and its row added where it has a value
pub record Reads (kind : Kind) (cells : CellMap) (i : ℕ) (old new : List Pair) : Type 0 where
  pub key : List ℕ
  pub at : slice_get (keys_of cells) i ≡ Some key
  pub cell : Option Cell
  pub holds : Holds kind (cell_at cells key) cell
  pub added : new ≡ old ++ option_to_list (row_by key (value_of cell))

-- a key's cell is one that the part does not take, or it has a value and the key is no text
abbrev pub IsBadRow : Kind → List ℕ → Option (List ℕ) → Type 0
IsBadRow kind key held = IsBad kind held ⊎ (IsSome (value_in held) × (¬ (IsUtf8 key)))
