-- What a store holds: a finite map from keys to cells, which are both bytes. This project's own.
use Rattle.std.specs.Prelude.{ℕ, List, Option}
use Rattle.std.specs.BTreeMap.{insert_entry}
use Rattle.std.specs.Cmp.Lexicographic.{slice_cmp}
use Rattle.std.specs.List.Sorted.{IsStrictlySortedBy}
use Rattle.std.specs.Map.{lookup, keys_of}
use Rattle.std.specs.Ordering.{nat_cmp}
use Rattle.std.specs.Str.{bytes_eq}

-- the keys, each with its cell
abbrev pub CellMap : Type 0
CellMap = List (List ℕ × List ℕ)

-- each key stands once, and the keys stand in the order of their bytes
abbrev pub InKeyOrder : CellMap → Type 0
InKeyOrder cells = IsStrictlySortedBy (slice_cmp nat_cmp) (keys_of cells)

-- the cell of a key, if it has one
abbrev pub cell_at : CellMap → List ℕ → Option (List ℕ)
cell_at cells key = lookup (bytes_eq key) cells

-- the map where this key has this cell and every other key what it had
abbrev pub with_cell : CellMap → List ℕ → List ℕ → CellMap
with_cell cells key cell = insert_entry (slice_cmp nat_cmp) cells key cell
