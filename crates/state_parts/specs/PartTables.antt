-- The tables of the states, read from the cells of their parts.
use Rattle.std.specs.Prelude.{◌≡◌, ◌≤◌, ◌==◌, ◌++◌, ◌⊎◌, ℕ, ℤ, if◌then◌else◌, List, [], ◌∷◌, map, Option, None, Some, slice_get}
use Rattle.std.specs.Cmp.Lexicographic.{slice_cmp}
use Rattle.std.specs.List.{AllZip}
use Rattle.std.specs.List.Sorted.{IsStrictlySortedBy}
use Rattle.std.specs.Map.{update}
use Rattle.std.specs.Option.{option_or}
use Rattle.std.specs.Ordering.{nat_cmp}
use Rattle.std.specs.Str.{bytes_eq}
use Rattle.tree_model.specs.storm_values.Counts.{raised}
use Rattle.storm_stores.specs.CellMaps.{CellMap, cell_at}
use Rattle.tree_model.specs.Tables.{StateOf, value_at}
use Rattle.tree_model.specs.declared.write.Pair.{Pair}
use Rattle.tree_model.specs.declared.write.Table.{Table}
use Rattle.state_cells.specs.Rows.{IsBadRow, value_in}
use Rattle.state_parts.specs.declared.parts.StatePart.{StatePart}
use Rattle.state_parts.specs.Commits.{SameCounts}
use Rattle.state_parts.specs.PartPlans.{plan_of}

-- the component numbers of parts
abbrev pub components_of : {S : Type 0} → List (StatePart S) → List ℕ
components_of {S} parts = map (λ (at : StatePart S). at.component) parts

-- what a key has in a part of a state, if the part is of this state
abbrev pub value_for : ℕ → ℕ → CellMap → List ℕ → Option ℤ
value_for number component cells key =
    if component == number then value_in (cell_at cells key) else None

-- The value of a key of a state in the cells of parts, which belong to these components. No key
-- has a cell in two parts where the parts stand at a number of commits; if one had, the later
-- part's would count.
abbrev pub value_among : ℕ → List ℕ → List CellMap → List ℕ → Option ℤ
value_among number [] maps key = None
value_among number (component ∷ components) [] key = None
value_among number (component ∷ components) (cells ∷ maps) key =
    option_or (value_among number components maps key) (value_for number component cells key)

-- the stores of the parts tell these maps
abbrev pub Tell : {S : Type 0} → (S → CellMap → Type 0) → List (StatePart S) → List CellMap → Type 0
Tell tells parts maps = AllZip (λ at cells. tells at.over.store cells) parts maps

-- the table of a state has the keys with a value in one of its parts, in the order of their bytes
pub record IsTableOver {S : Type 0} (tells : S → CellMap → Type 0) (parts : List (StatePart S))
    (state : StateOf) (table : Table) : Type 0 where
  pub name : table.name ≡ state.name
  pub ordered : IsStrictlySortedBy (slice_cmp nat_cmp) (map (λ (pair : Pair). pair.key) table.pairs)
  pub values : (maps : List CellMap) → Tell tells parts maps → (key : List ℕ)
      → value_at table.pairs key ≡ value_among state.number (components_of parts) maps key

-- a part that was read has the numbers and the cells that it had
pub record IsRead {S : Type 0} (tells : S → CellMap → Type 0) (count : S → ℕ)
    (old new : StatePart S) : Type 0 where
  pub plan : plan_of new ≡ plan_of old
  pub same : (cells : CellMap) → tells old.over.store cells → tells new.over.store cells
  pub never_falls : count old.over.store ≤ count new.over.store

abbrev pub AreRead : {S : Type 0} → (S → CellMap → Type 0) → (S → ℕ) → List (StatePart S)
    → List (StatePart S) → Type 0
AreRead tells count old new = AllZip (IsRead tells count) old new

-- the store of one of the parts failed once, and no other part's store failed
abbrev pub OneRaised : {S : Type 0} → (S → ℕ) → List (StatePart S) → List (StatePart S) → Type 0
OneRaised count [] new = ⊥
OneRaised count (was ∷ old) [] = ⊥
OneRaised count (was ∷ old) (is ∷ new) =
    ((count is.over.store ≡ raised (count was.over.store)) × SameCounts count old new)
    ⊎ ((count is.over.store ≡ count was.over.store) × OneRaised count old new)

-- one of the parts has at this key a cell that a table does not take
pub record IsBadRowAt {S : Type 0} (tells : S → CellMap → Type 0) (old : List (StatePart S))
    (key : List ℕ) : Type 0 where
  pub place : ℕ
  pub was : StatePart S
  pub was_at : slice_get old place ≡ Some was
  pub bad : (cells : CellMap) → tells was.over.store cells
      → IsBadRow was.over.kind key (cell_at cells key)

-- where a component is a state, one more table, which is its own
abbrev pub AddsTableOver : {S : Type 0} → (S → CellMap → Type 0) → List (StatePart S)
    → Option StateOf → List Table → List Table → Type 0
AddsTableOver tells parts None old new = new ≡ old
AddsTableOver tells parts (Some state) old new =
    (table : Table) × (new ≡ old ++ table ∷ []) × IsTableOver tells parts state table

-- the values of keys after these pairs, one after another
abbrev pub put_all : (List ℕ → Option ℤ) → List Pair → List ℕ → Option ℤ
put_all values [] key = values key
put_all values (pair ∷ pairs) key =
    put_all (update bytes_eq values pair.key (Some pair.value)) pairs key
