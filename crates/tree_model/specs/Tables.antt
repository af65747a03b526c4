-- The tables that writes leave: for each state its keys in order, each with the fold of its
-- amounts.
use Rattle.std.specs.Prelude.{◌≡◌, ℕ, ◌==◌, ◌&&◌, ℤ, pos, ◌+ℤ◌, List, [], ◌∷◌, ◌++◌, length, map, filter, fold, set, slice_index_or, cond, Option, Some, None, option_map, IfSome, option_and_then, slice_get, unwrap_or}
use Rattle.std.specs.Option.{option_map_or}
use Rattle.std.specs.List.{filter_map, range_with_len, find, AllZip}
use Rattle.std.specs.List.Sorted.{IsStrictlySortedBy}
use Rattle.std.specs.Cmp.Lexicographic.{slice_cmp}
use Rattle.std.specs.Ordering.{nat_cmp}
use Rattle.std.specs.Int.{int_max, saturate_signed, w128}
use Rattle.std.specs.Str.{bytes_eq}
use Rattle.bolt_ops.specs.RowOp.{Custom}
use Rattle.topology_plan.specs.declared.parts.Body.{Body}
use Rattle.topology_plan.specs.declared.parts.Body.TheVariants.{Bolt, State}
use Rattle.topology_plan.specs.declared.parts.Component.{Component}
use Rattle.topology_plan.specs.declared.parts.Fold.{Fold}
use Rattle.topology_plan.specs.declared.parts.Fold.TheVariants.{Count, Sum, Last, Max}
use Rattle.topology_plan.specs.declared.parts.Fold.TheVariants as fold_of
use Rattle.topology_plan.specs.Topology.{Topology}
use Rattle.tree_model.specs.declared.write.Write.{Write}
use Rattle.tree_model.specs.declared.write.Pair.{Pair}
use Rattle.tree_model.specs.declared.write.Table.{Table}

-- ---- the value of a key

-- What a fold does: a key's value after one more amount, from its value before, if it has one.
abbrev pub Folding : Type 0
Folding = Option ℤ → ℤ → ℤ

-- What a topology's fold does, `custom` being what the user-supplied operation means. Sums end at
-- the ends of 128 bits. A custom fold begins with `one` of the first amount, and combines the
-- value with `one` of each further amount.
abbrev pub folded : Custom → Fold → Option ℤ → ℤ → ℤ
folded custom Count old amount = saturate_signed w128 (unwrap_or old (pos 0) +ℤ amount)
folded custom Sum old amount = saturate_signed w128 (unwrap_or old (pos 0) +ℤ amount)
folded custom Last old amount = amount
folded custom Max None amount = amount
folded custom Max (Some old) amount = int_max old amount
folded custom fold_of.Custom None amount = custom.one amount
folded custom fold_of.Custom (Some old) amount = custom.combine old (custom.one amount)

-- the amounts that are written for a key of a state, in order
abbrev pub amounts_of : List Write → ℕ → List ℕ → List ℤ
amounts_of writes state key =
    map (λ (write : Write). write.amount)
    (filter (λ (write : Write). (write.state == state) && bytes_eq write.key key) writes)

-- the value of a key of a state, where something is written for it
abbrev pub base : Folding → List Write → ℕ → List ℕ → Option ℤ
base by writes state key =
    fold (λ old amount. Some (by old amount)) None (amounts_of writes state key)

-- ---- tables

-- the value beside a key
abbrev pub value_at : List Pair → List ℕ → Option ℤ
value_at pairs key =
    option_map (λ (pair : Pair). pair.value) (find (λ (pair : Pair). bytes_eq key pair.key) pairs)

-- the keys stand in the order of their bytes, each once
abbrev pub AreInOrder : List Pair → Type 0
AreInOrder pairs =
    IsStrictlySortedBy (slice_cmp nat_cmp) (map (λ (pair : Pair). pair.key) pairs)

-- the pairs have each key that is written for a state, with its value
abbrev pub IsTally : Folding → List Write → ℕ → List Pair → Type 0
IsTally by writes state pairs =
    (key : List ℕ) → value_at pairs key ≡ base by writes state key

-- the pairs have each key that is written for a state, once and in the order of
-- their bytes, with its value
pub record IsTable (by : Folding) (writes : List Write) (state : ℕ) (pairs : List Pair) : Type 0 where
  pub ordered : AreInOrder pairs
  pub values : IsTally by writes state pairs

-- a state by its component number, with its name and what its fold does
pub record StateOf : Type 0 where
  pub number : ℕ
  pub name : List ℕ
  pub by : Folding

abbrev pub state_by : Custom → ℕ → Component → Body → Option StateOf
state_by custom number component (Bolt op) = None
state_by custom number component (State spec) =
    Some (record { number = number; name = component.name; by = folded custom spec.fold })

-- the state of a component number
abbrev pub state_at : Topology → Custom → ℕ → Option StateOf
state_at t custom number =
    option_and_then (λ (component : Component). state_by custom number component component.body)
    (slice_get t.components number)

-- the states of a topology, in the order of their numbers
abbrev pub states_of : Topology → Custom → List StateOf
states_of t custom = filter_map (state_at t custom) (range_with_len 0 (length t.components))

-- the table of one state
pub record IsTableOf (writes : List Write) (state : StateOf) (table : Table) : Type 0 where
  pub name : table.name ≡ state.name
  pub pairs : IsTable state.by writes state.number table.pairs

-- the tables of all states, in order
abbrev pub AreTables : Topology → Custom → List Write → List Table → Type 0
AreTables t custom writes tables = AllZip (IsTableOf writes) (states_of t custom) tables

-- ---- running tables

-- The pairs of a state after one more amount for a key: the key's pair has it folded in, and a
-- key that has no pair gets one at the end. So the keys stand in the order in which they came.
abbrev pub tallied : Folding → List Pair → List ℕ → ℤ → List Pair
tallied by [] key amount = record { key = key; value = by None amount } ∷ []
tallied by (pair ∷ pairs) key amount =
    cond (bytes_eq key pair.key)
    (record { key = pair.key; value = by (Some pair.value) amount } ∷ pairs)
    (pair ∷ tallied by pairs key amount)

-- the pairs of each component, with one more amount for a key of a state
abbrev pub with_amount : List (List Pair) → ℕ → Folding → List ℕ → ℤ → List (List Pair)
with_amount running state by key amount =
    set running state (tallied by (slice_index_or running state []) key amount)

-- the pairs of each component after one more write, which changes those of its state
abbrev pub written : Topology → Custom → List (List Pair) → Write → List (List Pair)
written t custom running write =
    option_map_or
    (λ (state : StateOf). with_amount running write.state state.by write.key write.amount)
    (state_at t custom write.state) running

-- the pairs of each component, where a state's have each key that was written for it
pub record AreRunningTables (t : Topology) (custom : Custom) (writes : List Write)
    (running : List (List Pair)) : Type 0 where
  pub count : length running ≡ length t.components
  pub tables : (number : ℕ)
      → IfSome (state_at t custom number)
      (λ state. IsTally state.by writes number (slice_index_or running number []))

-- the same pairs in the order of their keys
pub record AreSorted (pairs sorted : List Pair) : Type 0 where
  pub ordered : AreInOrder sorted
  pub values : (key : List ℕ) → value_at sorted key ≡ value_at pairs key

-- where a component is a state, one more table with its name and some pairs in order
abbrev pub AddsTable : Option StateOf → List Pair → List Table → List Table → Type 0
AddsTable None pairs old new = new ≡ old
AddsTable (Some state) pairs old new =
    (sorted : List Pair) × AreSorted pairs sorted
    × (new ≡ old ++ record { name = state.name; pairs = sorted } ∷ [])
