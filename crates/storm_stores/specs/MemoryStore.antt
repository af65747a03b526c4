-- A store in memory.
use Rattle.std.specs.Prelude.{ℕ, ◌≡◌, ◌-◌, ◌^◌, min, List, [], ◌∷◌, Bool, true, false, Option, Some, None}
use Rattle.call_log.specs.Calls.{CallLog, no_calls, failing_as}
use Rattle.storm_stores.specs.CellMaps.{CellMap, InKeyOrder, with_cell}
use Rattle.storm_stores.specs.declared.calls.CallKind.{CallKind}
use Rattle.storm_stores.specs.declared.calls.CallKind.TheVariants.{Get, Put, Count, KeyAt}

-- the map, the calls of each kind, those that fail with whether they happen all the same, and how
-- many have failed
pub record StoreState : Type 0 where
  pub cells : CellMap
  pub gets : CallLog Bool
  pub puts : CallLog Bool
  pub counts : CallLog Bool
  pub keys : CallLog Bool
  pub faults : ℕ

-- a store with these cells, whose calls do not fail
abbrev pub store_of : CellMap → StoreState
store_of cells =
    record {
      cells = cells;
      gets = no_calls;
      puts = no_calls;
      counts = no_calls;
      keys = no_calls;
      faults = 0;
    }

-- the number of a call that is to fail, and whether it happens all the same
pub record Failing : Type 0 where
  pub number : ℕ
  pub happened : Bool

-- this call fails too
abbrev pub failing : CallLog Bool → Failing → CallLog Bool
failing calls call = failing_as calls call.number call.happened

-- a call of this kind fails too
abbrev pub failing_of : CallKind → Failing → StoreState → StoreState
failing_of Get call store = record store { gets = failing store.gets call }
failing_of Put call store = record store { puts = failing store.puts call }
failing_of Count call store = record store { counts = failing store.counts call }
failing_of KeyAt call store = record store { keys = failing store.keys call }

-- a count that ends at 2^64 - 1
abbrev pub ended : ℕ → ℕ
ended count = min count (2 ^ 64 - 1)

-- the cells, their keys in order
abbrev pub Holds : StoreState → CellMap → Type 0
Holds store cells = (cells ≡ store.cells) × InKeyOrder cells

-- the map that the entries of a table make, in whatever order they stand
abbrev pub cells_of : CellMap → CellMap
cells_of [] = []
cells_of (entry ∷ entries) = with_cell (cells_of entries) entry.0 entry.1

-- what is there after a put that failed, which perhaps happened
abbrev pub cells_after : Option Bool → CellMap → List ℕ → List ℕ → CellMap
cells_after None cells key cell = cells
cells_after (Some false) cells key cell = cells
cells_after (Some true) cells key cell = with_cell cells key cell
