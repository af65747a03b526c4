-- A store over a log, and the cells that it keeps in memory.
use Rattle.std.specs.Prelude.{ℕ, ◌≡◌, Bool, []}
use Rattle.storm_values.specs.Counts.{raised}
use Rattle.storm_stores.specs.CellMaps.{CellMap}
use Rattle.storm_stores.specs.MemoryStore.{StoreState}

-- No call of a store in memory is to fail.
pub record NeverFails (store : StoreState) : Type 0 where
  pub gets : store.gets.failing ≡ []
  pub puts : store.puts.failing ≡ []
  pub counts : store.counts.failing ≡ []
  pub keys : store.keys.failing ≡ []

-- The log, the cells in memory, whether every call fails from now on, and how often a call has
-- failed.
pub record PartState (L : Type 0) : Type 0 where
  pub log : L
  pub cells : CellMap
  pub is_broken : Bool
  pub faults : ℕ

-- a call that failed and changed nothing else
abbrev pub refused : {L : Type 0} → PartState L → PartState L
refused store = record store { faults = raised store.faults }
