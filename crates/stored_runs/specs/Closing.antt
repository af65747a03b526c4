-- How the answer of a run over parts comes to its end. This project's own.
use Rattle.std.specs.Prelude.{◌≡◌, ◌⊎◌, ℕ, List, Result, Ok, Err}
use Rattle.std.specs.List.{AllZip}
use Rattle.event_worlds.specs.commit_order.declared.stop.Stop.{Stop}
use Rattle.event_worlds.specs.commit_order.declared.stop.Stop.TheVariants as stop
use Rattle.schedule_core.specs.declared.ended.Ended.{Ended}
use Rattle.schedule_core.specs.declared.ended.Ended.TheVariants as ended
use Rattle.event_worlds.specs.state_parts.declared.parts.StatePart.{StatePart}
use Rattle.event_worlds.specs.state_parts.PartTables.{IsBadRowAt, IsTableOver, OneRaised}
use Rattle.storm_stores.specs.CellMaps.{CellMap}
use Rattle.stored_runs.specs.declared.ending.RunEnd.{RunEnd}
use Rattle.stored_runs.specs.declared.ending.RunEnd.TheVariants as end
use Rattle.event_worlds.specs.bolt_ops.RowOp.{Custom}
use Rattle.event_worlds.specs.topology_plan.Topology.{Topology}
use Rattle.event_worlds.specs.tree_model.Tables.{states_of}

-- Where no record was left uncommitted the parts were read: they have these tables, or a store
-- failed, or one has a cell that no table takes, or memory was wanted. All other answers stand as
-- they are.
abbrev pub Closes : {S E : Type 0} → (S → CellMap → Type 0) → (S → ℕ) → Topology
    → Result Ended Stop → List (StatePart S) → List (StatePart S) → Result RunEnd E → Type 0
Closes tells count t answer old new (Ok (end.All tables)) =
    (answer ≡ Ok ended.All)
    × ((custom : Custom) → AllZip (IsTableOver tells old) (states_of t custom) tables)
Closes tells count t answer old new (Ok (end.Exhausted txid)) = answer ≡ Err (stop.Exhausted txid)
Closes tells count t answer old new (Ok (end.Unfinished many)) =
    answer ≡ Ok (ended.Unfinished many)
Closes tells count t answer old new (Ok end.StoreFault) =
    (answer ≡ Ok ended.All) × OneRaised count old new
Closes tells count t answer old new (Ok (end.BadCell key)) =
    (answer ≡ Err (stop.BadCell key)) ⊎ ((answer ≡ Ok ended.All) × IsBadRowAt tells old key)
Closes tells count t answer old new (Ok (end.Follow txid)) = answer ≡ Err (stop.Follow txid)
Closes tells count t answer old new (Err e) = (answer ≡ Err stop.Memory) ⊎ (answer ≡ Ok ended.All)
