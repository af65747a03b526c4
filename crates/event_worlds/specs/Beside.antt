-- Worlds with more that waits beside them, as in boxes that others use. This project's own.
use Rattle.std.specs.Prelude.{◌≡◌, ℕ, List, []}
use Rattle.commit_order.specs.bolt_ops.RowOp.{Custom}
use Rattle.event_worlds.specs.Accounted.{LedAt, station_of}
use Rattle.event_worlds.specs.Worlds.{Known, Step, of_acker, of_open, of_outcome, of_shut, of_task, of_tick, of_turn}
use Rattle.commit_order.specs.topology_plan.Topology.{Topology}
use Rattle.commit_order.specs.tree_model.declared.messages.Parcel.{Parcel}
use Rattle.commit_order.specs.taken_records.Cuts.{Cut}
use Rattle.commit_order.specs.tuple_account.Histories.{History, Packet}
use Rattle.commit_order.specs.tuple_account.Moves.{Station, beside}

-- packets that wait, of this weight
abbrev pub waits : ((Packet → ℕ) → ℕ) → Station
waits weight = record { waiting = weight; kept = λ g. 0; given = λ s j. 0 }

-- a history led to a world and to packets that wait beside it
abbrev pub LedBeside : Topology → Custom → Cut → (ℕ → ℕ → ℕ) → ((Packet → ℕ) → ℕ) → History
    → Known → Type 0
LedBeside t custom cut words weight h k =
    LedAt t custom cut words (beside (waits weight) (station_of k)) h k

-- a turn with nothing left to hand over, an outcome, a tick, or a partition that is shut or opened
abbrev pub IsFreeStep : Step → List Parcel → Type 0
IsFreeStep (of_task n) orders = ⊥
IsFreeStep (of_acker n) orders = ⊥
IsFreeStep of_turn orders = orders ≡ []
IsFreeStep of_outcome orders = Unit {0}
IsFreeStep of_tick orders = Unit {0}
IsFreeStep (of_shut q) orders = Unit {0}
IsFreeStep (of_open q) orders = Unit {0}
