-- What each step adds to what happened: the pieces of work that it does, with the true places of
-- the words that it draws. This project's own.
use Rattle.std.specs.Prelude.{ℕ, zero, suc, ◌+◌, ◌-◌, if◌then◌else◌, List, [], ◌∷◌, ◌++◌, length, map, slice_get}
use Rattle.std.specs.List.{range_with_len}
use Rattle.commit_order.specs.acker_core.declared.verdict.Verdict.{Verdict}
use Rattle.commit_order.specs.bolt_ops.RowOp.{Custom}
use Rattle.commit_order.specs.Orders.{Stand}
use Rattle.commit_order.specs.commit_turns.Outcomes.{hears}
use Rattle.event_worlds.specs.Worlds.{AckerSide, Known, Step, TaskSide, World, acker_at, aged, execution_by, first_counts, is_over, next_words, of_acker, of_open, of_outcome, of_shut, of_task, of_tick, of_turn, opened, task_at, task_needs, turn_needs, turned_in}
use Rattle.commit_order.specs.rotating_ledger.Held.{Held, dropped}
use Rattle.commit_order.specs.storm_values.declared.value.Root.{Root}
use Rattle.commit_order.specs.topology_plan.Topology.{Topology, tasks_in_all}
use Rattle.commit_order.specs.tree_model.declared.messages.AckMsg.{AckMsg}
use Rattle.commit_order.specs.tree_model.declared.messages.Parcel.{Parcel}
use Rattle.commit_order.specs.tree_model.declared.messages.Tuple.{Tuple}
use Rattle.commit_order.specs.taken_records.Cuts.{Cut}
use Rattle.commit_order.specs.tuple_account.Histories.{History, Opening, Start, nothing}
use Rattle.commit_order.specs.tuple_account.Parts.{executing, meeting}

-- ---- a task

module _ (t : Topology) (custom : Custom) where
  -- the front tuple is executed, with these ids, the first of which is at this place
  abbrev pub executes : ℕ → ℕ → List ℕ → Stand → List Tuple → History
  executes n at ids s [] = nothing
  executes n at ids s (tuple ∷ rest) =
      executing (execution_by t custom n (record s { given = at }) tuple ids)

  abbrev pub task_adds_past : ℕ → ℕ → List ℕ → TaskSide → List Parcel → History
  task_adds_past n at ids side (parcel ∷ rest) = nothing
  task_adds_past n at ids side [] = executes n at ids side.stand side.inbox

  -- a hand-over adds nothing
  abbrev pub task_adds : ℕ → ℕ → List ℕ → TaskSide → History
  task_adds n at ids side = task_adds_past n at ids side side.outbox

-- ---- an acker

-- the roots and lists that so many rotations drop
abbrev pub lost : ℕ → ℕ → List (Held (List AckMsg)) → List (Root × List AckMsg)
lost buckets zero entries = []
lost buckets (suc n) entries = lost buckets n entries ++ dropped buckets (aged buckets n entries)

-- an acker with these entries meets the front message
abbrev pub meets_front : ℕ → List AckMsg → List (Held (List AckMsg)) → History
meets_front n [] entries = nothing
meets_front n (m ∷ rest) entries = meeting n m entries

-- its entries rotate first
abbrev pub acker_adds_past : ℕ → ℕ → ℕ → AckerSide → List Verdict → History
acker_adds_past n buckets tick side (verdict ∷ rest) = nothing
acker_adds_past n buckets tick side [] =
    record (meets_front n side.inbox (aged buckets (tick - side.counted) side.entries))
    { dropped = lost buckets (tick - side.counted) side.entries }

abbrev pub acker_adds : ℕ → ℕ → ℕ → AckerSide → History
acker_adds n buckets tick side = acker_adds_past n buckets tick side side.outbox

-- ---- the coordinator

-- openings with the true places of their words, the first of which is at this one
abbrev pub placed : ℕ → List Opening → List Opening
placed at [] = []
placed at (o ∷ openings) =
    record o { begun = record o.begun { at = at } } ∷ placed (at + length o.begun.ids) openings

module _ (t : Topology) (cut : Cut) where
  -- the front verdict is heard, and attempts begin
  abbrev pub turn_adds_past : ℕ → List ℕ → World → List Parcel → History
  turn_adds_past at ids w (parcel ∷ rest) = nothing
  turn_adds_past at ids w [] =
      hears (slice_get w.verdicts 0)
      (placed at (opened t cut w.spout (turned_in t cut w).begun ids))

  abbrev pub turn_adds : ℕ → List ℕ → World → History
  turn_adds at ids w = turn_adds_past at ids w w.orders

-- ---- at first

-- each source of a task and of the coordinator gave its start words
abbrev pub first_start : Topology → (ℕ → ℕ → ℕ) → ℕ → Start
first_start t words n = record { source = n; at = 0; count = first_counts t words n }

abbrev pub first_history : Topology → (ℕ → ℕ → ℕ) → History
first_history t words =
    record nothing { starts = map (first_start t words) (range_with_len 0 (tasks_in_all t + 1)) }

-- ---- steps

module _ (t : Topology) (custom : Custom) (cut : Cut) (words : ℕ → ℕ → ℕ) where
  -- what a step adds, where sources have these words
  abbrev pub step_adds : Step → Known → History
  step_adds (of_task n) k =
      task_adds t custom n (k.counts n)
      (next_words words k.counts n (task_needs t custom (task_at t n k.world)))
      (task_at t n k.world)
  step_adds (of_acker n) k = acker_adds n t.buckets k.world.tick (acker_at n k.world)
  step_adds of_turn k =
      turn_adds t cut (k.counts (tasks_in_all t))
      (next_words words k.counts (tasks_in_all t) (turn_needs t cut k.world)) k.world
  step_adds of_outcome k = nothing
  step_adds of_tick k = nothing
  step_adds (of_shut q) k = nothing
  step_adds (of_open q) k = nothing

  -- when all is over nothing is added
  abbrev pub added : Step → Known → History
  added s k = if is_over t cut k.world then nothing else step_adds s k
