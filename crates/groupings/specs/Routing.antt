-- Which tasks a row goes to, subscription by subscription. Groupings after Storm's
-- documentation, "Concepts"; that shuffle goes round the tasks from a start word, and that the
-- hash is FNV-1a, is this project's own.
use Rattle.std.specs.Prelude.{ℕ, ◌+◌, ◌-◌, ◌%◌, List, [], ◌∷◌, Option, Some, None, pos, negsuc, slice_get}
use Rattle.std.specs.Option.{option_map_or}
use Rattle.storm_values.specs.declared.value.Value.{Value}
use Rattle.storm_values.specs.declared.value.Value.TheVariants.{Int, Text}
use Rattle.storm_values.specs.Keys.{hash_of}
use Rattle.storm_values.specs.Rows.{values_in}
use Rattle.topology_plan.specs.declared.parts.Component.{Component}
use Rattle.topology_plan.specs.declared.parts.Grouping.{Grouping}
use Rattle.topology_plan.specs.declared.parts.Grouping.TheVariants as grouping
use Rattle.topology_plan.specs.declared.parts.Sub.{Sub}
use Rattle.topology_plan.specs.Topology.{Topology, tasks_of}
use Rattle.groupings.specs.declared.lane.Lane.{Lane}
use Rattle.groupings.specs.declared.lane.Targets.{Targets}
use Rattle.groupings.specs.declared.lane.Targets.TheVariants.{One, All}

-- the first task of a component
abbrev pub first_task_of : Topology → ℕ → ℕ
first_task_of t c =
    option_map_or (λ (component : Component). component.first_task) (slice_get t.components c) 0

-- the lane of a subscription, whose first turn is told by a start word
abbrev pub lane_of : Topology → Sub → ℕ → Lane
lane_of t sub start = record {
  first = first_task_of t sub.to;
  tasks = tasks_of t sub.to;
  by = sub.grouping;
  turn = start % tasks_of t sub.to;
}

-- the lanes of some subscriptions, a start word each
abbrev pub lanes_of : Topology → List Sub → List ℕ → List Lane
lanes_of t [] starts = []
lanes_of t (sub ∷ subs) [] = []
lanes_of t (sub ∷ subs) (start ∷ starts) = lane_of t sub start ∷ lanes_of t subs starts

-- The task among n that a value chooses, counted from 0: a number by its Euclidean
-- remainder, a text by its hash.
abbrev pub chosen : Option Value → ℕ → ℕ
chosen None n = 0
chosen (Some (Int (pos a))) n = a % n
chosen (Some (Int (negsuc a))) n = n - 1 - a % n
chosen (Some (Text bytes)) n = hash_of (Text bytes ∷ []) % n

-- the tasks that a row goes to along a lane
abbrev pub targets_by : ℕ → ℕ → ℕ → Grouping → List Value → Targets
targets_by first tasks turn grouping.Shuffle row = One (first + turn)
targets_by first tasks turn (grouping.Fields key) row =
    One (first + hash_of (values_in row key) % tasks)
targets_by first tasks turn grouping.All row = All first tasks
targets_by first tasks turn grouping.Global row = One first
targets_by first tasks turn (grouping.Direct field) row =
    One (first + chosen (slice_get row field) tasks)

abbrev pub targets : Lane → List Value → Targets
targets lane row = targets_by lane.first lane.tasks lane.turn lane.by row

-- the turn after a call: a shuffle goes on to the next task, round to the first
abbrev pub turn_after : Grouping → ℕ → ℕ → ℕ
turn_after grouping.Shuffle turn tasks = (turn + 1) % tasks
turn_after (grouping.Fields key) turn tasks = turn
turn_after grouping.All turn tasks = turn
turn_after grouping.Global turn tasks = turn
turn_after (grouping.Direct field) turn tasks = turn

-- the lane after a call
abbrev pub moved : Lane → Lane
moved lane = record lane { turn = turn_after lane.by lane.turn lane.tasks }
