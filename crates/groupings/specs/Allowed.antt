-- What a grouping allows, apart from how a router chooses.
use Rattle.std.specs.Prelude.{◌≡◌, ℕ, ◌+◌, ◌%◌, ◌<◌, ◌≤◌, ◌==◌, List, [], ◌∷◌, count_by, slice_get}
use Rattle.std.specs.List.{range_with_len}
use Rattle.storm_values.specs.declared.value.Value.{Value}
use Rattle.storm_values.specs.Keys.{hash_of}
use Rattle.storm_values.specs.Limits.{most_tasks_in_all}
use Rattle.storm_values.specs.Rows.{values_in}
use Rattle.topology_plan.specs.declared.parts.Grouping.{Grouping}
use Rattle.topology_plan.specs.declared.parts.Grouping.TheVariants as grouping
use Rattle.groupings.specs.declared.lane.Lane.{Lane}
use Rattle.groupings.specs.declared.lane.Targets.{Targets}
use Rattle.groupings.specs.declared.lane.Targets.TheVariants.{One, All}
use Rattle.groupings.specs.Routing.{chosen, moved, targets}

-- a lane has tasks, its turn is one of them, and their numbers are a plan's
pub record IsLane (lane : Lane) : Type 0 where
  pub some : 1 ≤ lane.tasks
  pub few : lane.first + lane.tasks ≤ most_tasks_in_all
  pub turn : lane.turn < lane.tasks

-- the tasks that are told, in order
abbrev pub told : Targets → List ℕ
told (One task) = task ∷ []
told (All first count) = range_with_len first count

-- a grouping allows this one of the consumer's n tasks, counted from 0, for a row
abbrev pub MayGo : Grouping → List Value → ℕ → ℕ → Type 0
MayGo grouping.Shuffle row n task = task < n
MayGo (grouping.Fields key) row n task = task ≡ hash_of (values_in row key) % n
MayGo grouping.All row n task = task < n
MayGo grouping.Global row n task = task ≡ 0
MayGo (grouping.Direct field) row n task = task ≡ chosen (slice_get row field) n

-- the task is one of the lane's, and its grouping allows it
abbrev pub IsAllowed : Lane → List Value → ℕ → Type 0
IsAllowed lane row task =
    (k : ℕ) × (task ≡ lane.first + k) × (k < lane.tasks) × MayGo lane.by row lane.tasks k

-- the targets of some rows one after another along a lane
abbrev pub routed : Lane → List (List Value) → List Targets
routed lane [] = []
routed lane (row ∷ rows) = targets lane row ∷ routed (moved lane) rows

-- the numbers of tuples that any two of the consumer's tasks were given differ by at most one
abbrev pub IsEven : ℕ → ℕ → List ℕ → Type 0
IsEven first n given =
    (a b : ℕ) → a < n → b < n
    → count_by (λ task. task == first + a) given ≤ count_by (λ task. task == first + b) given + 1
