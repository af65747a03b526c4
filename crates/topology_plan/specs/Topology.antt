-- What a plan is, seen by contracts, and its numbers. This project's own.
use Rattle.std.specs.Prelude.{ℕ, zero, suc, ◌+◌, ◌*◌, ◌-◌, ◌^◌, List, [], ◌∷◌, length, map, filter, sum_by, slice_index_or, slice_get, min, max, ◌==◌, if◌then◌else◌, nat_lt}
use Rattle.std.specs.Option.{option_map_or}
use Rattle.std.specs.List.{range_with_len, flat_map}
use Rattle.topology_plan.specs.declared.parts.Component.{Component}
use Rattle.topology_plan.specs.declared.parts.Kind.{Kind}
use Rattle.topology_plan.specs.declared.parts.Origin.{Origin}
use Rattle.topology_plan.specs.declared.parts.Origin.TheVariants as origin
use Rattle.topology_plan.specs.declared.parts.Sub.{Sub}
use Rattle.topology_plan.specs.declared.parts.Grouping.{Grouping}
use Rattle.topology_plan.specs.declared.parts.Grouping.TheVariants as grouping

-- A topology: one spout, and components that are the bolts and then the states, each in file order.
-- The subscriptions of a source stand in the order of their consumers.
pub record Topology : Type 0 where
  pub spout_fields : List (List ℕ)
  pub spout_kind : Kind
  pub batch : ℕ
  -- 0 where the spout has none
  pub partitions : ℕ
  pub components : List Component
  pub spout_subs : List Sub
  pub component_subs : List (List Sub)
  pub ackers : ℕ
  pub pending : ℕ
  pub buckets : ℕ
  pub attempts : ℕ

-- the subscriptions of a source
abbrev pub subs_of : Topology → Origin → List Sub
subs_of t origin.Spout = t.spout_subs
subs_of t (origin.Component c) = slice_index_or t.component_subs c []

-- how many tasks a component has; a state's tasks are its parts
abbrev pub tasks_of : Topology → ℕ → ℕ
tasks_of t c =
    option_map_or (λ (component : Component). component.tasks) (slice_get t.components c) 0

-- how many copies of a tuple go to the consumer of a subscription
abbrev pub copies_by : Grouping → ℕ → ℕ
copies_by grouping.Shuffle tasks = 1
copies_by (grouping.Fields key) tasks = 1
copies_by grouping.All tasks = tasks
copies_by grouping.Global tasks = 1
copies_by (grouping.Direct field) tasks = 1

-- how many copies of a tuple go to this consumer
abbrev pub copies_of : Topology → Sub → ℕ
copies_of t sub = copies_by sub.grouping (tasks_of t sub.to)

-- tasks and parts of all components
abbrev pub tasks_in_all : Topology → ℕ
tasks_in_all t = sum_by (λ (component : Component). component.tasks) t.components

-- the component of a task number, the tasks of these components having the numbers from 0 and the
-- first of them the number c
abbrev pub component_from : ℕ → ℕ → List Component → ℕ
component_from c task [] = c
component_from c task (component ∷ components) =
    if nat_lt task component.tasks then c
    else component_from (c + 1) (task - component.tasks) components

-- the component that a task belongs to
abbrev pub component_of : Topology → ℕ → ℕ
component_of t task = component_from 0 task t.components

-- ---- depth and weight

-- the spout and the components
abbrev pub origins : Topology → List Origin
origins t = origin.Spout ∷ map origin.Component (range_with_len 0 (length t.components))

-- the sources of a component, each once for each of its subscriptions to it
abbrev pub inputs_of : Topology → ℕ → List (Origin × Sub)
inputs_of t c =
    flat_map (λ from.
    map (λ sub. (from, sub)) (filter (λ (sub : Sub). sub.to == c) (subs_of t from))) (origins t)

-- the greatest of some numbers, 0 where there are none
abbrev pub greatest : List ℕ → ℕ
greatest [] = 0
greatest (n ∷ ns) = max n (greatest ns)

-- The depth of the spout is 0, that of a component 1 more than the greatest of its sources. Where
-- there is no cycle, a chain of subscriptions goes through each component at most once, so as many
-- steps as there are components reach everything.
abbrev pub depth_within : ℕ → Topology → Origin → ℕ
depth_within n t origin.Spout = 0
depth_within zero t (origin.Component c) = 0
depth_within (suc n) t (origin.Component c) =
    1 + greatest (map (λ input. depth_within n t input.0) (inputs_of t c))

-- the greatest depth of the spout and the components, where there is no cycle
unfoldable pub depth_of : Topology → ℕ
depth_of t = greatest (map (depth_within (length t.components) t) (origins t))

-- the number at which weights end
abbrev pub weight_end : ℕ
weight_end = 2 ^ 64 - 1

-- sums and products that end at 2^64 - 1
abbrev pub ended_sum : List ℕ → ℕ
ended_sum [] = 0
ended_sum (n ∷ ns) = min (n + ended_sum ns) weight_end

-- How many tuples one tuple of the spout can make at most at a source, if each bolt emits one row
-- for a row. Where there is no cycle, as many steps as there are components count them all.
abbrev pub tuples_within : ℕ → Topology → Origin → ℕ
tuples_within n t origin.Spout = 1
tuples_within zero t (origin.Component c) = 0
tuples_within (suc n) t (origin.Component c) =
    ended_sum
    (map (λ input. min (tuples_within n t input.0 * copies_of t input.1) weight_end)
    (inputs_of t c))

-- the same at all components together, where there is no cycle
unfoldable pub weight_of : Topology → ℕ
weight_of t =
    ended_sum
    (map (λ c. tuples_within (length t.components) t (origin.Component c))
    (range_with_len 0 (length t.components)))
