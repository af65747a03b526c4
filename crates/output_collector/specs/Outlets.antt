-- Where the rows of a source go, and which tuples they become: row by row, for each row along the
-- lane of each subscription, for each lane the tasks that its grouping tells. After Storm's
-- documentation, "Concepts" (stream groupings, anchored tuples); the order is this project's own.
use Rattle.std.specs.Prelude.{◌≡◌, ℕ, List, [], ◌∷◌, ◌++◌, map}
use Rattle.std.specs.List.{flat_map, AllZip}
use Rattle.tuple_account.specs.storm_values.declared.value.Root.{Root}
use Rattle.tuple_account.specs.storm_values.declared.value.Value.{Value}
use Rattle.tuple_account.specs.topology_plan.declared.parts.Origin.{Origin}
use Rattle.tuple_account.specs.topology_plan.declared.parts.Sub.{Sub}
use Rattle.tuple_account.specs.topology_plan.Topology.{Topology, subs_of, tasks_of}
use Rattle.groupings.specs.declared.lane.Lane.{Lane}
use Rattle.groupings.specs.Allowed.{told}
use Rattle.groupings.specs.Routing.{first_task_of, moved, targets}
use Rattle.tuple_account.specs.tree_model.declared.messages.Parcel.{Parcel}
use Rattle.tuple_account.specs.tree_model.declared.messages.Tuple.{Tuple}
use Rattle.tuple_account.specs.tree_model.Trees.{kids}
use Rattle.tuple_account.specs.Issued.{tuples_from}
use Rattle.tuple_account.specs.Histories.{to_tasks}

-- a source of a topology, with the lanes of its subscriptions
pub record Outlet : Type 0 where
  pub topology : Topology
  pub from : Origin
  pub lanes : List Lane

-- the lane is that of a subscription, whatever its turn
pub record IsLaneOf (t : Topology) (sub : Sub) (lane : Lane) : Type 0 where
  pub first : lane.first ≡ first_task_of t sub.to
  pub tasks : lane.tasks ≡ tasks_of t sub.to
  pub by : lane.by ≡ sub.grouping

-- the lanes are those of the source's subscriptions
abbrev pub AreLanesOf : Topology → Origin → List Lane → Type 0
AreLanesOf t from lanes = AllZip (IsLaneOf t) (subs_of t from) lanes

abbrev pub HasItsLanes : Outlet → Type 0
HasItsLanes o = AreLanesOf o.topology o.from o.lanes

-- both are of one source of one topology
pub record IsSameSource (a b : Outlet) : Type 0 where
  pub topology : a.topology ≡ b.topology
  pub from : a.from ≡ b.from

-- the tasks that a row goes to
abbrev pub tasks_for_row : List Lane → List Value → List ℕ
tasks_for_row lanes row = flat_map (λ lane. told (targets lane row)) lanes

-- the tasks that rows go to, one row after another
abbrev pub tasks_for : List Lane → List (List Value) → List ℕ
tasks_for lanes [] = []
tasks_for lanes (row ∷ rows) = tasks_for_row lanes row ++ tasks_for (map moved lanes) rows

-- the lanes after these rows
abbrev pub lanes_after : List Lane → List (List Value) → List Lane
lanes_after lanes [] = lanes
lanes_after lanes (row ∷ rows) = lanes_after (map moved lanes) rows

abbrev pub after_rows : List (List Value) → Outlet → Outlet
after_rows rows o = record o { lanes = lanes_after o.lanes rows }

-- the tuples that rows become below a path, with an id each
abbrev pub tuples_for : Outlet → Root → List ℕ → List (List Value) → List ℕ → List Tuple
tuples_for o root path rows ids = tuples_from root path 0 (kids o.topology o.from rows) ids

-- the same, each on its way to its task
abbrev pub parcels_for : Outlet → Root → List ℕ → List (List Value) → List ℕ → List Parcel
parcels_for o root path rows ids =
    to_tasks (tuples_for o root path rows ids) (tasks_for o.lanes rows)
