-- Where everything stands in a world: tuples at tasks that take them, and messages at ackers that
-- are there. This project's own.
use Rattle.std.specs.Prelude.{◌≡◌, ◌<◌, ℕ, suc, List, [], ◌∷◌, All, length}
use Rattle.std.specs.List.{AllByRecursion}
use Rattle.commit_order.specs.Orders.{Stand}
use Rattle.event_worlds.specs.Worlds.{TaskSide, World}
use Rattle.groupings.specs.Allowed.{IsLane}
use Rattle.commit_order.specs.output_collector.Outlets.{HasItsLanes}
use Rattle.commit_order.specs.storm_values.Rows.{IsRow}
use Rattle.commit_order.specs.topology_plan.declared.parts.Origin.{Origin}
use Rattle.commit_order.specs.topology_plan.declared.parts.Origin.TheVariants as origin
use Rattle.commit_order.specs.topology_plan.Topology.{Topology, component_of, tasks_in_all}
use Rattle.commit_order.specs.topology_plan.Wired.{width_to}
use Rattle.commit_order.specs.tree_model.declared.messages.Parcel.{Parcel}
use Rattle.commit_order.specs.tree_model.declared.messages.Parcel.TheVariants.{ToTask, ToAcker}
use Rattle.commit_order.specs.tree_model.declared.messages.Tuple.{Tuple}

-- a tuple is for a task's component, with a row that the component takes
pub record IsForTask (t : Topology) (n : ℕ) (tuple : Tuple) : Type 0 where
  pub to : tuple.component ≡ component_of t n
  pub row : IsRow (width_to t (component_of t n)) tuple.row

-- a parcel names a task that takes it, or an acker that is there
abbrev pub FitsParcel : Topology → Parcel → Type 0
FitsParcel t (ToTask n tuple) = (n < tasks_in_all t) × IsForTask t n tuple
FitsParcel t (ToAcker n m) = n < t.ackers

-- where the rows of a source go: along its own lanes
pub record IsStandOf (t : Topology) (from : Origin) (s : Stand) : Type 0 where
  pub topology : s.outlet.topology ≡ t
  pub of_source : s.outlet.from ≡ from
  pub lanes : HasItsLanes s.outlet
  pub sound : All IsLane s.outlet.lanes

-- a task takes the tuples in its box, and its parcels fit
pub record IsTaskOrderly (t : Topology) (n : ℕ) (side : TaskSide) : Type 0 where
  pub inbox : AllByRecursion (IsForTask t n) side.inbox
  pub outbox : AllByRecursion (FitsParcel t) side.outbox
  pub stand : IsStandOf t (origin.Component (component_of t n)) side.stand

-- the tasks from a number on are
abbrev pub AreTasksOrderly : Topology → ℕ → List TaskSide → Type 0
AreTasksOrderly t n [] = Unit {0}
AreTasksOrderly t n (side ∷ sides) = IsTaskOrderly t n side × AreTasksOrderly t (suc n) sides

-- so is a world
pub record IsOrderly (t : Topology) (w : World) : Type 0 where
  pub task_count : length w.tasks ≡ tasks_in_all t
  pub acker_count : length w.ackers ≡ t.ackers
  pub tasks : AreTasksOrderly t 0 w.tasks
  pub orders : AllByRecursion (FitsParcel t) w.orders
  pub spout : IsStandOf t origin.Spout w.spout
