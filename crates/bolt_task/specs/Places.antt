-- Where a task stands. This project's own.
use Rattle.std.specs.Prelude.{◌≡◌, ◌<◌, ℕ, length}
use Rattle.tuple_account.specs.topology_plan.declared.parts.Origin.TheVariants as origin
use Rattle.tuple_account.specs.topology_plan.Topology.{Topology, tasks_in_all, component_of}
use Rattle.output_collector.specs.declared.collector.Collector.{Collector}
use Rattle.output_collector.specs.Collectors.{outlet_of, source_of}

-- The task is one of a component's, and the collector is that component's: the words of its ids
-- are those of the task's own source.
pub record IsPlaced {I : Type 0} (t : Topology) (component task : ℕ) (collector : Collector I)
    : Type 0 where
  pub topology : (outlet_of collector).topology ≡ t
  pub from : (outlet_of collector).from ≡ origin.Component component
  pub source : source_of collector ≡ task
  pub within : component < length t.components
  pub there : task < tasks_in_all t
  pub belongs : component_of t task ≡ component
