use Rattle.std.proofs.Common.{◌≡◌, ◌<◌, drop, sum_by}
use Rattle.topology_plan.specs.declared.parts.Component.{Component}
use Rattle.topology_plan.specs.Topology.{component_from}
use Rattle.topology_plan.proofs.plan.component_from.Given as goal

abbrev pub invariant-loop-component : goal.invariant-loop-component
invariant-loop-component l = record {
  place : l.place ≡ l.component-index;
  left : l.left < sum_by (λ (component : Component). component.tasks) (drop l.component-index l.components);
  rest : component_from l.place l.left (drop l.component-index l.components) ≡ component_from 0 l.fn.task l.components;
}
