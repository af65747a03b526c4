use Rattle.std.proofs.Common.{ℕ, ◌<◌}
use Rattle.topology_plan.specs.declared.parts.Origin.TheVariants as origin
use Rattle.topology_graph.specs.Graph.{AreRight, IsKnown}
use Rattle.topology_graph.proofs.values.values_along.Given as goal

abbrev pub invariant-loop-c : goal.invariant-loop-c
invariant-loop-c g l = record {
  right : AreRight (g.R.Along.rule l.rule) l.graph l.known.items;
  found : (k : ℕ) → k < l.c → IsKnown l.known.items (origin.Component k);
}
