use Rattle.std.proofs.Common.{◌≡◌, drop, max}
use Rattle.topology_plan.specs.Topology.{greatest}
use Rattle.topology_graph.proofs.numbers.greatest.Given as goal

abbrev pub invariant-loop-number : goal.invariant-loop-number
invariant-loop-number l = max (greatest (drop l.number-index l.numbers)) l.greatest ≡ greatest l.numbers
