use Rattle.std.proofs.Common.{◌≡◌, ◌≤◌, ◌+◌, drop, min}
use Rattle.topology_plan.specs.Topology.{ended_sum, weight_end}
use Rattle.topology_graph.proofs.numbers.total.Given as goal

abbrev pub invariant-loop-number : goal.invariant-loop-number
invariant-loop-number l =
    (l.total ≤ weight_end) × (min (l.total + ended_sum (drop l.number-index l.numbers)) weight_end ≡ ended_sum l.numbers)
