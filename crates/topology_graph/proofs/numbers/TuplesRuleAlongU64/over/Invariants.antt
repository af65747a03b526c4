use Rattle.std.proofs.Common.{◌≡◌, ◌≤◌, ◌+◌, drop, min}
use Rattle.topology_plan.specs.Topology.{ended_sum, weight_end}
use Rattle.topology_graph.proofs.NumberLemmas.{tuples_seen}
use Rattle.topology_graph.proofs.numbers.TuplesRuleAlongU64.over.Given as goal

abbrev pub invariant-loop-feed : goal.invariant-loop-feed
invariant-loop-feed l =
    (l.total ≤ weight_end) × (min (l.total + ended_sum (tuples_seen l.known (drop l.feed-index l.feeds))) weight_end ≡ ended_sum (tuples_seen l.known l.feeds))
