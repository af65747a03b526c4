use Rattle.std.proofs.Common.{◌≡◌, drop, max}
use Rattle.topology_plan.specs.Topology.{greatest}
use Rattle.topology_graph.proofs.NumberLemmas.{depths_seen}
use Rattle.topology_graph.proofs.numbers.DepthRuleAlongU64.over.Given as goal

abbrev pub invariant-loop-feed : goal.invariant-loop-feed
invariant-loop-feed l = max (greatest (depths_seen l.known (drop l.feed-index l.feeds))) l.greatest ≡ greatest (depths_seen l.known l.feeds)
