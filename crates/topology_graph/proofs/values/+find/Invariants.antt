use Rattle.std.proofs.Common.{◌≡◌, ℕ, ◌<◌, Some, slice_get}
use Rattle.topology_plan.specs.declared.parts.Origin.{Origin}
use Rattle.topology_graph.specs.declared.values.Feed.{Feed}
use Rattle.topology_graph.specs.Graph.{AreRight, IsKnown}
use Rattle.topology_graph.proofs.ValueLemmas.{depth_at}
use Rattle.topology_graph.proofs.values.+find.Given as goal

abbrev pub decreases-find : goal.decreases-find
decreases-find g l = depth_at l.graph.now l.from

abbrev pub invariant-loop-feed : goal.invariant-loop-feed
invariant-loop-feed g l = record {
  right : AreRight (g.R.Along.rule l.rule) l.graph l.known;
  kept : (other : Origin) → IsKnown l.initial.known other → IsKnown l.known other;
  found : (k : ℕ) (feed : Feed) → k < l.feed-index → slice_get l.feed-items k ≡ Some feed → IsKnown l.known feed.from;
}
