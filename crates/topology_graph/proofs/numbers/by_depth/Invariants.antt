use Rattle.std.proofs.Common.{◌≡◌}
use Rattle.std.specs.List.{flat_map, range_with_len}
use Rattle.topology_graph.specs.Graph.{at_depth}
use Rattle.topology_graph.proofs.numbers.by_depth.Given as goal

abbrev pub invariant-loop-below : goal.invariant-loop-below
invariant-loop-below l = l.order.items ≡ flat_map (at_depth l.depths.items) (range_with_len 1 l.below)
