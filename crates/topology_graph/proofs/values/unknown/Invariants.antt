use Rattle.std.proofs.Common.{◌≡◌, replicate, None}
use Rattle.topology_graph.proofs.values.unknown.Given as goal

abbrev pub invariant-loop-c : goal.invariant-loop-c
invariant-loop-c g l = l.known.items ≡ replicate l._c None
