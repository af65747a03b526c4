use Rattle.std.proofs.Common.{◌≡◌, ◌++◌, drop}
use Rattle.acker_core.proofs.check.add_edges.Given as goal

abbrev pub invariant-loop-edge : goal.invariant-loop-edge
invariant-loop-edge l = l.into.items ++ drop l.edge-index l.edges ≡ l.fn.into.items ++ l.edges
