use Rattle.std.specs.Vec.Iter.{into_iter_items}
use Rattle.acker_core.proofs.Stack.{Kept}
use Rattle.acker_core.proofs.check.odd_of_sorted.Given as goal

abbrev pub invariant-loop-edge : goal.invariant-loop-edge
invariant-loop-edge l = record {
  can_go_on : (goal.iterator-loop-edge).can_next l.edge-iterator;
  will_end : (goal.iterator-loop-edge).is_finite l.edge-iterator;
  kept : Kept l.fn.edges.items (into_iter_items l.edge-iterator) l.left.items;
}
