use Rattle.std.proofs.Common.{rules}
use Rattle.std.specs.Ordering.{is_lt}
use Rattle.std.proofs.lemmas.List.Sorted.{ranks_by, answers_always, sorted_far}
use Rattle.tree_model.specs.tuple_tickets.declared.edge.Edge.{Edge}
use Rattle.tree_model.specs.tuple_tickets.Edges.{edge_cmp}
use Rattle.tree_model.proofs.tuple_tickets.EdgeOrder.{edge_cmp-total}
use Rattle.acker_core.proofs.Stack.{in-order}
use Rattle.acker_core.proofs.check.sort_edges.Goals as goal

pub returns-clause-sorted : goal.returns-clause-sorted
returns-clause-sorted c =
    in-order _ (λ i j d le below.
    sorted_far (λ a b. is_lt (edge_cmp a b)) (ranks_by edge_cmp-total (λ (e : Edge). e)) _
    (c.sort_unstable_by.ensures.sorted (λ a b. is_lt (edge_cmp a b)) (ranks_by edge_cmp-total (λ (e : Edge). e)) (answers_always _ _ _ (λ f a r q k. search rules)))
    i j d le below)
