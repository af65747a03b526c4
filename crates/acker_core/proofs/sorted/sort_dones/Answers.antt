use Rattle.std.proofs.Common.{rules}
use Rattle.std.specs.Ordering.{is_lt}
use Rattle.std.proofs.lemmas.Cmp.{nat_list_cmp_total}
use Rattle.std.proofs.lemmas.List.Sorted.{ranks_by, answers_always, sorted_far}
use Rattle.tree_model.specs.storm_values.Order.{path_cmp}
use Rattle.acker_core.proofs.PathOrders.{in-order, path_beside}
use Rattle.acker_core.proofs.sorted.sort_dones.Goals as goal

pub returns-clause-ordered : goal.returns-clause-ordered
returns-clause-ordered c =
    in-order _ (λ i j d le below.
    sorted_far (λ a b. is_lt (path_cmp (path_beside a) (path_beside b))) (ranks_by nat_list_cmp_total path_beside) _
    (c.sort_unstable_by.ensures.sorted (λ a b. is_lt (path_cmp (path_beside a) (path_beside b))) (ranks_by nat_list_cmp_total path_beside) (answers_always _ _ _ (λ f a r q k. search rules)))
    i j d le below)
