use Rattle.acker_core.proofs.Stack.{left-permuted}
use Rattle.acker_core.proofs.check.odd_edges.Goals as goal

pub returns : goal.returns
returns c =
    left-permuted c.args.edges.items c.sort_edges.new.edges.items c.in_ok-left.left.items c.sort_edges.ensures.permutation c.in_ok-left.ensures
