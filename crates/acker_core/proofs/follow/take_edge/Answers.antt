use Rattle.std.proofs.Common.{rules}
use Rattle.acker_core.specs.Orders.{edge_of, edges_by}
use Rattle.acker_core.proofs.Walks.{taken}
use Rattle.acker_core.proofs.follow.take_edge.Goals as goal

pub returns : goal.returns
returns c =
    taken c.args.waiting.now.items c.pop.new.self.items c.add_open.new.waiting.items c.in-Some.top (edge_of c.in-Some-split.edge) (edges_by c.in-Some-split.others)
    (search rules) (search rules) (search rules)
