use Rattle.tuple_tickets.proofs.EdgeOrder.{edge_cmp-total, edge_cmp-apart}
use Rattle.tuple_tickets.proofs.edge.edge_order_is_total.Goals as goal

pub returns-clause-total : goal.returns-clause-total
returns-clause-total c = edge_cmp-total

pub returns-clause-apart : goal.returns-clause-apart
returns-clause-apart c = edge_cmp-apart
