use Rattle.tuple_tickets.proofs.Once.{once, nodes}
use Rattle.tuple_tickets.proofs.laws.tickets_grow_along_trees.Goals as goal

pub returns-clause-once : goal.returns-clause-once
returns-clause-once g c = once

pub returns-clause-nodes : goal.returns-clause-nodes
returns-clause-nodes g c = λ coded growth. nodes growth coded
