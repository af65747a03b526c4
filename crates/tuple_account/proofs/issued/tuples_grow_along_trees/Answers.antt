use Rattle.tuple_account.proofs.Sound.{once, nodes}
use Rattle.tuple_account.proofs.issued.tuples_grow_along_trees.Goals as goal

pub returns-clause-once : goal.returns-clause-once
returns-clause-once c = once

pub returns-clause-nodes : goal.returns-clause-nodes
returns-clause-nodes c = nodes
