use Rattle.tree_model.proofs.Counts.{node_count-append, node_count-range}
use Rattle.tree_model.proofs.laws.nodes_of_joined_rows.Goals as goal

pub returns-clause-sum : goal.returns-clause-sum
returns-clause-sum c = node_count-append

pub returns-clause-part : goal.returns-clause-part
returns-clause-part c = node_count-range
