use Rattle.tree_model.proofs.Within.{within_at}
use Rattle.tree_model.proofs.laws.rows_of_nodes_are_within_limits.Goals as goal

pub returns : goal.returns
returns c = λ t custom rows path node valid wired keeps all is. within_at t custom valid wired keeps rows path node all is
