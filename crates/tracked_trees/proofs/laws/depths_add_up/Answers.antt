use Rattle.tracked_trees.proofs.Depths.{depths}
use Rattle.tracked_trees.proofs.laws.depths_add_up.Goals as goal

pub returns : goal.returns
returns c = λ t custom attempt levels nodes f. depths t custom attempt f levels nodes
