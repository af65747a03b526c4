use Rattle.tracked_trees.proofs.Short.{short}
use Rattle.tracked_trees.proofs.laws.paths_are_short.Goals as goal

pub returns : goal.returns
returns c = short
