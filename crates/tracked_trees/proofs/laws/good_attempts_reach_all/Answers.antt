use Rattle.tracked_trees.proofs.Good.{whole}
use Rattle.tracked_trees.proofs.laws.good_attempts_reach_all.Goals as goal

pub returns : goal.returns
returns c = whole
