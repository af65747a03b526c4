use Rattle.tracked_trees.proofs.Good.{all_go, good_of}
use Rattle.tracked_trees.proofs.laws.good_trees_go.Goals as goal

pub returns : goal.returns
returns c = λ t custom attempt row valid. (all_go t custom attempt row valid, good_of t custom attempt row)
