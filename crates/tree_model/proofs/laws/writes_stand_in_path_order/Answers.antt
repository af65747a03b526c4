use Rattle.tree_model.proofs.TreePaths.{paths, paths_are, writes_in_order, as_many_paths}
use Rattle.tree_model.proofs.laws.writes_stand_in_path_order.Goals as goal

pub returns-clause-paths : goal.returns-clause-paths
returns-clause-paths c = λ t custom rows valid. (paths t custom rows, paths_are t custom rows valid)

pub returns-clause-writes : goal.returns-clause-writes
returns-clause-writes c = writes_in_order

pub returns-clause-count : goal.returns-clause-count
returns-clause-count c = as_many_paths
