use Rattle.tree_model.specs.Trees.{writes}
use Rattle.state_parts.proofs.TreeWrites.{placed_have_one_part, writes_are_placed}
use Rattle.state_parts.proofs.laws.writes_of_trees_are_placed.Goals as goal

pub returns-clause-placed : goal.returns-clause-placed
returns-clause-placed c = λ t custom rows. writes_are_placed t custom rows

pub returns-clause-one_part : goal.returns-clause-one_part
returns-clause-one_part c = λ t custom rows. placed_have_one_part t (writes t custom rows) (writes_are_placed t custom rows)

pub returns-clause-all_have_one_part : goal.returns-clause-all_have_one_part
returns-clause-all_have_one_part c = λ t made placed. placed_have_one_part t made placed
