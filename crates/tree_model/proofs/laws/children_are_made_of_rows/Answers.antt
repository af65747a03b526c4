use Rattle.tree_model.proofs.Within.{children_of_rows}
use Rattle.tree_model.proofs.laws.children_are_made_of_rows.Goals as goal

pub returns : goal.returns
returns c = children_of_rows
