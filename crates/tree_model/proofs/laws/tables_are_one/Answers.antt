use Rattle.tree_model.proofs.Single.{tables_same}
use Rattle.tree_model.proofs.laws.tables_are_one.Goals as goal

pub returns : goal.returns
returns c = tables_same
