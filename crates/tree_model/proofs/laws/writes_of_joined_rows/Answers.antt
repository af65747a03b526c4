use Rattle.tree_model.proofs.Walks.{writes-append}
use Rattle.tree_model.proofs.laws.writes_of_joined_rows.Goals as goal

pub returns : goal.returns
returns c = writes-append
