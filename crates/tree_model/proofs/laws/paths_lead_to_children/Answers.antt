use Rattle.tree_model.proofs.TreePaths.{node_at-one, node_at-push}
use Rattle.tree_model.proofs.laws.paths_lead_to_children.Goals as goal

pub returns-clause-first : goal.returns-clause-first
returns-clause-first c = node_at-one

pub returns-clause-next : goal.returns-clause-next
returns-clause-next c = node_at-push
