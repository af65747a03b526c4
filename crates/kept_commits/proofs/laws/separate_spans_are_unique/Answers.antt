use Rattle.kept_commits.proofs.Unique.{one_list}
use Rattle.kept_commits.proofs.laws.separate_spans_are_unique.Goals as goal

pub returns : goal.returns
returns c = one_list
