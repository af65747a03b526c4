use Rattle.kept_commits.proofs.Unique.{one_text}
use Rattle.kept_commits.proofs.laws.kept_texts_are_unique.Goals as goal

pub returns : goal.returns
returns c = one_text
