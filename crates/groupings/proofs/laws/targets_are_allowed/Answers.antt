use Rattle.groupings.proofs.Choices.{targets_allowed}
use Rattle.groupings.proofs.laws.targets_are_allowed.Goals as goal

pub returns : goal.returns
returns c = targets_allowed
