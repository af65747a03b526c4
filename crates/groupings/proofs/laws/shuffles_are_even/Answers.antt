use Rattle.groupings.proofs.Even.{even}
use Rattle.groupings.proofs.laws.shuffles_are_even.Goals as goal

pub returns : goal.returns
returns c = even
