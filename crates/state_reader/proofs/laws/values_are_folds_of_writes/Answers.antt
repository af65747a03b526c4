use Rattle.state_reader.proofs.FoldLaws.{value_after-base}
use Rattle.state_reader.proofs.laws.values_are_folds_of_writes.Goals as goal

pub returns : goal.returns
returns c = value_after-base
