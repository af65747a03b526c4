use Rattle.fold_tables.proofs.Joining.{few-append}
use Rattle.fold_tables.proofs.laws.values_of_joined_amounts.Goals as goal

pub returns : goal.returns
returns c = few-append
