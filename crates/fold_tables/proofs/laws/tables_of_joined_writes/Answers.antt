use Rattle.fold_tables.proofs.Joining.{IsTable-append}
use Rattle.fold_tables.proofs.laws.tables_of_joined_writes.Goals as goal

pub returns : goal.returns
returns c = IsTable-append
