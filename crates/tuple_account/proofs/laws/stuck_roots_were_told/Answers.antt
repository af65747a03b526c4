use Rattle.tuple_account.proofs.Stuck.{was_told}
use Rattle.tuple_account.proofs.laws.stuck_roots_were_told.Goals as goal

pub returns : goal.returns
returns c = was_told
