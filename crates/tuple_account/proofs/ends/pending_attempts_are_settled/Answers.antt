use Rattle.tuple_account.proofs.Settling.{settled}
use Rattle.tuple_account.proofs.ends.pending_attempts_are_settled.Goals as goal

pub returns : goal.returns
returns c = settled
