use Rattle.window_account.proofs.Stepping.{stepped}
use Rattle.window_account.proofs.laws.depths_follow.Goals as goal

pub returns : goal.returns
returns c = stepped
