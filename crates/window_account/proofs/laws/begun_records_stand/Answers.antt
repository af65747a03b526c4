use Rattle.window_account.proofs.Opening.{opened}
use Rattle.window_account.proofs.laws.begun_records_stand.Goals as goal

pub returns : goal.returns
returns c = opened
