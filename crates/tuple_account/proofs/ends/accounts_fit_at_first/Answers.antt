use Rattle.tuple_account.proofs.Beginning.{fits_first}
use Rattle.tuple_account.proofs.ends.accounts_fit_at_first.Goals as goal

pub returns : goal.returns
returns c = fits_first
