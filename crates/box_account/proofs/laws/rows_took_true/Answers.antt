use Rattle.box_account.proofs.Truth.{fit_took, row_took, took_under_rule}
use Rattle.box_account.proofs.laws.rows_took_true.Goals as goal

pub returns-clause-stood : goal.returns-clause-stood
returns-clause-stood c = took_under_rule

pub returns-clause-row : goal.returns-clause-row
returns-clause-row c = row_took

pub returns-clause-fit : goal.returns-clause-fit
returns-clause-fit c = fit_took
