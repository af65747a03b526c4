use Rattle.tuple_account.proofs.Telling.{told_begun, heard_begun}
use Rattle.tuple_account.proofs.laws.each_root_has_one_verdict.Goals as goal

pub returns-clause-told : goal.returns-clause-told
returns-clause-told c = told_begun

pub returns-clause-heard : goal.returns-clause-heard
returns-clause-heard c = heard_begun
