use Rattle.tuple_account.proofs.Telling.{told_causes, heard_causes, heard_told}
use Rattle.tuple_account.proofs.laws.verdicts_have_causes.Goals as goal

pub returns-clause-told : goal.returns-clause-told
returns-clause-told c = told_causes

pub returns-clause-heard : goal.returns-clause-heard
returns-clause-heard c = heard_causes

pub returns-clause-were_told : goal.returns-clause-were_told
returns-clause-were_told c = heard_told
