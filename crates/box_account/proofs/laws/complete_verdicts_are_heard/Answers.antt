use Rattle.box_account.proofs.Hearing.{heard_later, heard_next}
use Rattle.box_account.proofs.laws.complete_verdicts_are_heard.Goals as goal

pub returns-clause-first : goal.returns-clause-first
returns-clause-first c = λ t cut words. tt

pub returns-clause-later : goal.returns-clause-later
returns-clause-later c = heard_later

pub returns-clause-step : goal.returns-clause-step
returns-clause-step c = λ t custom cut words outcomes all s h k led was. heard_next t custom cut words outcomes all h k led was s
