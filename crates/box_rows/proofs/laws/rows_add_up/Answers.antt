use Rattle.box_rows.proofs.Numbers.{cut-sent, joined-sent, kept-sent}
use Rattle.box_rows.proofs.laws.rows_add_up.Goals as goal

pub returns-clause-kept : goal.returns-clause-kept
returns-clause-kept c = kept-sent

pub returns-clause-cut : goal.returns-clause-cut
returns-clause-cut c = cut-sent

pub returns-clause-joined : goal.returns-clause-joined
returns-clause-joined c = joined-sent
