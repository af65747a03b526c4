use Rattle.tuple_account.proofs.Drawing.{list_drawn, told_met}
use Rattle.tuple_account.proofs.laws.ids_are_drawn_once.Goals as goal

pub returns-clause-drawn : goal.returns-clause-drawn
returns-clause-drawn c = list_drawn

pub returns-clause-told : goal.returns-clause-told
returns-clause-told c = told_met
