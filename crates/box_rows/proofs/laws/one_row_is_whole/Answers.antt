use Rattle.box_rows.proofs.Wholes.{whole-first, whole-fit, whole-last}
use Rattle.box_rows.proofs.laws.one_row_is_whole.Goals as goal

pub returns-clause-first : goal.returns-clause-first
returns-clause-first c = whole-first

pub returns-clause-last : goal.returns-clause-last
returns-clause-last c = whole-last

pub returns-clause-fit : goal.returns-clause-fit
returns-clause-fit c = whole-fit
