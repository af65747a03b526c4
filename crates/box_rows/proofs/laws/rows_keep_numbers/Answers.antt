use Rattle.box_rows.proofs.Numbers.{join-numbered, split-numbered}
use Rattle.box_rows.proofs.laws.rows_keep_numbers.Goals as goal

pub returns-clause-split : goal.returns-clause-split
returns-clause-split c = split-numbered

pub returns-clause-join : goal.returns-clause-join
returns-clause-join c = join-numbered
