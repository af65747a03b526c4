use Rattle.box_rows.proofs.Wholes.{still-all}
use Rattle.box_rows.proofs.laws.steps_keep_numbers.Goals as goal

pub returns : goal.returns
returns c = still-all
