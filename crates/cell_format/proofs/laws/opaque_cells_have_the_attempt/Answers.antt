use Rattle.cell_format.proofs.CommitLemmas.{attempt_is}
use Rattle.cell_format.proofs.laws.opaque_cells_have_the_attempt.Goals as goal

pub returns : goal.returns
returns c = attempt_is
