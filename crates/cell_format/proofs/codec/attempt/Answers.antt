use Rattle.cell_format.specs.Layout.{attempt_bytes}
use Rattle.cell_format.proofs.codec.attempt.Goals as goal

pub returns : goal.returns
unfolding attempt_bytes
returns c = c.to_be_bytes.ensures
