use Rattle.topology_form.proofs.InRange.{in_range}
use Rattle.topology_form.proofs.format.files_are_in_range.Goals as goal

pub returns : goal.returns
returns c = in_range
