use Rattle.acker_core.proofs.Undisturbed.{young_undisturbed}
use Rattle.acker_core.proofs.laws.young_roots_are_undisturbed.Goals as goal

pub returns : goal.returns
returns c = young_undisturbed
