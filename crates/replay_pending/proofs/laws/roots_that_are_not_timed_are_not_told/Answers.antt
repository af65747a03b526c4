use Rattle.replay_pending.proofs.CallLemmas.{silent_untimed}
use Rattle.replay_pending.proofs.laws.roots_that_are_not_timed_are_not_told.Goals as goal

pub returns : goal.returns
returns g c = silent_untimed
