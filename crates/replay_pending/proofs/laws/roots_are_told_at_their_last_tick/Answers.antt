use Rattle.replay_pending.proofs.CallLemmas.{silent_before, told_at_last}
use Rattle.replay_pending.proofs.laws.roots_are_told_at_their_last_tick.Goals as goal

pub returns-clause-not_before : goal.returns-clause-not_before
returns-clause-not_before g c = silent_before

pub returns-clause-at_last : goal.returns-clause-at_last
returns-clause-at_last g c = told_at_last
