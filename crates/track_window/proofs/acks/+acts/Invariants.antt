use Rattle.std.proofs.Common.{◌+◌, ◌-◌, ◌*◌}
use Rattle.track_window.proofs.acks.+acts.Given as goal

abbrev pub decreases-act_all : goal.decreases-act_all
decreases-act_all g l = 4 * l.workers

abbrev pub decreases-act_both : goal.decreases-act_both
decreases-act_both g l = 4 * (l.most + l.few) - 1

abbrev pub decreases-act_both-ahead : goal.decreases-act_both-ahead
decreases-act_both-ahead g l = 4 * l.most + 1

abbrev pub decreases-act_both-behind : goal.decreases-act_both-behind
decreases-act_both-behind g l = 4 * l.few + 1
