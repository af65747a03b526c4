use Rattle.std.proofs.Common.{◌+◌, ◌-◌, ◌*◌}
use Rattle.state_parts.proofs.beside.+halves.Given as goal

abbrev pub decreases-commit_halves : goal.decreases-commit_halves
decreases-commit_halves g l = 4 * l.threads

abbrev pub decreases-both_halves : goal.decreases-both_halves
decreases-both_halves g l = 4 * (l.few + l.others) - 1

abbrev pub decreases-both_halves-ahead : goal.decreases-both_halves-ahead
decreases-both_halves-ahead g l = 4 * l.few + 1

abbrev pub decreases-both_halves-behind : goal.decreases-both_halves-behind
decreases-both_halves-behind g l = 4 * l.others + 1
