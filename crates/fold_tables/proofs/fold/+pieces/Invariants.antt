use Rattle.std.proofs.Common.{◌+◌, ◌-◌, ◌*◌}
use Rattle.fold_tables.proofs.fold.+pieces.Given as goal

abbrev pub decreases-fold_rows : goal.decreases-fold_rows
decreases-fold_rows g l = 4 * l.workers

abbrev pub decreases-both_halves : goal.decreases-both_halves
decreases-both_halves g l = 4 * (l.few + l.others) - 1

abbrev pub decreases-both_halves-ahead : goal.decreases-both_halves-ahead
decreases-both_halves-ahead g l = 4 * l.few + 1

abbrev pub decreases-both_halves-behind : goal.decreases-both_halves-behind
decreases-both_halves-behind g l = 4 * l.others + 1
