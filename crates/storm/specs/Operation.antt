-- What the program's operation means, and its fold. This project's own.
use Rattle.std.specs.Prelude.{ℤ}
use Rattle.bolt_ops.specs.RowOp.{Custom, reversed}
use Rattle.stored_folds.specs.Folds.{with_fold}

-- a custom fold makes of an amount the amount
abbrev pub same : ℤ → ℤ
same amount = amount

-- and of two values the earlier
abbrev pub first : ℤ → ℤ → ℤ
first earlier later = earlier

-- the row with its values in reverse order, and the first amount of each key
abbrev pub reversed_and_first : Custom
reversed_and_first = with_fold same first reversed
