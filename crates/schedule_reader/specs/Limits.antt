-- The limits of a schedule, each by a name of its own. `src/limits.rt` has the same numbers, and
-- the law `schedule_limits_have_these_values` ties the two. This project's own.
use Rattle.std.specs.Prelude.{ℕ}

-- bytes of a schedule, line ends among them
abbrev pub most_schedule_bytes : ℕ
most_schedule_bytes = 1048576

-- digits of a number, those that lead with 0 among them
abbrev pub most_digits : ℕ
most_digits = 8

-- rounds of one step
abbrev pub most_rounds : ℕ
most_rounds = 10000000
