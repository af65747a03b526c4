-- The limit of a plan that no other crate bounds. `src/limits.rt` has the same number, and the law
-- `plan_limits_have_these_values` ties the two. This project's own.
use Rattle.std.specs.Prelude.{ℕ}

-- partitions of an opaque spout
abbrev pub most_partitions : ℕ
most_partitions = 16
