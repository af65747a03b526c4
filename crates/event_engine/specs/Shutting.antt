-- Partitions that are shut and opened by the bits of a number. This project's own.
use Rattle.std.specs.Prelude.{ℕ, List, map, if◌then◌else◌}
use Rattle.std.specs.List.{range_with_len}
use Rattle.event_worlds.specs.record_offers.Offers.{is_shut}
use Rattle.event_worlds.specs.Worlds.{Step, of_open, of_shut}

-- a partition is shut where its bit is 1, and opened where it is 0
abbrev pub shutting : ℕ → ℕ → Step
shutting shut q = if is_shut shut q then of_shut q else of_open q

-- each of so many partitions, in order
abbrev pub shutting_steps : ℕ → ℕ → List Step
shutting_steps partitions shut = map (shutting shut) (range_with_len 0 partitions)
