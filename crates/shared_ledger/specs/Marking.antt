-- Which roots are marked, by a bit each in words of 64. This project's own.
use Rattle.std.specs.Prelude.{ℕ, ◌/◌, ◌%◌, ◌==◌, Bool, List, slice_index}
use Rattle.std.specs.Int.{bit_at}

-- whether a root's bit is set
abbrev pub is_marked : List ℕ → ℕ → Bool
is_marked words root = bit_at (slice_index words (root / 64)) (root % 64) == 1
