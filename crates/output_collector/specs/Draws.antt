-- Words that a source of ids gave. This project's own.
use Rattle.std.specs.Prelude.{◌≡◌, ℕ, ◌+◌, ◌-◌, ◌^◌, min, List, length, map}
use Rattle.std.specs.List.{range_with_len}

-- A source gave these ids, and goes on from there: where it tells its words, they are its next
-- ones.
pub record Draws {S : Type 0} (tells : S → (ℕ → ℕ) → ℕ → Type 0) (old : S) (ids : List ℕ)
    (new : S) : Type 0 where
  pub are_next : (words : ℕ → ℕ) (given : ℕ) → tells old words given
      → ids ≡ map words (range_with_len given (length ids))
  pub goes_on : (words : ℕ → ℕ) (given : ℕ) → tells old words given
      → tells new words (given + length ids)

-- so many more words were given, up to 2^64 - 1
abbrev pub given_after : ℕ → ℕ → ℕ
given_after given count = min (given + count) (2 ^ 64 - 1)
