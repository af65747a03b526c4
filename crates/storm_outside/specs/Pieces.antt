-- What one call reads or writes of a longer text, and what many calls did.
use Rattle.std.specs.Prelude.{ℕ, ◌≡◌, ◌≤◌, List, [], ◌++◌, length, take, drop, Option, Some}

-- A read gave the first k bytes of what was left, at the front of the buffer. It
-- gives none only at the end.
pub record GivesFirst (k : ℕ) (left buf : List ℕ) (after : Option (List ℕ)) : Type 0 where
  pub within : k ≤ length left
  pub given : take k buf ≡ take k left
  pub rest : after ≡ Some (drop k left)
  pub end : k ≡ 0 → left ≡ []

-- the first bytes of what was left were given, and no more than so many
pub record HasGiven (most : ℕ) (left : List ℕ) (after : Option (List ℕ)) : Type 0 where
  pub count : ℕ
  pub within : count ≤ length left
  pub bound : count ≤ most
  pub rest : after ≡ Some (drop count left)

-- the first of these bytes were taken
pub record HasTaken (taken bytes : List ℕ) (after : Option (List ℕ)) : Type 0 where
  pub count : ℕ
  pub within : count ≤ length bytes
  pub rest : after ≡ Some (taken ++ take count bytes)
