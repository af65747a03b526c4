-- A text with a part of it changed.
use Rattle.std.specs.Prelude.{ℕ, ◌≡◌, List, ◌++◌}

-- the texts are the same but for one place, where the first has the part and the second something
-- else
pub record IsChanged (part other text made : List ℕ) : Type 0 where
  pub front : List ℕ
  pub rest : List ℕ
  pub was : text ≡ front ++ (part ++ rest)
  pub is : made ≡ front ++ (other ++ rest)
