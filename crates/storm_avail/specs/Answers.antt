-- Answers to come. This project's own.
use Rattle.std.specs.Prelude.{◌≡◌, ℕ, List, get_or}

-- two lists of answers to come are the same but for zeros at their ends
abbrev pub AreSame : List ℕ → List ℕ → Type 0
AreSame a b = (k : ℕ) → get_or a k 0 ≡ get_or b k 0
