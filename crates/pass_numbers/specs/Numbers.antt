-- Passes and seats stand for numbers; a number is a list of whole numbers. The first holder has the
-- number with no digits; the k-th split of a number p gives p followed by k, from 0. A join gives
-- one holder the numbers of two. This project's own.
use Rattle.std.specs.Prelude.{◌≡◌, ℕ, ◌+◌, nat_lt, if◌then◌else◌, List, [], ◌∷◌, ◌++◌}
use Rattle.std.specs.Str.{bytes_eq}
use Rattle.counted_items.specs.Weights.{weigh}
use Rattle.pass_numbers.specs.declared.Number.{Number}

-- a number that was not split yet
abbrev pub fresh : List ℕ → Number
fresh digits = record { digits = digits; splits = 0 }

-- the numbers of the first holder
abbrev pub first_numbers : List Number
first_numbers = fresh [] ∷ []

-- a split goes by the first number: what the old holder keeps, and what the new one gets
abbrev pub kept_numbers : List Number → List Number
kept_numbers [] = []
kept_numbers (n ∷ ns) = record { digits = n.digits; splits = n.splits + 1 } ∷ ns

abbrev pub cut_numbers : List Number → List Number
cut_numbers [] = []
cut_numbers (n ∷ ns) = fresh (n.digits ++ n.splits ∷ []) ∷ []

-- 1 where the number has these digits, and else 0
abbrev pub has : List ℕ → Number → ℕ
has digits n = if bytes_eq n.digits digits then 1 else 0

-- how often the number was split, where it has these digits, and else 0
abbrev pub splits_at : List ℕ → Number → ℕ
splits_at digits n = if bytes_eq n.digits digits then n.splits else 0

-- By how often each number stands and how often it was split: the first stands once, and a number
-- with c splits has given exactly its first c, each of which stands once. No other number stands.
abbrev pub AreGiven : (List ℕ → ℕ) → (List ℕ → ℕ) → Type 0
AreGiven standing splits =
    (standing [] ≡ 1)
    × ((p : List ℕ) (k : ℕ) → standing (p ++ k ∷ []) ≡ (if nat_lt k (splits p) then 1 else 0))

-- these are all numbers that were given
abbrev pub IsWhole : List Number → Type 0
IsWhole ns = AreGiven (λ digits. weigh (has digits) ns) (λ digits. weigh (splits_at digits) ns)

-- a weight of the numbers of all holders, where `numbers_of` tells the numbers of one
abbrev pub over : {V : Type 0} → (V → List Number) → (Number → ℕ) → List V → ℕ
over numbers_of f holders = weigh (λ v. weigh f (numbers_of v)) holders

-- these holders together have all numbers that were given, each once
abbrev pub Numbered : {V : Type 0} → (V → List Number) → List V → Type 0
Numbered numbers_of holders =
    AreGiven (λ digits. over numbers_of (has digits) holders)
    (λ digits. over numbers_of (splits_at digits) holders)
