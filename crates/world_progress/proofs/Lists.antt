-- The front of a list, lists with a changed item, and ranges.
use Rattle.std.proofs.Common.{◌≡◌, ◌<◌, ◌≤◌, inl, inr, ap, ℕ, zero, suc, ◌+◌, List, [], ◌∷◌, length, get_or, set, slice_get, drop, refl, arith}
use Rattle.std.specs.List.{AllByRecursion, range_with_len}
use Rattle.std.specs.Option.{option_to_list}
use Rattle.std.proofs.lemmas.Bool.{cases_eq}
use Rattle.event_worlds.specs.counted_items.Weights.{weigh}

module _ {X : Type 0} where
  -- the front, and the rest
  pub length-front : (xs : List X) → length (option_to_list (slice_get xs 0)) + length (drop 1 xs) ≡ length xs
  length-front [] = refl
  length-front (x ∷ xs) = omega arith

  -- of a changed list each number has what it had, or the new item
  pub at-set : (P : ℕ → X → Type 0) (xs : List X) (i : ℕ) (y d : X) → ((k : ℕ) → P k (get_or xs k d)) → (i < length xs → P i y) → (k : ℕ) → P k (get_or (set xs i y) k d)
  at-set P [] i y d all here k = all k
  at-set P (x ∷ xs) zero y d all here zero = here (omega arith)
  at-set P (x ∷ xs) zero y d all here (suc k) = all (suc k)
  at-set P (x ∷ xs) (suc i) y d all here zero = all zero
  at-set P (x ∷ xs) (suc i) y d all here (suc k) = at-set (λ j. P (suc j)) xs i y d (λ j. all (suc j)) (λ below. here (omega arith)) k

-- ---- ranges

-- a number in a range weighs no more than the range
pub in-range : (g : ℕ → ℕ) (a n x : ℕ) → a ≤ x → x < a + n → g x ≤ weigh g (range_with_len a n)
in-range g a zero x low high = absurd (omega arith)
in-range g a (suc n) x low high =
    elim (cases_eq x a) [
      | inl same ↦ let e = ap g same in omega arith
      | inr differ ↦ let rest = in-range g (a + 1) n x (omega arith) (omega arith) in omega arith
    ]

-- the numbers of a range lie in it
pub range-below : (most a n : ℕ) → a + n ≤ most → AllByRecursion (λ (k : ℕ). k < most) (range_with_len a n)
range-below most a zero few = tt
range-below most a (suc n) few = (omega arith, range-below most (a + 1) n (omega arith))

pub range-inside : (most a n : ℕ) → 1 ≤ a → a + n ≤ most + 1 → AllByRecursion (λ (k : ℕ). (1 ≤ k) × (k ≤ most)) (range_with_len a n)
range-inside most a zero some few = tt
range-inside most a (suc n) some few = ((some, omega arith), range-inside most (a + 1) n (omega arith) (omega arith))

pub range-length : (a n : ℕ) → length (range_with_len a n) ≡ n
range-length a zero = refl
range-length a (suc n) = ap suc (range-length (a + 1) n)
