-- XORs, and XORs of lists in which one item changes.
use Rattle.std.proofs.Common.{◌≡◌, ℕ, zero, suc, bit_xor, List, [], ◌∷◌, ◌++◌, set, sym, refl, ap, ◌∙◌}
use Rattle.std.proofs.lemmas.Nat.{xor_comm}
use Rattle.std.specs.Int.Bits.{xor_assoc, xor_self, xor_zero_l, xor_zero_r}
use Rattle.std.specs.List.{AllByRecursion}
use mathlib.Core.Option.{some, some-injective, some-ne-none}
use lib.ListN.{get_elem?}
use Rattle.shared_ledger.specs.Xors.{xor_by}

-- numbers that XOR to 0 are one
pub one_number : (a b : ℕ) → bit_xor a b ≡ 0 → a ≡ b
one_number a b none = sym (xor_zero_r a) ∙ ap (bit_xor a) (sym (xor_self b)) ∙ sym (xor_assoc a b b) ∙ ap (λ (n : ℕ). bit_xor n b) none ∙ xor_zero_l b

-- the last two change places
pub xor_swap : (a b c : ℕ) → bit_xor (bit_xor a b) c ≡ bit_xor (bit_xor a c) b
xor_swap a b c = xor_assoc a b c ∙ ap (bit_xor a) (xor_comm b c) ∙ sym (xor_assoc a c b)

-- toggled twice
pub xor_twice : (a b : ℕ) → bit_xor (bit_xor a b) b ≡ a
xor_twice a b = xor_assoc a b b ∙ ap (bit_xor a) (xor_self b) ∙ xor_zero_r a

module _ {X : Type 0} (f : X → ℕ) where
  pub xor-append : (xs ys : List X) → xor_by f (xs ++ ys) ≡ bit_xor (xor_by f xs) (xor_by f ys)
  xor-append [] ys = sym (xor_zero_l (xor_by f ys))
  xor-append (x ∷ xs) ys = ap (bit_xor (f x)) (xor-append xs ys) ∙ sym (xor_assoc (f x) (xor_by f xs) (xor_by f ys))

  pub xor-push : (xs : List X) (x : X) → xor_by f (xs ++ x ∷ []) ≡ bit_xor (xor_by f xs) (f x)
  xor-push xs x = xor-append xs (x ∷ []) ∙ ap (bit_xor (xor_by f xs)) (xor_zero_r (f x))

  -- one item becomes another, which says the same toggled by k
  pub xor-set : (xs : List X) (i : ℕ) (x y : X) (k : ℕ) → get_elem? xs i ≡ some x → f y ≡ bit_xor (f x) k → xor_by f (set xs i y) ≡ bit_xor (xor_by f xs) k
  xor-set [] i x y k at is = absurd (some-ne-none x (sym at))
  xor-set (z ∷ xs) zero x y k at is =
      ap (λ (n : ℕ). bit_xor n (xor_by f xs)) (is ∙ ap (λ (n : ℕ). bit_xor n k) (sym (ap f (some-injective z x at)))) ∙ xor_swap (f z) k (xor_by f xs)
  xor-set (z ∷ xs) (suc i) x y k at is = ap (bit_xor (f z)) (xor-set xs i x y k at is) ∙ sym (xor_assoc (f z) (xor_by f xs) k)

  -- items that say nothing
  pub xor-none : (xs : List X) → AllByRecursion (λ x. f x ≡ 0) xs → xor_by f xs ≡ 0
  xor-none [] all = refl
  xor-none (x ∷ xs) all = ap (λ (n : ℕ). bit_xor n (xor_by f xs)) all.0 ∙ xor_zero_l (xor_by f xs) ∙ xor-none xs all.1
