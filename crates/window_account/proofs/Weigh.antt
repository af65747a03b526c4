-- Weights of the items that pass a test.
use Rattle.std.proofs.Common.{◌≡◌, ℕ, ◌+◌, ◌≤◌, Bool, true, false, cond, List, [], ◌∷◌, filter, refl, sym, ap, arith}
use Rattle.std.specs.List.{AllByRecursion}
use Rattle.tree_model.specs.counted_items.Weights.{weigh}

module _ {X : Type 0} (p : X → Bool) where
  pub weigh-filter : (g : X → ℕ) (xs : List X) → weigh (λ x. cond (p x) (g x) 0) xs ≡ weigh g (filter p xs)
  weigh-filter g [] = refl
  weigh-filter g (x ∷ xs) = by (p x) (weigh-filter g xs)
    where
      by : (b : Bool) → weigh (λ y. cond (p y) (g y) 0) xs ≡ weigh g (filter p xs) → cond b (g x) 0 + weigh (λ y. cond (p y) (g y) 0) xs ≡ weigh g (cond b (x ∷ filter p xs) (filter p xs))
      by true later = ap (λ (n : ℕ). g x + n) later
      by false later = omega (arith, later)

  pub weigh-filter_le : (g : X → ℕ) (xs : List X) → weigh g (filter p xs) ≤ weigh g xs
  weigh-filter_le g [] = omega arith
  weigh-filter_le g (x ∷ xs) = by (p x) (weigh-filter_le g xs)
    where
      by : (b : Bool) → weigh g (filter p xs) ≤ weigh g xs → weigh g (cond b (x ∷ filter p xs) (filter p xs)) ≤ g x + weigh g xs
      by true later = omega (arith, later)
      by false later = omega (arith, later)

  pub each-filter : (P : X → Type 0) (xs : List X) → AllByRecursion P xs → AllByRecursion P (filter p xs)
  each-filter P [] all = tt
  each-filter P (x ∷ xs) all = by (p x) (each-filter P xs all.1)
    where
      by : (b : Bool) → AllByRecursion P (filter p xs) → AllByRecursion P (cond b (x ∷ filter p xs) (filter p xs))
      by true later = (all.0, later)
      by false later = later

  pub each-passed : (xs : List X) → AllByRecursion (λ x. p x ≡ true) (filter p xs)
  each-passed [] = tt
  each-passed (x ∷ xs) = by (p x) refl (each-passed xs)
    where
      by : (b : Bool) → p x ≡ b → AllByRecursion (λ y. p y ≡ true) (filter p xs) → AllByRecursion (λ y. p y ≡ true) (cond b (x ∷ filter p xs) (filter p xs))
      by true is later = (is, later)
      by false is later = later
