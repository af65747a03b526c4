-- Weights of lists in which one item changes.
use Rattle.std.proofs.Common.{◌≡◌, ℕ, zero, suc, ◌+◌, ◌≤◌, List, [], ◌∷◌, ◌++◌, set, sym, ap, refl, arith}
use Rattle.std.specs.List.{AllByRecursion}
use mathlib.Core.Option.{some, some-injective, some-ne-none}
use lib.ListN.{get_elem?}
use Rattle.counted_items.specs.Weights.{weigh}
use Rattle.counted_items.proofs.Weighing.{weigh-append}

module _ {X : Type 0} where
  pub weigh-set : (f : X → ℕ) (xs : List X) (i : ℕ) (x y : X) → get_elem? xs i ≡ some x → weigh f (set xs i y) + f x ≡ weigh f xs + f y
  weigh-set f [] i x y at = absurd (some-ne-none x (sym at))
  weigh-set f (z ∷ xs) zero x y at = let e = ap f (some-injective z x at) in omega arith
  weigh-set f (z ∷ xs) (suc i) x y at = omega (arith, weigh-set f xs i x y at)

  -- one item is set, and one more stands at the end
  pub weigh-set-append : (f : X → ℕ) (xs : List X) (i : ℕ) (x y z : X) → get_elem? xs i ≡ some x → weigh f (set xs i y ++ z ∷ []) + f x ≡ weigh f xs + f y + f z
  weigh-set-append f xs i x y z at = let e = weigh-set f xs i x y at in let g = weigh-append f (set xs i y) (z ∷ []) in omega arith

  pub weigh-at : (f : X → ℕ) (xs : List X) (i : ℕ) (x : X) → get_elem? xs i ≡ some x → f x ≤ weigh f xs
  weigh-at f [] i x at = absurd (some-ne-none x (sym at))
  weigh-at f (z ∷ xs) zero x at = let e = ap f (some-injective z x at) in omega arith
  weigh-at f (z ∷ xs) (suc i) x at = omega (arith, weigh-at f xs i x at)

  pub each-none : (f : X → ℕ) (xs : List X) → weigh f xs ≡ 0 → AllByRecursion (λ x. f x ≡ 0) xs
  each-none f [] none = tt
  each-none f (x ∷ xs) none = (omega arith, each-none f xs (omega arith))

  pub none-each : (f : X → ℕ) (xs : List X) → AllByRecursion (λ x. f x ≡ 0) xs → weigh f xs ≡ 0
  none-each f [] all = refl
  none-each f (x ∷ xs) all = let here = all.0 in let later = none-each f xs all.1 in omega arith
