-- Facts of each item of a list.
use Rattle.std.proofs.Common.{◌≡◌, ℕ, zero, suc, Bool, true, List, [], ◌∷◌, ◌++◌, slice_get, Some, refl, sym, subst}
use Rattle.std.proofs.lemmas.Option.{none-some, same_Some}
use Rattle.std.specs.List.{AllByRecursion, flat_map, list_all}
use Rattle.tree_model.proofs.counted_items.Each.{each-front, each-back}
use Rattle.tree_model.proofs.counted_items.Equality.{and-true}

module _ {X : Type 0} (p : X → Bool) where
  pub each_of : (xs : List X) → list_all p xs ≡ true → AllByRecursion (λ x. p x ≡ true) xs
  each_of [] is = tt
  each_of (x ∷ xs) is = let both = and-true (p x) (list_all p xs) is in (both.0, each_of xs both.1)

  pub all_of : (xs : List X) → AllByRecursion (λ x. p x ≡ true) xs → list_all p xs ≡ true
  all_of [] each = refl
  all_of (x ∷ xs) each = rw each.0 (all_of xs each.1)

module _ {X : Type 0} (P : X → Type 0) where
  -- the fact of the item at a place
  pub each_at : (xs : List X) (i : ℕ) (x : X) → AllByRecursion P xs → slice_get xs i ≡ Some x → P x
  each_at [] i x each there = absurd (none-some x there)
  each_at (y ∷ ys) zero x each there = subst P (same_Some y x there) each.0
  each_at (y ∷ ys) (suc i) x each there = each_at ys i x each.1 there

  -- a fact that the item at each place has
  pub each_numbered : (xs : List X) → ((i : ℕ) (x : X) → slice_get xs i ≡ Some x → P x) → AllByRecursion P xs
  each_numbered [] each = tt
  each_numbered (x ∷ xs) each = (each 0 x refl, each_numbered xs (λ i. each (suc i)))

-- two functions that make the same lists where a fact holds of all that is made
pub same_flat : {X Y : Type 0} (P : Y → Type 0) (f g : X → List Y) → ((x : X) → AllByRecursion P (f x) → f x ≡ g x) → (xs : List X) → AllByRecursion P (flat_map f xs) → flat_map f xs ≡ flat_map g xs
same_flat P f g each [] all = refl
same_flat P f g each (x ∷ xs) all =
    (λ i. each x (each-front P (f x) (flat_map f xs) all) i ++ same_flat P f g each xs (each-back P (f x) (flat_map f xs) all) i)
