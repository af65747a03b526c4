-- A list is within another where it has each item at most as often.
use Rattle.std.proofs.Common.{◌≡◌, ℕ, zero, suc, ◌+◌, ◌≤◌, ◌<◌, Bool, true, false, cond, List, [], ◌∷◌, length, slice_index_or, Contains, sym, refl, ap, subst, arith}
use Rattle.std.proofs.lemmas.List.Elements.{All-contains_itself, recursion_from_All}
use Rattle.std.specs.Coded.{Coded}
use Rattle.counted_items.specs.Codes.{is_same, is_item, times}
use Rattle.counted_items.specs.Weights.{weigh, Same, Within}
use Rattle.counted_items.proofs.Equality.{same_items, is_item-refl, counted}

module _ {X : Type 0} (coded : Coded X) where
  -- the list without the first of these items
  without : X → List X → List X
  without x [] = []
  without x (y ∷ ys) = cond (is_same coded y x) ys (y ∷ without x ys)

  weigh-without : (f : X → ℕ) (x : X) (ys : List X) → 1 ≤ times coded x ys → weigh f ys ≡ f x + weigh f (without x ys)
  unfolding without
  weigh-without f x [] some = absurd (omega arith)
  weigh-without f x (y ∷ ys) some = here (is_same coded y x) refl some (weigh-without f x ys)
    where
      here : (b : Bool) → is_same coded y x ≡ b → 1 ≤ cond b 1 0 + times coded x ys → (1 ≤ times coded x ys → weigh f ys ≡ f x + weigh f (without x ys))
          → f y + weigh f ys ≡ f x + weigh f (cond b ys (y ∷ without x ys))
      here true is some later = let same : f y ≡ f x = ap f (same_items coded y x is) in omega arith
      here false is some later = let rest = later (omega arith) in omega arith

  pub within-times : (xs ys : List X) → ((x : X) → times coded x xs ≤ times coded x ys) → Within xs ys
  within-times [] ys few f = omega arith
  within-times (x ∷ xs) ys few f =
      let some : 1 ≤ times coded x ys = (let a = few x in let b = is_item-refl coded x in omega arith) in
      let rest = within-times xs (without x ys) (λ z. let a = few z in let b = weigh-without (is_item coded z) x ys some in omega arith) f in
      let whole = weigh-without f x ys some in omega arith

  pub same-times : (xs ys : List X) → ((x : X) → times coded x xs ≡ times coded x ys) → Same xs ys
  same-times xs ys each f =
      let a = within-times xs ys (λ x. let e = each x in omega arith) f in
      let b = within-times ys xs (λ x. let e = each x in omega arith) f in omega arith

  -- an item is counted where it stands
  pub times-Contains : (xs : List X) (x : X) → Contains xs x → 1 ≤ times coded x xs
  times-Contains [] x there = absurd (omega (arith, there.1))
  times-Contains (y ∷ ys) x there = at there.0 there.1 there.2 (λ k few same. times-Contains ys x (k, few, same))
    where
      at : (k : ℕ) → k < suc (length ys) → slice_index_or (y ∷ ys) k x ≡ x → ((j : ℕ) → j < length ys → slice_index_or ys j x ≡ x → 1 ≤ times coded x ys) → 1 ≤ is_item coded x y + times coded x ys
      at zero few same later = let one : is_item coded x y ≡ 1 = subst (λ z. is_item coded x z ≡ 1) (sym same) (is_item-refl coded x) in omega arith
      at (suc k) few same later = let rest = later k (omega arith) same in omega arith

  pub Contains-times : (xs : List X) (x : X) → 1 ≤ times coded x xs → Contains xs x
  Contains-times xs x some = counted coded (Contains xs) x xs (recursion_from_All (Contains xs) xs (All-contains_itself xs)) some

  pub times-within : (xs ys : List X) (x : X) → Within xs ys → Contains xs x → Contains ys x
  times-within xs ys x within there = Contains-times ys x (let a = times-Contains xs x there in let w = within (is_item coded x) in omega arith)
