-- Items with codes are equal or not, and what is within a list stands in it.
use Rattle.std.proofs.Common.{◌≡◌, ◌≢◌, ◌⊎◌, ◌+◌, ◌≤◌, ◌&&◌, Bool, true, false, cond, true≢false, List, [], ◌∷◌, sym, refl, ap, subst, ◌∙◌, inl, inr, eqb-true, eq-eqb, arith}
use Rattle.std.specs.Coded.{Coded}
use Rattle.std.specs.List.{AllByRecursion}
use base.Stored.{Gv, gnil, gnum, gcons}
use Rattle.counted_items.specs.Codes.{code_eq, is_same, is_item, times}
use Rattle.counted_items.specs.Weights.{Within}

pub and-true : (a b : Bool) → (a && b) ≡ true → (a ≡ true) × (b ≡ true)
and-true true true e = (refl, refl)
and-true true false e = absurd (true≢false (sym e))
and-true false b e = absurd (true≢false (sym e))

pub code_eq-same : (a b : Gv) → code_eq a b ≡ true → a ≡ b
code_eq-same gnil gnil e = refl
code_eq-same gnil (gnum n) e = absurd (true≢false (sym e))
code_eq-same gnil (gcons a b) e = absurd (true≢false (sym e))
code_eq-same (gnum n) gnil e = absurd (true≢false (sym e))
code_eq-same (gnum n) (gnum m) e = ap gnum (eqb-true n m e)
code_eq-same (gnum n) (gcons a b) e = absurd (true≢false (sym e))
code_eq-same (gcons a b) gnil e = absurd (true≢false (sym e))
code_eq-same (gcons a b) (gnum n) e = absurd (true≢false (sym e))
code_eq-same (gcons a b) (gcons c d) e = let both = and-true (code_eq a c) (code_eq b d) e in λ i. gcons (code_eq-same a c both.0 i) (code_eq-same b d both.1 i)

pub code_eq-refl : (a : Gv) → code_eq a a ≡ true
code_eq-refl gnil = refl
code_eq-refl (gnum n) = eq-eqb n n refl
code_eq-refl (gcons a b) = rw (code_eq-refl a, code_eq-refl b) refl

module _ {X : Type 0} (coded : Coded X) where
  pub same_items : (x y : X) → is_same coded x y ≡ true → x ≡ y
  same_items x y e = coded.inj x y (code_eq-same (coded.code x) (coded.code y) e)

  pub is_same-refl : (x : X) → is_same coded x x ≡ true
  is_same-refl x = code_eq-refl (coded.code x)

  pub other_items : (x y : X) → x ≢ y → is_same coded x y ≡ false
  other_items x y apart = elim (is_same coded x y) as (λ b. (b ≡ true → x ≡ y) → b ≡ false) [ true ↦ λ same. absurd (apart (same refl)) | false ↦ λ same. refl ] (same_items x y)

  pub same_or_not : (x y : X) → (x ≡ y) ⊎ (x ≢ y)
  same_or_not x y = elim (is_same coded x y) as (λ b. is_same coded x y ≡ b → (x ≡ y) ⊎ (x ≢ y)) [
    | true ↦ λ e. inl (same_items x y e)
    | false ↦ λ e. inr (λ same. true≢false (sym (is_same-refl x) ∙ ap (is_same coded x) same ∙ e))
  ] refl

  pub is_item-refl : (x : X) → is_item coded x x ≡ 1
  is_item-refl x = rw (is_same-refl x) refl

  -- what each item of a list has, an item has that stands there
  pub counted : (P : X → Type 0) (x : X) (ys : List X) → AllByRecursion P ys → 1 ≤ times coded x ys → P x
  counted P x [] all some = absurd (omega arith)
  counted P x (y ∷ ys) all some = here (is_same coded y x) refl some (counted P x ys all.1)
    where
      here : (b : Bool) → is_same coded y x ≡ b → 1 ≤ cond b 1 0 + times coded x ys → (1 ≤ times coded x ys → P x) → P x
      here true is some later = subst P (same_items y x is) all.0
      here false is some later = later (omega arith)

  -- what holds of each item of a list holds of each item of a list within it
  pub each-within : (P : X → Type 0) (xs ys : List X) → Within xs ys → AllByRecursion P ys → AllByRecursion P xs
  each-within P [] ys within all = tt
  each-within P (x ∷ xs) ys within all = (
    counted P x ys all (let w = within (is_item coded x) in let s = is_item-refl x in omega arith),
    each-within P xs ys (λ f. let w = within f in omega arith) all,
  )
