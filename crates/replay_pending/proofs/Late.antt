-- Items that pass a test move out, the first first.
use Rattle.std.proofs.Common.{◌≡◌, ℕ, suc, ◌+◌, ◌<◌, Bool, true, false, not, cond, get_or, Option, Some, None, List, [], ◌∷◌, ◌++◌, length, take, drop, filter, refl, sym, ap, ap₂, ◌∙◌, arith}
use Rattle.std.proofs.lemmas.List.{append_assoc}
use Rattle.std.specs.List.{find, position, position_or_len}
use Rattle.replay_pending.proofs.Found.{first_place, none_found}

module _ {X : Type 0} (p : X → Bool) where
  abbrev left : List X → List X
  left xs = filter (λ (x : X). not (p x)) xs

  abbrev rest : List X → ℕ → List X
  rest xs n = take n xs ++ drop (suc n) xs

  first_moves : (xs : List X) (d : X) → position_or_len p xs < length xs
      → filter p xs ≡ get_or xs (position_or_len p xs) d ∷ filter p (rest xs (position_or_len p xs))
  first_moves [] d near = absurd (omega arith)
  first_moves (x ∷ xs) d near = by (p x) refl near (first_moves xs d)
    where
      n : ℕ
      n = position_or_len p xs

      one_more : suc n ≡ 1 + n
      one_more = omega arith

      by : (b : Bool) → p x ≡ b → cond (not b) (1 + n) 0 < suc (length xs)
          → (n < length xs → filter p xs ≡ get_or xs n d ∷ filter p (rest xs n))
          → cond b (x ∷ filter p xs) (filter p xs)
          ≡ get_or (x ∷ xs) (cond (not b) (1 + n) 0) d ∷ filter p (rest (x ∷ xs) (cond (not b) (1 + n) 0))
      by true on near more = refl
      by false off near more =
          more (omega arith) ∙ ap (λ b. get_or xs n d ∷ cond b (x ∷ filter p (rest xs n)) (filter p (rest xs n))) (sym off)
          ∙ ap (λ m. get_or (x ∷ xs) m d ∷ filter p (rest (x ∷ xs) m)) one_more

  others_stay : (xs : List X) → position_or_len p xs < length xs → left xs ≡ left (rest xs (position_or_len p xs))
  others_stay [] near = absurd (omega arith)
  others_stay (x ∷ xs) near = by (p x) refl near (others_stay xs)
    where
      n : ℕ
      n = position_or_len p xs

      one_more : suc n ≡ 1 + n
      one_more = omega arith

      by : (b : Bool) → p x ≡ b → cond (not b) (1 + n) 0 < suc (length xs) → (n < length xs → left xs ≡ left (rest xs n))
          → cond (not b) (x ∷ left xs) (left xs) ≡ left (rest (x ∷ xs) (cond (not b) (1 + n) 0))
      by true on near more = refl
      by false off near more =
          ap (λ ys. x ∷ ys) (more (omega arith)) ∙ ap (λ b. cond (not b) (x ∷ left (rest xs n)) (left (rest xs n))) (sym off)
          ∙ ap (λ m. left (rest (x ∷ xs) m)) one_more

  none_pass : (xs : List X) → find p xs ≡ None → (filter p xs ≡ []) × (left xs ≡ xs)
  none_pass [] none = (refl, refl)
  none_pass (x ∷ xs) none = by (p x) none (none_pass xs)
    where
      some_none : Some x ≡ None → ⊥
      some_none e = cc

      by : (b : Bool) → cond b (Some x) (find p xs) ≡ None → (find p xs ≡ None → (filter p xs ≡ []) × (left xs ≡ xs))
          → (cond b (x ∷ filter p xs) (filter p xs) ≡ []) × (cond (not b) (x ∷ left xs) (left xs) ≡ x ∷ xs)
      by true none more = absurd (some_none none)
      by false none more = let both = more none in (both.0, ap (λ ys. x ∷ ys) both.1)

  -- none is left that passes
  none_left : (xs : List X) → filter p xs ≡ [] → left xs ≡ xs
  none_left [] none = refl
  none_left (x ∷ xs) none = by (p x) none (none_left xs)
    where
      some_none : (ys : List X) → x ∷ ys ≡ [] → ⊥
      some_none ys e = cc

      by : (b : Bool) → cond b (x ∷ filter p xs) (filter p xs) ≡ [] → (filter p xs ≡ [] → left xs ≡ xs)
          → cond (not b) (x ∷ left xs) (left xs) ≡ x ∷ xs
      by true none more = absurd (some_none (filter p xs) none)
      by false none more = ap (λ ys. x ∷ ys) (more none)

  -- and then the others are all that is left
  pub all_moved : (xs ys : List X) → left ys ≡ left xs → filter p ys ≡ [] → ys ≡ left xs
  all_moved xs ys kept none = sym (none_left ys none) ∙ kept

  -- one more was told
  pub one_moved : (told xs ys : List X) (x : X) → filter p xs ≡ x ∷ filter p ys → (told ++ x ∷ []) ++ filter p ys ≡ told ++ filter p xs
  one_moved told xs ys x is = append_assoc told (x ∷ []) (filter p ys) ∙ ap (λ zs. told ++ zs) (sym is)

  -- one item moved out of a list, and the places that are left
  pub record Moves (xs ys : List X) (x : X) : Type 0 where
    pub told : filter p xs ≡ x ∷ filter p ys
    pub kept : left xs ≡ left ys

  pub first_out : (xs ys slice : List X) (r : Option ℕ) (i : ℕ) (x : X) → r ≡ position p slice → slice ≡ xs → r ≡ Some i
      → x ≡ get_or xs i x → ys ≡ rest xs i → Moves xs ys x
  first_out xs ys slice r i x is same some value items =
      let first = first_place p xs i (sym (is ∙ ap (position p) same) ∙ some) in
      let n = position_or_len p xs in
      let near : n < length xs = rw (← first.0) first.1 in
      let here : x ≡ get_or xs n x = value ∙ ap (λ j. get_or xs j x) first.0 in
      let there : ys ≡ rest xs n = items ∙ ap (rest xs) first.0 in
      record {
        told = first_moves xs x near ∙ ap₂ (λ y zs. y ∷ filter p zs) (sym here) (sym there);
        kept = others_stay xs near ∙ ap left (sym there);
      }

  pub none_out : (xs slice : List X) (r : Option ℕ) → r ≡ position p slice → slice ≡ xs → r ≡ None → (filter p xs ≡ []) × (left xs ≡ xs)
  none_out xs slice r is same none = none_pass xs (none_found p xs (sym (is ∙ ap (position p) same) ∙ none))
