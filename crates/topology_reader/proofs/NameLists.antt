-- The first name that stands again in a list.
use Rattle.std.proofs.Common.{◌≡◌, ℕ, ◌+◌, ◌<◌, Bool, true, false, ◌||◌, cond, List, [], ◌∷◌, ◌++◌, map, length, drop, get_or, Option, Some, None, refl, sym, ap, ◌∙◌}
use Rattle.topology_reader.proofs.Common.{cond-true, cond-false, drop_more, map_push, Bor, list_any, bytes_eq, is_among, first_again, list_any-append}
use Rattle.std.proofs.Math.Bool.{or_comm, or-false}

-- ---- again

-- the first name that is among those before it, which stand in their order
abbrev pub again_in : List (List ℕ) → List (List ℕ) → Option (List ℕ)
again_in before [] = None
again_in before (name ∷ names) = cond (is_among before name) (Some name) (again_in (before ++ name ∷ []) names)

among_more : (left right : List (List ℕ)) (name : List ℕ) → ((other : List ℕ) → is_among left other ≡ is_among right other) → (other : List ℕ) → is_among (name ∷ left) other ≡ is_among (right ++ name ∷ []) other
among_more left right name same other =
    rw (list_any-append (bytes_eq other) right (name ∷ []), same other) (or_comm (bytes_eq other name) (is_among right other) ∙ ap (λ b. is_among right other || b) (sym (or-false (bytes_eq other name))))

again_same : (left right names : List (List ℕ)) → ((other : List ℕ) → is_among left other ≡ is_among right other) → first_again left names ≡ again_in right names
again_same left right [] same = refl
again_same left right (name ∷ names) same =
    rw (same name, again_same (name ∷ left) (right ++ name ∷ []) names (among_more left right name same))

pub first_again-in : (names : List (List ℕ)) → first_again [] names ≡ again_in [] names
first_again-in names = again_same [] [] names (λ other. refl)

any_named : {A : Type 0} (name_of : A → List ℕ) (test : List ℕ → Bool) (items : List A) → list_any (λ item. test (name_of item)) items ≡ list_any test (map name_of items)
any_named name_of test [] = refl
any_named name_of test (item ∷ items) = ap (λ b. test (name_of item) || b) (any_named name_of test items)

abbrev shown : List (Bor (List ℕ)) → List (List ℕ)
shown keys = map (λ (key : Bor (List ℕ)). key.now) keys

abbrev pub has_key : List (Bor (List ℕ)) → Bor (List ℕ) → Bool
has_key keys name = list_any (λ (key : Bor (List ℕ)). bytes_eq name.now key.now) keys

-- one more item of a list of things with names, after those whose names are in a set
module _ {A : Type 0} (name_of : A → List ℕ) (items : List A) (i : ℕ) (item : A) (below : i < length items) (is : item ≡ get_or items i item) (keys : List (Bor (List ℕ))) (name : Bor (List ℕ)) (named : name.now ≡ name_of item) where
  again_next : again_in (shown keys) (map name_of (drop i items)) ≡ cond (has_key keys name) (Some name.now) (again_in (shown keys ++ name.now ∷ []) (map name_of (drop (i + 1) items)))
  again_next =
      let rest : drop i items ≡ item ∷ drop (i + 1) items = drop_more items i item below ∙ ap (λ x. x ∷ drop (i + 1) items) (sym is) in
      rw (rest, any_named (λ (key : Bor (List ℕ)). key.now) (bytes_eq name.now) keys, named) refl

  pub again_there : has_key keys name ≡ true → again_in (shown keys) (map name_of (drop i items)) ≡ Some name.now
  again_there there = again_next ∙ cond-true (has_key keys name) _ _ there

  pub again_new : has_key keys name ≡ false → again_in (shown keys) (map name_of (drop i items)) ≡ again_in (shown (keys ++ name ∷ [])) (map name_of (drop (i + 1) items))
  again_new none =
      again_next
      ∙ cond-false (has_key keys name) _ _ none
      ∙ ap (λ before. again_in before (map name_of (drop (i + 1) items))) (sym (map_push (λ (key : Bor (List ℕ)). key.now) keys name))
