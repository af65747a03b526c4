-- What stands in lists that are made of other lists, and the search for the first of some values.
use Rattle.std.proofs.Common.{◌≡◌, ℕ, zero, suc, ◌+◌, ◌<◌, ◌≤◌, List, [], ◌∷◌, ◌++◌, map, filter, All, Bool, true, false, Option, Some, None, option_map, slice_get, ◌⊎◌, inl, inr, refl, sym, ◌∙◌, ap, subst, arith}
use Rattle.topology_reader.proofs.Common.{filter_map, flat_map, list_any, enumerate_from, range_with_len, first_some, cases_Bool, cases_eq, false≢true, cond-true, cond-false, or_cases, or_left, or_right, All-nil, All-cons, All-head, All-tail, none-some, same_Some}
use Rattle.std.specs.List.{find}

abbrev pub IsIn : {X : Type 0} → X → List X → Type 0
IsIn x [] = ⊥
IsIn x (y ∷ ys) = (y ≡ x) ⊎ IsIn x ys

-- ---- All

pub All-from_in : {X : Type 0} (P : X → Type 0) (xs : List X) → ((x : X) → IsIn x xs → P x) → All P xs
All-from_in P [] each = All-nil P
All-from_in P (y ∷ ys) each = All-cons P y ys (each y (inl refl)) (All-from_in P ys (λ x at. each x (inr at)))

pub All-at_in : {X : Type 0} (P : X → Type 0) (xs : List X) → All P xs → (x : X) → IsIn x xs → P x
All-at_in P [] all x at = elim at [ ]
All-at_in P (y ∷ ys) all x at =
    elim at [ inl same ↦ subst P same (All-head P y ys all) | inr later ↦ All-at_in P ys (All-tail P y ys all) x later ]

-- ---- lists made of lists

pub in_map : {X Y : Type 0} (f : X → Y) (xs : List X) (y : Y) → IsIn y (map f xs) → (x : X) × IsIn x xs × (f x ≡ y)
in_map f [] y at = elim at [ ]
in_map f (x ∷ xs) y at =
    elim at [
      | inl same ↦ (x, inl refl, same)
      | inr later ↦ let found = in_map f xs y later in (found.0, inr found.1, found.2)
    ]

pub to_map : {X Y : Type 0} (f : X → Y) (xs : List X) (x : X) → IsIn x xs → IsIn (f x) (map f xs)
to_map f [] x at = elim at [ ]
to_map f (y ∷ ys) x at = elim at [ inl same ↦ inl (ap f same) | inr later ↦ inr (to_map f ys x later) ]

pub in_append : {X : Type 0} (xs ys : List X) (x : X) → IsIn x (xs ++ ys) → IsIn x xs ⊎ IsIn x ys
in_append [] ys x at = inr at
in_append (y ∷ xs) ys x at =
    elim at [
      | inl same ↦ inl (inl same)
      | inr later ↦ elim (in_append xs ys x later) [ inl first ↦ inl (inr first) | inr second ↦ inr second ]
    ]

pub to_left : {X : Type 0} (xs ys : List X) (x : X) → IsIn x xs → IsIn x (xs ++ ys)
to_left [] ys x at = elim at [ ]
to_left (y ∷ xs) ys x at = elim at [ inl same ↦ inl same | inr later ↦ inr (to_left xs ys x later) ]

pub to_right : {X : Type 0} (xs ys : List X) (x : X) → IsIn x ys → IsIn x (xs ++ ys)
to_right [] ys x at = at
to_right (y ∷ xs) ys x at = inr (to_right xs ys x at)

pub in_flat_map : {X Y : Type 0} (f : X → List Y) (xs : List X) (y : Y) → IsIn y (flat_map f xs) → (x : X) × IsIn x xs × IsIn y (f x)
in_flat_map f [] y at = elim at [ ]
in_flat_map f (x ∷ xs) y at =
    elim (in_append (f x) (flat_map f xs) y at) [
      | inl first ↦ (x, inl refl, first)
      | inr later ↦ let found = in_flat_map f xs y later in (found.0, inr found.1, found.2)
    ]

pub to_flat_map : {X Y : Type 0} (f : X → List Y) (xs : List X) (x : X) (y : Y) → IsIn x xs → IsIn y (f x) → IsIn y (flat_map f xs)
to_flat_map f [] x y at of = elim at [ ]
to_flat_map f (z ∷ zs) x y at of =
    elim at [
      | inl same ↦ to_left (f z) (flat_map f zs) y (subst (λ w. IsIn y (f w)) (sym same) of)
      | inr later ↦ to_right (f z) (flat_map f zs) y (to_flat_map f zs x y later of)
    ]

pub in_filter : {X : Type 0} (p : X → Bool) (xs : List X) (x : X) → IsIn x (filter p xs) → IsIn x xs × (p x ≡ true)
in_filter p [] x at = elim at [ ]
in_filter p (y ∷ ys) x at =
    elim (cases_Bool (p y)) [
      | inl passes ↦
          elim (subst (IsIn x) (cond-true (p y) (y ∷ filter p ys) (filter p ys) passes) at) [
            | inl same ↦ (inl same, subst (λ z. p z ≡ true) same passes)
            | inr later ↦ let found = in_filter p ys x later in (inr found.0, found.1)
          ]
      | inr fails ↦ let found = in_filter p ys x (subst (IsIn x) (cond-false (p y) (y ∷ filter p ys) (filter p ys) fails) at) in (inr found.0, found.1)
    ]

pub to_filter : {X : Type 0} (p : X → Bool) (xs : List X) (x : X) → IsIn x xs → p x ≡ true → IsIn x (filter p xs)
to_filter p [] x at passes = elim at [ ]
to_filter p (y ∷ ys) x at passes =
    elim at [
      | inl same ↦ subst (IsIn x) (sym (cond-true (p y) (y ∷ filter p ys) (filter p ys) (subst (λ z. p z ≡ true) (sym same) passes))) (inl same)
      | inr later ↦
          elim (cases_Bool (p y)) [
            | inl here ↦ subst (IsIn x) (sym (cond-true (p y) (y ∷ filter p ys) (filter p ys) here)) (inr (to_filter p ys x later passes))
            | inr gone ↦ subst (IsIn x) (sym (cond-false (p y) (y ∷ filter p ys) (filter p ys) gone)) (to_filter p ys x later passes)
          ]
    ]

in_cons_option : {X Y : Type 0} (f : X → Option Y) (x : X) (xs : List X) (y : Y) (o : Option Y) → f x ≡ o → IsIn y (filter_map f (x ∷ xs)) → (f x ≡ Some y) ⊎ IsIn y (filter_map f xs)
in_cons_option f x xs y None is at = inr (rw is at at)
in_cons_option f x xs y (Some z) is at =
    elim (rw is at at) [ inl same ↦ inl (is ∙ ap Some same) | inr later ↦ inr later ]

pub in_filter_map : {X Y : Type 0} (f : X → Option Y) (xs : List X) (y : Y) → IsIn y (filter_map f xs) → (x : X) × IsIn x xs × (f x ≡ Some y)
in_filter_map f [] y at = elim at [ ]
in_filter_map f (x ∷ xs) y at =
    elim (in_cons_option f x xs y (f x) refl at) [
      | inl same ↦ (x, inl refl, same)
      | inr later ↦ let found = in_filter_map f xs y later in (found.0, inr found.1, found.2)
    ]

past_option : {X Y : Type 0} (f : X → Option Y) (x : X) (xs : List X) (y : Y) (o : Option Y) → f x ≡ o → IsIn y (filter_map f xs) → IsIn y (filter_map f (x ∷ xs))
past_option f x xs y None is at = rw is at
past_option f x xs y (Some z) is at = rw is (inr at)

pub to_filter_map : {X Y : Type 0} (f : X → Option Y) (xs : List X) (x : X) (y : Y) → IsIn x xs → f x ≡ Some y → IsIn y (filter_map f xs)
to_filter_map f [] x y at is = elim at [ ]
to_filter_map f (z ∷ zs) x y at is =
    elim at [
      | inl same ↦ let here : f z ≡ Some y = ap f same ∙ is in rw here (inl refl)
      | inr later ↦ past_option f z zs y (f z) refl (to_filter_map f zs x y later is)
    ]

-- ---- by place

pub in_place : {X : Type 0} (xs : List X) (k : ℕ) (x : X) → slice_get xs k ≡ Some x → IsIn x xs
in_place [] k x is = absurd (none-some x is)
in_place (y ∷ ys) zero x is = inl (same_Some y x is)
in_place (y ∷ ys) (suc k) x is = inr (in_place ys k x is)

pub in_enumerated : {X : Type 0} (n : ℕ) (xs : List X) (e : ℕ × X) → IsIn e (enumerate_from n xs) → (k : ℕ) × (e.0 ≡ n + k) × (slice_get xs k ≡ Some e.1)
in_enumerated n [] e at = elim at [ ]
in_enumerated n (x ∷ xs) e at =
    elim at [
      | inl same ↦ (0, omega (arith, ap (λ (pair : ℕ × _). pair.0) same), ap (λ (pair : ℕ × _). Some pair.1) same)
      | inr later ↦ let found = in_enumerated (n + 1) xs e later in (suc found.0, omega (arith, found.1), found.2)
    ]

pub to_enumerated : {X : Type 0} (n : ℕ) (xs : List X) (k : ℕ) (x : X) → slice_get xs k ≡ Some x → IsIn (n + k, x) (enumerate_from n xs)
to_enumerated n [] k x is = absurd (none-some x is)
to_enumerated n (y ∷ ys) zero x is =
    let at_start : n ≡ n + 0 = omega arith in
    inl (rw (← at_start, same_Some y x is))
to_enumerated n (y ∷ ys) (suc k) x is =
    let same : (n + 1) + k ≡ n + suc k = omega arith in
    inr (subst (λ m. IsIn (m, x) (enumerate_from (n + 1) ys)) same (to_enumerated (n + 1) ys k x is))

pub in_range : (first n k : ℕ) → IsIn k (range_with_len first n) → (first ≤ k) × (k < first + n)
in_range first zero k at = elim at [ ]
in_range first (suc n) k at =
    elim at [
      | inl same ↦ (omega arith, omega arith)
      | inr later ↦ let found = in_range (first + 1) n k later in (omega (arith, found.0), omega (arith, found.1))
    ]

pub to_range : (first n k : ℕ) → first ≤ k → k < first + n → IsIn k (range_with_len first n)
to_range first zero k from to = absurd (omega arith)
to_range first (suc n) k from to = elim (cases_eq first k) [ inl same ↦ inl same | inr other ↦ inr (to_range (first + 1) n k (omega arith) (omega arith)) ]

-- ---- tests

pub to_any : {X : Type 0} (p : X → Bool) (xs : List X) (x : X) → IsIn x xs → p x ≡ true → list_any p xs ≡ true
to_any p [] x at passes = elim at [ ]
to_any p (y ∷ ys) x at passes =
    elim at [
      | inl same ↦ or_left (p y) (list_any p ys) (subst (λ z. p z ≡ true) (sym same) passes)
      | inr later ↦ or_right (p y) (list_any p ys) (to_any p ys x later passes)
    ]

pub in_any : {X : Type 0} (p : X → Bool) (xs : List X) → list_any p xs ≡ true → (x : X) × IsIn x xs × (p x ≡ true)
in_any p [] some = absurd (false≢true some)
in_any p (y ∷ ys) some =
    elim (or_cases (p y) (list_any p ys) some) [
      | inl here ↦ (y, inl refl, here)
      | inr later ↦ let found = in_any p ys later in (found.0, inr found.1, found.2)
    ]

-- ---- nothing found

pub none_mapped : {X Y : Type 0} (f : X → Y) (o : Option X) → option_map f o ≡ None → o ≡ None
none_mapped f None none = refl
none_mapped f (Some x) none = absurd (none-some (f x) (sym none))

pub none_found : {X : Type 0} (p : X → Bool) (xs : List X) → find p xs ≡ None → (x : X) → IsIn x xs → p x ≡ false
none_found p [] none x at = elim at [ ]
none_found p (y ∷ ys) none x at =
    elim (cases_Bool (p y)) [
      | inl passes ↦ absurd (none-some y (sym none ∙ cond-true (p y) (Some y) (find p ys) passes))
      | inr fails ↦ elim at [
        | inl same ↦ subst (λ z. p z ≡ false) same fails
        | inr later ↦ none_found p ys (sym (cond-false (p y) (Some y) (find p ys) fails) ∙ none) x later
      ]
    ]

pub find_none : {X : Type 0} (p : X → Bool) (xs : List X) → ((x : X) → IsIn x xs → p x ≡ false) → find p xs ≡ None
find_none p [] each = refl
find_none p (x ∷ xs) each = cond-false (p x) (Some x) (find p xs) (each x (inl refl)) ∙ find_none p xs (λ y at. each y (inr at))

-- ---- no fault

abbrev pub AreNone : {F : Type 0} → List (Option F) → Type 0
AreNone [] = Unit {0}
AreNone (fault ∷ faults) = (fault ≡ None) × AreNone faults

-- where none of some faults is told, each of them is none
pub none_each : {F : Type 0} (faults : List (Option F)) → first_some faults ≡ None → AreNone faults
none_each [] none = tt
none_each (None ∷ faults) none = (refl, none_each faults none)
none_each (Some fault ∷ faults) none = absurd (none-some fault (sym none))

pub none_first : {F : Type 0} (faults : List (Option F)) → AreNone faults → first_some faults ≡ None
none_first [] are = refl
none_first (None ∷ faults) are = none_first faults are.1
none_first (Some fault ∷ faults) are = absurd (none-some fault (sym are.0))

at_each : {X F : Type 0} (f : X → Option F) (xs : List X) → AreNone (map f xs) → (x : X) → IsIn x xs → f x ≡ None
at_each f [] are x at = elim at [ ]
at_each f (y ∷ ys) are x at = elim at [ inl same ↦ subst (λ z. f z ≡ None) same are.0 | inr later ↦ at_each f ys are.1 x later ]

pub none_each_map : {X F : Type 0} (f : X → Option F) (xs : List X) → first_some (map f xs) ≡ None → (x : X) → IsIn x xs → f x ≡ None
none_each_map f xs none = at_each f xs (none_each (map f xs) none)

from_each : {X F : Type 0} (f : X → Option F) (xs : List X) → ((x : X) → IsIn x xs → f x ≡ None) → AreNone (map f xs)
from_each f [] each = tt
from_each f (x ∷ xs) each = (each x (inl refl), from_each f xs (λ y at. each y (inr at)))

pub none_first_map : {X F : Type 0} (f : X → Option F) (xs : List X) → ((x : X) → IsIn x xs → f x ≡ None) → first_some (map f xs) ≡ None
none_first_map f xs each = none_first (map f xs) (from_each f xs each)
