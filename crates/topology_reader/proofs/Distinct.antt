-- Names that differ: what the tests on names say, and lists in which nothing stands twice.
use Rattle.std.proofs.Common.{◌≡◌, ◌≢◌, ℕ, zero, suc, ◌+◌, ◌<◌, ◌≤◌, List, [], ◌∷◌, ◌++◌, length, map, AllPairs, true, false, Option, Some, None, option_map, slice_get, slice_index_or, inl, inr, refl, sym, ◌∙◌, ap, subst, arith, add-one}
use Rattle.std.specs.List.Sorted.{IsStrictlyIncreasing}
use Rattle.topology_reader.proofs.Common.{bytes_eq, bytes_decides, cases_Bool, cond-true, cond-false, both_ways, none-some, same_Some, slice_get_within, is_among, first_again, place_of}
use Rattle.std.proofs.lemmas.List.Kept.{AllPairs-cons}
use Rattle.topology_reader.proofs.Listed.{IsIn, All-from_in, in_append, to_map, to_any, in_any}

-- ---- names

pub bytes_same : (a b : List ℕ) → bytes_eq a b ≡ true → a ≡ b
bytes_same a b same = (bytes_decides a b).0 same

pub bytes_itself : (a b : List ℕ) → a ≡ b → bytes_eq a b ≡ true
bytes_itself a b same = (bytes_decides a b).1 same

pub among_in : (texts : List (List ℕ)) (text : List ℕ) → is_among texts text ≡ true → IsIn text texts
among_in texts text among =
    let found = in_any (bytes_eq text) texts among in
    subst (λ other. IsIn other texts) (sym (bytes_same text found.0 found.2)) found.1

pub in_among : (texts : List (List ℕ)) (text : List ℕ) → IsIn text texts → is_among texts text ≡ true
in_among texts text at = to_any (bytes_eq text) texts text at (bytes_itself text text refl)

pub not_among : (texts : List (List ℕ)) (text : List ℕ) → is_among texts text ≡ false → IsIn text texts → ⊥
not_among texts text none at = both_ways (is_among texts text) none (in_among texts text at)

-- ---- places of names

pub some_mapped : {X Y : Type 0} (f : X → Y) (o : Option X) (y : Y) → option_map f o ≡ Some y → (x : X) × (o ≡ Some x) × (f x ≡ y)
some_mapped f None y some = absurd (none-some y some)
some_mapped f (Some x) y some = (x, refl, same_Some (f x) y some)

pub place_of_same : (first : List ℕ) (names : List (List ℕ)) (name : List ℕ) → first ≡ name → place_of (first ∷ names) name ≡ Some zero
place_of_same first names name same = cond-true (bytes_eq first name) (Some zero) (option_map suc (place_of names name)) (bytes_itself first name same)

place_of_other : (first : List ℕ) (names : List (List ℕ)) (name : List ℕ) → bytes_eq first name ≡ false → place_of (first ∷ names) name ≡ option_map suc (place_of names name)
place_of_other first names name other = cond-false (bytes_eq first name) (Some zero) (option_map suc (place_of names name)) other

-- a place has the name
pub place_named : (names : List (List ℕ)) (name : List ℕ) (c : ℕ) → place_of names name ≡ Some c → slice_get names c ≡ Some name
place_named [] name c is = absurd (none-some c is)
place_named (first ∷ names) name c is =
    elim (cases_Bool (bytes_eq first name)) [
      | inl same ↦
          let equal : first ≡ name = bytes_same first name same in
          let here : zero ≡ c = same_Some zero c (sym (place_of_same first names name equal) ∙ is) in
          subst (λ k. slice_get (first ∷ names) k ≡ Some name) here (ap Some equal)
      | inr other ↦
          let later = some_mapped suc (place_of names name) c (sym (place_of_other first names name other) ∙ is) in
          subst (λ k. slice_get (first ∷ names) k ≡ Some name) later.2 (place_named names name later.0 later.1)
    ]

pub place_within : (names : List (List ℕ)) (name : List ℕ) (c : ℕ) → place_of names name ≡ Some c → c < length names
place_within names name c is = slice_get_within names c name (place_named names name c is)

-- a name that is there has a place
pub place_there : (names : List (List ℕ)) (name : List ℕ) → IsIn name names → (c : ℕ) × (place_of names name ≡ Some c)
place_there [] name at = elim at [ ]
place_there (first ∷ names) name at =
    elim (cases_Bool (bytes_eq first name)) [
      | inl same ↦ (zero, place_of_same first names name (bytes_same first name same))
      | inr other ↦ elim at [
        | inl same ↦ absurd (both_ways (bytes_eq first name) other (bytes_itself first name same))
        | inr later ↦
            let found = place_there names name later in
            (suc found.0, place_of_other first names name other ∙ ap (option_map suc) found.1)
      ]
    ]

-- ---- nothing twice

abbrev pub AreApart : {X : Type 0} → List X → Type 0
AreApart [] = Unit {0}
AreApart (x ∷ xs) = (IsIn x xs → ⊥) × AreApart xs

-- whose images stand apart, those differ in pairs
pub AllPairs-from_apart : {X Y : Type 0} (f : X → Y) (xs : List X) → AreApart (map f xs) → AllPairs (λ a b. f a ≢ f b) xs
AllPairs-from_apart f [] apart = λ i j d before within. absurd (omega arith)
AllPairs-from_apart f (x ∷ xs) apart =
    AllPairs-cons (λ a b. f a ≢ f b) x xs
    (All-from_in (λ y. f x ≢ f y) xs (λ y at same. apart.0 (subst (λ z. IsIn z (map f xs)) (sym same) (to_map f xs y at))))
    (AllPairs-from_apart f xs apart.1)

pub apart_push : {X : Type 0} (xs : List X) (y : X) → AreApart xs → (IsIn y xs → ⊥) → AreApart (xs ++ y ∷ [])
apart_push [] y apart new = (λ at. elim at [ ], tt)
apart_push (x ∷ xs) y apart new = (
  λ at. elim (in_append xs (y ∷ []) x at) [
    | inl before ↦ apart.0 before
    | inr last ↦ elim last [ inl same ↦ new (inl (sym same)) | inr none ↦ elim none [ ] ]
  ],
  apart_push xs y apart.1 (λ at. new (inr at)),
)

-- what no search finds again stands apart
again_apart : (before names : List (List ℕ)) → first_again before names ≡ None → AreApart names × ((name : List ℕ) → IsIn name names → IsIn name before → ⊥)
again_apart before [] none = (tt, λ name at. elim at [ ])
again_apart before (first ∷ names) none =
    elim (cases_Bool (is_among before first)) [
      | inl again ↦ absurd (none-some first (sym none ∙ cond-true (is_among before first) (Some first) (first_again (first ∷ before) names) again))
      | inr new ↦
          let rest = again_apart (first ∷ before) names (sym (cond-false (is_among before first) (Some first) (first_again (first ∷ before) names) new) ∙ none) in
          let after : (name : List ℕ) → IsIn name names → IsIn name (first ∷ before) → ⊥ = rest.1 in (
            (λ at. after first at (inl refl), rest.0),
            λ name at earlier. elim at [
              | inl same ↦ not_among before first new (subst (λ other. IsIn other before) (sym same) earlier)
              | inr later ↦ after name later (inr earlier)
            ],
          )
    ]

pub apart_from_again : (names : List (List ℕ)) → first_again [] names ≡ None → AreApart names
apart_from_again names none = (again_apart [] names none).0

-- ---- rising numbers

-- each number is above those before it, and none is below the first one
abbrev pub IsRising : ℕ → List ℕ → Type 0
IsRising least [] = Unit {0}
IsRising least (n ∷ ns) = (least ≤ n) × IsRising (n + 1) ns

pub rising_above : (least more : ℕ) (ns : List ℕ) → least ≤ more → IsRising more ns → IsRising least ns
rising_above least more [] le rising = tt
rising_above least more (n ∷ ns) le rising = (omega (arith, rising.0), rising.1)

rising_next : (least : ℕ) (ns : List ℕ) (k : ℕ) → IsRising least ns → suc k < length ns → slice_index_or ns k 0 < slice_index_or ns (suc k) 0
rising_next least [] k rising within = absurd (omega arith)
rising_next least (n ∷ []) k rising within = absurd (omega arith)
rising_next least (n ∷ (m ∷ ns)) zero rising within = omega (arith, rising.1.0)
rising_next least (n ∷ (m ∷ ns)) (suc k) rising within = rising_next (n + 1) (m ∷ ns) k rising.1 (omega arith)

pub increasing_from_rising : (least : ℕ) (ns : List ℕ) → IsRising least ns → IsStrictlyIncreasing ns
increasing_from_rising least ns rising k within = rw add-one (rising_next least ns k rising (omega arith))
