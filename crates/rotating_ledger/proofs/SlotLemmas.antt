-- Slots and the places where their values are found.
use Rattle.std.proofs.Common.{◌≡◌, ◌⊎◌, inl, inr, ℕ, suc, zero, ◌+◌, ◌<◌, Bool, true, false, cond, Some, None, List, [], ◌∷◌, ◌++◌, length, get_or, append_assoc, refl, sym, ap, subst, ◌∙◌, arith}
use Rattle.std.specs.Prelude.{slice_get, slice_set, unwrap_or, IsSome, is_some}
use Rattle.std.proofs.lemmas.Option.{slice_get-get_or, get_or_from_slice_get}
use Rattle.storm_values.specs.declared.value.Root.{Root}
use Rattle.rotating_ledger.specs.Held.{Held, root_eq}
use Rattle.rotating_ledger.specs.Slots.{Places, slot_at, held_in, value_in, refilled, AreFound, Trims}
use Rattle.rotating_ledger.specs.declared.slot.Slot.{Slot}
use Rattle.rotating_ledger.specs.declared.slot.Slot.TheVariants.{Full, Empty}
use Rattle.rotating_ledger.proofs.RootLemmas.{root_eq-refl, root_eq-same}

-- ---- places of lists

pub same_some : {X : Type 0} (a b : X) → Some a ≡ Some b → a ≡ b
same_some a b same = ap (λ o. unwrap_or o a) same

same_or_not : (i j : ℕ) → (i ≡ j) ⊎ (i ≡ j → ⊥)
same_or_not zero zero = inl refl
same_or_not zero (suc j) = inr (λ same. omega arith)
same_or_not (suc i) zero = inr (λ same. omega arith)
same_or_not (suc i) (suc j) = cases (same_or_not i j)
  where
    cases : (i ≡ j) ⊎ (i ≡ j → ⊥) → (suc i ≡ suc j) ⊎ (suc i ≡ suc j → ⊥)
    cases (inl same) = inl (ap suc same)
    cases (inr differ) = inr (λ same. differ (omega arith))

pub get-front : {X : Type 0} (xs ys : List X) (i : ℕ) (y : X) → slice_get xs i ≡ Some y → slice_get (xs ++ ys) i ≡ Some y
get-front [] ys i y at = absurd (none_some at)
  where
    none_some : None ≡ Some y → ⊥
    none_some same = cc
get-front (x ∷ xs) ys zero y at = at
get-front (x ∷ xs) ys (suc i) y at = get-front xs ys i y at

-- an item of two lists stands in the first, or in the second
pub get-either : {X : Type 0} (xs ys : List X) (i : ℕ) (y : X) → slice_get (xs ++ ys) i ≡ Some y
    → (slice_get xs i ≡ Some y) ⊎ ((j : ℕ) × (i ≡ length xs + j) × (slice_get ys j ≡ Some y))
get-either [] ys i y at = inr (i, (let e : i ≡ length {A = ℕ} [] + i = omega arith in e), at)
get-either (x ∷ xs) ys zero y at = inl at
get-either (x ∷ xs) ys (suc i) y at = shift (get-either xs ys i y at)
  where
    shift : (slice_get xs i ≡ Some y) ⊎ ((j : ℕ) × (i ≡ length xs + j) × (slice_get ys j ≡ Some y))
        → (slice_get xs i ≡ Some y) ⊎ ((j : ℕ) × (suc i ≡ length (x ∷ xs) + j) × (slice_get ys j ≡ Some y))
    shift (inl front) = inl front
    shift (inr back) = inr (back.0, (let e = back.1 in omega arith), back.2)

pub get-end : {X : Type 0} (xs : List X) (y : X) → slice_get (xs ++ y ∷ []) (length xs) ≡ Some y
get-end [] y = refl
get-end (x ∷ xs) y = get-end xs y

pub get-set-other : {X : Type 0} (xs : List X) (i j : ℕ) (x : X) → (j ≡ i → ⊥) → slice_get (slice_set xs i x) j ≡ slice_get xs j
get-set-other [] i j x differ = refl
get-set-other (y ∷ ys) zero zero x differ = absurd (differ refl)
get-set-other (y ∷ ys) zero (suc j) x differ = refl
get-set-other (y ∷ ys) (suc i) zero x differ = refl
get-set-other (y ∷ ys) (suc i) (suc j) x differ = get-set-other ys i j x (λ same. differ (ap suc same))

pub get-set-same : {X : Type 0} (xs : List X) (i : ℕ) (x y : X) → slice_get xs i ≡ Some y → slice_get (slice_set xs i x) i ≡ Some x
get-set-same [] i x y at = absurd (none_some at)
  where
    none_some : None ≡ Some y → ⊥
    none_some same = cc
get-set-same (z ∷ zs) zero x y at = refl
get-set-same (z ∷ zs) (suc i) x y at = get-set-same zs i x y at

pub get-set-is : {X : Type 0} (xs : List X) (i : ℕ) (x y : X) → slice_get (slice_set xs i x) i ≡ Some y → x ≡ y
get-set-is [] i x y at = absurd (none_some at)
  where
    none_some : None ≡ Some y → ⊥
    none_some same = cc
get-set-is (z ∷ zs) zero x y at = same_some x y at
get-set-is (z ∷ zs) (suc i) x y at = get-set-is zs i x y at

module _ {V : Type 0} where
  abbrev root_in : Root → Slot V → Root
  root_in other Empty = other
  root_in other (Full root value) = root

  pub full_root : (q r : Root) (v w : V) → Full q v ≡ Full r w → q ≡ r
  full_root q r v w same = ap (root_in q) same

  abbrev kept_value : V → Slot V → V
  kept_value other Empty = other
  kept_value other (Full root value) = value

  pub full_value : (q r : Root) (v w : V) → Full q v ≡ Full r w → v ≡ w
  full_value q r v w same = ap (kept_value v) same

  abbrev is_full : Slot V → Bool
  is_full Empty = false
  is_full (Full root value) = true

  pub empty_full : (r : Root) (v : V) → Empty ≡ Full r v → ⊥
  empty_full r v same = let e : false ≡ true = ap is_full same in cc

  -- ---- what slots hold

  pub held_in-append : (age : ℕ) (xs ys : List (Slot V)) → held_in age (xs ++ ys) ≡ held_in age xs ++ held_in age ys
  held_in-append age [] ys = refl
  held_in-append age (Empty ∷ xs) ys = held_in-append age xs ys
  held_in-append age (Full root value ∷ xs) ys = ap (λ hs. record { root = root; age = age; value = value } ∷ hs) (held_in-append age xs ys)

  none_held : (h : Held V) (hs : List (Held V)) → h ∷ hs ≡ [] → ⊥
  none_held h hs same = cc

  silent_any : (age : ℕ) (rest : List (Slot V)) → held_in 0 rest ≡ [] → held_in age rest ≡ []
  silent_any age [] none = refl
  silent_any age (Empty ∷ rest) none = silent_any age rest none
  silent_any age (Full root value ∷ rest) none = absurd (none_held _ _ none)

  full_held : (rest : List (Slot V)) (j : ℕ) (r : Root) (v : V) → slice_get rest j ≡ Some (Full r v) → held_in 0 rest ≡ [] → ⊥
  full_held [] j r v at none = cc
  full_held (Empty ∷ rest) zero r v at none = empty_full r v (same_some _ _ at)
  full_held (Empty ∷ rest) (suc j) r v at none = full_held rest j r v at none
  full_held (Full root value ∷ rest) j r v at none = none_held _ _ none

  append_nothing : (xs : List (Held V)) → xs ++ [] ≡ xs
  append_nothing [] = refl
  append_nothing (x ∷ xs) = ap (λ ys. x ∷ ys) (append_nothing xs)

  pub held_in-trims : (age : ℕ) (old new : List (Slot V)) → Trims old new → held_in age new ≡ held_in age old
  held_in-trims age old new trims =
      sym (ap (held_in age) trims.split ∙ held_in-append age new trims.rest ∙ ap (λ hs. held_in age new ++ hs) (silent_any age trims.rest trims.silent)
      ∙ append_nothing (held_in age new))

  pub trims-none : (xs : List (Slot V)) → Trims xs xs
  trims-none xs = record { rest = []; split = sym (nothing xs); silent = refl }
    where
      nothing : (ys : List (Slot V)) → ys ++ [] ≡ ys
      nothing [] = refl
      nothing (y ∷ ys) = ap (λ zs. y ∷ zs) (nothing ys)

  pub trims-more : (old xs : List (Slot V)) → Trims old (xs ++ Empty ∷ []) → Trims old xs
  trims-more old xs trims = record {
    rest = Empty ∷ trims.rest;
    split = trims.split ∙ append_assoc xs (Empty ∷ []) trims.rest;
    silent = trims.silent;
  }

  -- ---- each root is found where its value lies

  pub AreFound-put : (p q : Places) (ss : List (Slot V)) (root : Root) (value : V) → AreFound p ss → slot_at p root ≡ None
      → ((r : Root) → slot_at q r ≡ cond (root_eq root r) (Some (length ss)) (slot_at p r))
      → AreFound q (ss ++ Full root value ∷ [])
  AreFound-put p q ss root value are absent now = record {
    found = λ r v i at. found r v i (get-either ss (Full root value ∷ []) i (Full r v) at);
    there = λ r i at. there r i (root_eq root r) refl at;
  }
    where
      goes : (r : Root) (i : ℕ) (b : Bool) → root_eq root r ≡ b → slot_at p r ≡ Some i → slot_at q r ≡ Some i
      goes r i true same at = absurd (none_some (sym absent ∙ ap (slot_at p) (root_eq-same root r same) ∙ at))
        where
          none_some : None ≡ Some i → ⊥
          none_some no_way = cc
      goes r i false differ at = now r ∙ ap (λ b. cond b (Some (length ss)) (slot_at p r)) differ ∙ at

      comes : (r : Root) → root ≡ r → slot_at q r ≡ Some (length ss)
      comes r same = now r ∙ ap (λ b. cond b (Some (length ss)) (slot_at p r)) (ap (λ x. root_eq root x) (sym same) ∙ root_eq-refl root)

      first : (j : ℕ) (r : Root) (v : V) → slice_get (Full root value ∷ []) j ≡ Some (Full r v) → (j ≡ 0) × (root ≡ r)
      first zero r v at = (refl, full_root root r value v (same_some _ _ at))
      first (suc j) r v at = absurd (none_some at)
        where
          none_some : None ≡ Some (Full r v) → ⊥
          none_some no_way = cc

      found : (r : Root) (v : V) (i : ℕ) → (slice_get ss i ≡ Some (Full r v)) ⊎ ((j : ℕ) × (i ≡ length ss + j) × (slice_get (Full root value ∷ []) j ≡ Some (Full r v)))
          → slot_at q r ≡ Some i
      found r v i (inl front) = goes r i (root_eq root r) refl (are.found r v i front)
      found r v i (inr back) =
          let one = first back.0 r v back.2 in
          let zeroth = one.0 in
          let sum = back.1 in
          let e : length ss ≡ i = omega arith in comes r one.1 ∙ ap Some e

      there : (r : Root) (i : ℕ) (b : Bool) → root_eq root r ≡ b → slot_at q r ≡ Some i → (v : V) × (slice_get (ss ++ Full root value ∷ []) i ≡ Some (Full r v))
      there r i true same at =
          let is : root ≡ r = root_eq-same root r same in
          let e : length ss ≡ i = same_some _ _ (sym (comes r is) ∙ at) in
          (value, ap (slice_get (ss ++ Full root value ∷ [])) (sym e) ∙ get-end ss (Full root value) ∙ ap (λ x. Some (Full x value)) is)
      there r i false differ at =
          let old = are.there r i (sym (now r ∙ ap (λ b. cond b (Some (length ss)) (slot_at p r)) differ) ∙ at) in
          (old.0, get-front ss (Full root value ∷ []) i (Full r old.0) old.1)

  pub AreFound-take : (p q : Places) (ss : List (Slot V)) (root : Root) (i : ℕ) → AreFound p ss → slot_at p root ≡ Some i
      → ((r : Root) → slot_at q r ≡ cond (root_eq root r) None (slot_at p r))
      → AreFound q (slice_set ss i Empty)
  AreFound-take p q ss root i are here now = record {
    found = λ r v j at. found r v j (same_or_not j i) at;
    there = λ r j at. there r j (root_eq root r) refl at;
  }
    where
      keeps : (r : Root) (b : Bool) → root_eq root r ≡ b → (root ≡ r → ⊥) → slot_at q r ≡ slot_at p r
      keeps r true same differ = absurd (differ (root_eq-same root r same))
      keeps r false same differ = now r ∙ ap (λ b. cond b None (slot_at p r)) same

      found : (r : Root) (v : V) (j : ℕ) → (j ≡ i) ⊎ (j ≡ i → ⊥) → slice_get (slice_set ss i Empty) j ≡ Some (Full r v) → slot_at q r ≡ Some j
      found r v j (inl same) at = absurd (empty_full r v (get-set-is ss i Empty (Full r v) (ap (slice_get (slice_set ss i Empty)) (sym same) ∙ at)))
      found r v j (inr differ) at =
          let old : slot_at p r ≡ Some j = are.found r v j (sym (get-set-other ss i j Empty differ) ∙ at) in
          keeps r (root_eq root r) refl (λ same. differ (same_some j i (sym old ∙ ap (slot_at p) (sym same) ∙ here))) ∙ old

      there : (r : Root) (j : ℕ) (b : Bool) → root_eq root r ≡ b → slot_at q r ≡ Some j → (v : V) × (slice_get (slice_set ss i Empty) j ≡ Some (Full r v))
      there r j true same at = absurd (none_some (sym (now r ∙ ap (λ b. cond b None (slot_at p r)) same) ∙ at))
        where
          none_some : None ≡ Some j → ⊥
          none_some no_way = cc
      there r j false differ at =
          let was : slot_at p r ≡ Some j = sym (now r ∙ ap (λ b. cond b None (slot_at p r)) differ) ∙ at in
          let old = are.there r j was in
          let apart : j ≡ i → ⊥ = λ same. other same old.1 in
          (old.0, get-set-other ss i j Empty apart ∙ old.1)
        where
          other : j ≡ i → {v : V} → slice_get ss j ≡ Some (Full r v) → ⊥
          other same {v} here_too =
              let mine = are.there root i here in
              let is : root ≡ r = full_root root r mine.0 v (same_some _ _ (sym mine.1 ∙ ap (slice_get ss) (sym same) ∙ here_too)) in
              let e : true ≡ false = sym (root_eq-refl root) ∙ ap (λ x. root_eq root x) is ∙ differ in cc

  pub AreFound-write : (p : Places) (ss : List (Slot V)) (root : Root) (i : ℕ) (value new : V) → AreFound p ss → slice_get ss i ≡ Some (Full root value)
      → AreFound p (slice_set ss i (Full root new))
  AreFound-write p ss root i value new are here = record {
    found = λ r v j at. found r v j (same_or_not j i) at;
    there = λ r j at. there r j (same_or_not j i) (are.there r j at);
  }
    where
      found : (r : Root) (v : V) (j : ℕ) → (j ≡ i) ⊎ (j ≡ i → ⊥) → slice_get (slice_set ss i (Full root new)) j ≡ Some (Full r v) → slot_at p r ≡ Some j
      found r v j (inl same) at =
          let is : root ≡ r = full_root root r new v (get-set-is ss i (Full root new) (Full r v) (ap (slice_get (slice_set ss i (Full root new))) (sym same) ∙ at)) in
          ap (slot_at p) (sym is) ∙ are.found root value i here ∙ ap Some (sym same)
      found r v j (inr differ) at = are.found r v j (sym (get-set-other ss i j (Full root new) differ) ∙ at)

      there : (r : Root) (j : ℕ) → (j ≡ i) ⊎ (j ≡ i → ⊥) → (v : V) × (slice_get ss j ≡ Some (Full r v)) → (v : V) × (slice_get (slice_set ss i (Full root new)) j ≡ Some (Full r v))
      there r j (inl same) old =
          let is : root ≡ r = full_root root r value old.0 (same_some _ _ (sym here ∙ ap (slice_get ss) (sym same) ∙ old.1)) in
          (new, ap (slice_get (slice_set ss i (Full root new))) same ∙ get-set-same ss i (Full root new) (Full root value) here ∙ ap (λ x. Some (Full x new)) is)
      there r j (inr differ) old = (old.0, get-set-other ss i j (Full root new) differ ∙ old.1)

  pub AreFound-trims : (p : Places) (old new : List (Slot V)) → AreFound p old → Trims old new → AreFound p new
  AreFound-trims p old new are trims = record {
    found = λ r v i at. are.found r v i (ap (λ xs. slice_get xs i) trims.split ∙ get-front new trims.rest i (Full r v) at);
    there = λ r i at. let was = are.there r i at in (was.0, there r was.0 i (get-either new trims.rest i (Full r was.0) (sym (ap (λ xs. slice_get xs i) trims.split) ∙ was.1)));
  }
    where
      there : (r : Root) (v : V) (i : ℕ) → (slice_get new i ≡ Some (Full r v)) ⊎ ((j : ℕ) × (i ≡ length new + j) × (slice_get trims.rest j ≡ Some (Full r v)))
          → slice_get new i ≡ Some (Full r v)
      there r v i (inl front) = front
      there r v i (inr back) = absurd (full_held trims.rest back.0 r v back.2 trims.silent)

  -- ---- a value that is lent

  full_within : (ss : List (Slot V)) (i : ℕ) → IsSome (value_in (get_or ss i Empty)) → i < length ss
  full_within [] i some = absurd (none_some some)
    where
      none_some : false ≡ true → ⊥
      none_some same = cc
  full_within (s ∷ ss) zero some = omega arith
  full_within (s ∷ ss) (suc i) some = let less = full_within ss i some in omega arith

  -- a slot that is read is the one that stands there
  pub read_slot : (ss : List (Slot V)) (i : ℕ) (x : Slot V) → x ≡ get_or ss i x → IsSome (value_in (get_or ss i Empty)) → get_or ss i Empty ≡ x
  read_slot ss i x is some =
      let within = full_within ss i some in
      same_some _ _ (sym (slice_get-get_or ss i Empty within) ∙ slice_get-get_or ss i x within) ∙ sym is

  pub full_here : (p : Places) (ss : List (Slot V)) (r : Root) (i : ℕ) → AreFound p ss → slot_at p r ≡ Some i
      → (v : V) × (get_or ss i Empty ≡ Full r v) × (slice_get ss i ≡ Some (Full r v))
  full_here p ss r i are here = let there = are.there r i here in (there.0, get_or_from_slice_get ss i (Full r there.0) Empty there.1, there.1)

  pub some_here : (p : Places) (ss : List (Slot V)) (r : Root) (i : ℕ) → AreFound p ss → slot_at p r ≡ Some i → IsSome (value_in (get_or ss i Empty))
  some_here p ss r i are here = let full = full_here p ss r i are here in ap (λ s. is_some (value_in s)) full.1

  pub AreFound-lent : (p : Places) (ss : List (Slot V)) (r : Root) (i : ℕ) (w : V) → AreFound p ss → slot_at p r ≡ Some i
      → AreFound p (slice_set ss i (refilled (get_or ss i Empty) w))
  AreFound-lent p ss r i w are here =
      let full = full_here p ss r i are here in
      subst (λ s. AreFound p (slice_set ss i (refilled s w))) (sym full.1) (AreFound-write p ss r i full.0 w are full.2)
