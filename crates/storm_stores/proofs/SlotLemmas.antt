-- The places of a maker's parts.
use Rattle.std.proofs.Common.{◌≡◌, ℕ, zero, suc, ◌+◌, ◌<◌, ◌≤◌, Bool, true, false, true≢false, not, cond, List, [], ◌∷◌, ◌++◌, length, Option, Some, None, find, position, unwrap_or, nat_lt, set, get_or, subst, refl, sym, ap, ◌∙◌, arith}
use Rattle.std.specs.List.{position_or_len, slice_get}
use Rattle.std.specs.Option.{option_or}
use Rattle.std.proofs.lemmas.Bool.Decides.{nat_tests}
use Rattle.std.proofs.lemmas.List.Folds.{find_at, find-set, find-append}
use Rattle.std.proofs.lemmas.List.{get_or_default}
use Rattle.std.proofs.lemmas.Option.{slice_get-get_or, slice_get_past}
use Rattle.storm_stores.specs.CellMaps.{CellMap, InKeyOrder, with_cell}
use Rattle.storm_stores.specs.MemoryStore.{StoreState, store_of}
use Rattle.storm_stores.proofs.CellMapLemmas.{InKeyOrder-none}
use Rattle.storm_stores.specs.MemoryMaker.{ChangesPart, HoldsFor, no_parts, IsOther, SameParts, is_slot, slot_of, store_in, made_in, store_at, made_at}
use Rattle.storm_stores.specs.declared.memory_maker.Slot.{Slot}

position_or_len-le : (q : Slot → Bool) (xs : List Slot) → position_or_len q xs ≤ length xs
position_or_len-le q [] = omega arith
position_or_len-le q (x ∷ xs) = cases (q x) (position_or_len-le q xs)
  where
    cases : (b : Bool) → position_or_len q xs ≤ length xs → cond (not b) (1 + position_or_len q xs) 0 ≤ suc (length xs)
    cases true later = omega arith
    cases false later = omega arith

find-set_other : (q : Slot → Bool) (xs : List Slot) (i : ℕ) (y : Slot) → q y ≡ false → q (get_or xs i y) ≡ false → find q (set xs i y) ≡ find q xs
find-set_other q [] i y new old = refl
find-set_other q (x ∷ xs) zero y new old = rw (new, old) refl
find-set_other q (x ∷ xs) (suc i) y new old = ap (λ found. cond (q x) (Some x) found) (find-set_other q xs i y new old)

is_of : (c p : ℕ) (slot : Slot) → is_slot c p slot ≡ true → (slot.component ≡ c) × (slot.part ≡ p)
is_of c p slot is = (grind (arith, nat_tests), grind (arith, nat_tests))

of_other : (c p c' p' : ℕ) (slot : Slot) → is_slot c p slot ≡ true → IsOther c p c' p' → is_slot c' p' slot ≡ false
of_other c p c' p' slot is other = cases (is_slot c' p' slot) refl
  where
    cases : (b : Bool) → is_slot c' p' slot ≡ b → is_slot c' p' slot ≡ false
    cases false here = here
    cases true here =
        let a = is_of c p slot is in
        let b = is_of c' p' slot here in
        absurd (other (sym b.0 ∙ a.0, sym b.1 ∙ a.1))

find_passes : (q : Slot → Bool) (xs : List Slot) (y : Slot) → find q xs ≡ Some y → q y ≡ true
find_passes q [] y is = cc
find_passes q (x ∷ xs) y is = cases (q x) refl is (find_passes q xs y)
  where
    cases : (b : Bool) → q x ≡ b → cond b (Some x) (find q xs) ≡ Some y → (find q xs ≡ Some y → q y ≡ true) → q y ≡ true
    cases true here found later = let same : x ≡ y = cc in rw (← same) here
    cases false here found later = later found

-- what stands at the place of a part is the part's
pub slot_here : (c p i : ℕ) (ss : List Slot) (old : Slot) → i ≡ position_or_len (is_slot c p) ss → i < length ss → old ≡ get_or ss i old → (is_slot c p old ≡ true) × (slot_of ss c p ≡ Some old)
slot_here c p i ss old at within is =
    let found : slot_of ss c p ≡ Some old = find_at (is_slot c p) ss ∙ ap (slice_get ss) (sym at) ∙ slice_get-get_or ss i old within ∙ ap Some (sym is) in
    (find_passes (is_slot c p) ss old found, found)

-- where a store was made there is a place
pub made_within : (c p i : ℕ) (ss : List Slot) → i ≡ position_or_len (is_slot c p) ss → i ≤ length ss → made_at ss c p ≡ true → i < length ss
made_within c p i ss at most made = cases (nat_lt i (length ss)) refl
  where
    cases : (b : Bool) → nat_lt i (length ss) ≡ b → i < length ss
    cases true here = grind (arith, nat_tests)
    cases false here =
        let past : length ss ≤ i = grind (arith, nat_tests) in
        let none : slot_of ss c p ≡ None = find_at (is_slot c p) ss ∙ ap (slice_get ss) (sym at) ∙ slice_get_past ss i past in
        absurd (true≢false (sym made ∙ ap made_in none))

pub changes_part : (c p i : ℕ) (ss : List Slot) (old : Slot) (store : StoreState) (made : Bool) → i ≡ position_or_len (is_slot c p) ss → i < length ss → old ≡ get_or ss i old
    → ChangesPart ss (set ss i (record { component = old.component; part = old.part; made = made; store = store })) c p store made
changes_part c p i ss old store made at within is =
    let here = slot_here c p i ss old at within is in
    let new : Slot = record { component = old.component; part = old.part; made = made; store = store } in
    let there : slot_of (set ss i new) c p ≡ Some new = find-set (is_slot c p) ss i new at within here.0 in
    let apart : (c' p' : ℕ) → IsOther c p c' p' → slot_of (set ss i new) c' p' ≡ slot_of ss c' p' =
    λ c' p' other. find-set_other (is_slot c' p') ss i new (of_other c p c' p' new here.0 other) (of_other c p c' p' (get_or ss i new) (rw (get_or_default ss i new old within, ← is) here.0) other) in
    record {
      store_is = ap store_in there;
      made_is = ap made_in there;
      other_stores = λ c' p' other. ap store_in (apart c' p' other);
      other_made = λ c' p' other. ap made_in (apart c' p' other);
    }

pub SameParts-push : (ss : List Slot) (new : Slot) → new.store ≡ store_of [] → new.made ≡ false → SameParts ss (ss ++ new ∷ [])
SameParts-push ss new empty unmade = record {
  stores = λ c p. rw (find-append (is_slot c p) ss (new ∷ [])) (stores_same (find (is_slot c p) ss) (is_slot c p new));
  made = λ c p. rw (find-append (is_slot c p) ss (new ∷ [])) (made_same (find (is_slot c p) ss) (is_slot c p new));
}
  where
    stores_same : (o : Option Slot) (b : Bool) → store_in (option_or o (cond b (Some new) None)) ≡ store_in o
    stores_same (Some slot) b = refl
    stores_same None true = empty
    stores_same None false = refl

    made_same : (o : Option Slot) (b : Bool) → made_in (option_or o (cond b (Some new) None)) ≡ made_in o
    made_same (Some slot) b = refl
    made_same None true = unmade
    made_same None false = refl

pub ChangesPart-after : (a b d : List Slot) (c p : ℕ) (store : StoreState) (made : Bool) → SameParts a b → ChangesPart b d c p store made → ChangesPart a d c p store made
ChangesPart-after a b d c p store made same changes = record {
  store_is = changes.store_is;
  made_is = changes.made_is;
  other_stores = λ c' p' other. changes.other_stores c' p' other ∙ same.stores c' p';
  other_made = λ c' p' other. changes.other_made c' p' other ∙ same.made c' p';
}

-- the store of a part changes after the part got its place
pub changes_after : (c p i : ℕ) (a b : List Slot) (old : Slot) (f : StoreState → StoreState) (store : StoreState) → SameParts a b → i ≡ position_or_len (is_slot c p) b → i < length b → old ≡ get_or b i old → store ≡ f old.store
    → ChangesPart a (set b i (record { component = old.component; part = old.part; made = old.made; store = store })) c p (f (store_at a c p)) (made_at a c p)
changes_after c p i a b old f store same at within is new =
    let here = slot_here c p i b old at within is in
    let before : f (store_at a c p) ≡ store = ap f (sym (same.stores c p) ∙ ap store_in here.1) ∙ sym new in
    let made : made_at a c p ≡ old.made = sym (same.made c p) ∙ ap made_in here.1 in
    subst (λ (s : StoreState). ChangesPart a (set b i (record { component = old.component; part = old.part; made = old.made; store = store })) c p s (made_at a c p)) (sym before)
    (subst (λ (m : Bool). ChangesPart a (set b i (record { component = old.component; part = old.part; made = old.made; store = store })) c p store m) (sym made)
    (ChangesPart-after a b _ c p store old.made same (changes_part c p i b old store old.made at within is)))

-- the store that a place has, after the part got its place
pub store_before : (c p i : ℕ) (a b : List Slot) (old : Slot) → SameParts a b → i ≡ position_or_len (is_slot c p) b → i < length b → old ≡ get_or b i old → store_at a c p ≡ old.store
store_before c p i a b old same at within is =
    let here = slot_here c p i b old at within is in
    sym (same.stores c p) ∙ ap store_in here.1

pub position_else : (q : Slot → Bool) (xs : List Slot) (r : Option ℕ) → r ≡ position q xs → unwrap_or r (length xs) ≡ position_or_len q xs
position_else q xs r is = rw is (cases (nat_lt (position_or_len q xs) (length xs)) refl)
  where
    cases : (b : Bool) → nat_lt (position_or_len q xs) (length xs) ≡ b → unwrap_or (cond b (Some (position_or_len q xs)) None) (length xs) ≡ position_or_len q xs
    cases true here = refl
    cases false here =
        let past : length xs ≤ position_or_len q xs = grind (arith, nat_tests) in
        omega (arith, position_or_len-le q xs)

pub HoldsFor-none : (c p : ℕ) → HoldsFor no_parts c p []
HoldsFor-none c p = (refl, InKeyOrder-none)

pub held_after : (c p : ℕ) (a d : List Slot) (store : StoreState) (key cell : List ℕ) → store_at d c p ≡ store → store.cells ≡ with_cell (store_at a c p).cells key cell → InKeyOrder store.cells
    → (cells : CellMap) → (cells ≡ (store_at a c p).cells) × InKeyOrder cells → (with_cell cells key cell ≡ (store_at d c p).cells) × InKeyOrder (with_cell cells key cell)
held_after c p a d store key cell there new ordered cells held =
    let is : with_cell cells key cell ≡ store.cells = ap (λ (m : CellMap). with_cell m key cell) held.0 ∙ sym new in
    (is ∙ sym (ap (λ (s : StoreState). s.cells) there), subst InKeyOrder (sym is) ordered)

-- a store comes back to its place
pub gives_back : (c p i : ℕ) (ss : List Slot) (old : Slot) (store : StoreState) → made_at ss c p ≡ true → i ≡ position_or_len (is_slot c p) ss → i < length ss → old ≡ get_or ss i old
    → ChangesPart ss (set ss i (record { component = old.component; part = old.part; made = old.made; store = store })) c p store true
gives_back c p i ss old store made at within is =
    let here = slot_here c p i ss old at within is in
    let was : old.made ≡ true = sym (ap made_in here.1) ∙ made in
    subst (λ (m : Bool). ChangesPart ss (set ss i (record { component = old.component; part = old.part; made = old.made; store = store })) c p store m) was (changes_part c p i ss old store old.made at within is)
