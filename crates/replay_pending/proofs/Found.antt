-- Attempts in flight by their places.
use Rattle.std.proofs.Common.{◌≡◌, ℕ, zero, suc, ◌<◌, ◌≤◌, ◌&&◌, ◌||◌, Bool, true, false, not, cond, nat_lt, get_or, Option, Some, None, List, [], ◌∷◌, ◌++◌, length, take, drop, refl, sym, ap, ap₂, ◌∙◌, arith}
use Rattle.std.specs.Prelude.{slice_get, slice_set, is_some}
use Rattle.std.specs.List.{find, list_any, position, position_or_len}
use Rattle.std.proofs.lemmas.List.Folds.{find_at}
use Rattle.std.proofs.lemmas.Bool.Decides.{nat_tests}
use Rattle.std.proofs.lemmas.Option.{get_or_from_slice_get}
use Rattle.storm_values.specs.declared.value.Root.{Root}
use Rattle.rotating_ledger.specs.Held.{root_eq}
use Rattle.rotating_ledger.proofs.RootLemmas.{root_eq-refl, root_eq-same}
use Rattle.replay_pending.specs.declared.entry.Entry.{Entry}
use Rattle.replay_pending.specs.InFlight.{AreDistinct, ended, entry_of, is_of_root, is_pending, is_timed, is_timed_of, settled}
use Rattle.replay_pending.proofs.Lists.{either_false, true_false}

pub first_of_two : (a b : Bool) → (a && b) ≡ true → a ≡ true
first_of_two true b on = refl
first_of_two false b on = on

pub some_same : {X : Type 0} (x y : X) → Some x ≡ Some y → x ≡ y
some_same {X} x y e = ap by e
  where
    by : Option X → X
    by None = x
    by (Some z) = z

none_some : {X : Type 0} (x : X) → None ≡ Some x → ⊥
none_some x e = cc

-- ---- found by a test

-- the item at a place is the first that is like this
abbrev pub IsFoundAt : {X : Type 0} → (X → Bool) → List X → ℕ → Type 0
IsFoundAt {X} like xs place =
    (x : X) × (slice_get xs place ≡ Some x) × (find like xs ≡ Some x) × (like x ≡ true)

module _ {X : Type 0} (p : X → Bool) where
  pub passes : (xs : List X) (x : X) → find p xs ≡ Some x → p x ≡ true
  passes [] x is = absurd (none_some x is)
  passes (y ∷ ys) x is = by (p y) refl is (passes ys x)
    where
      by : (b : Bool) → p y ≡ b → cond b (Some y) (find p ys) ≡ Some x → (find p ys ≡ Some x → p x ≡ true) → p x ≡ true
      by true on is rest = sym (ap p (some_same y x is)) ∙ on
      by false off is rest = rest is

  pub some-any : (xs : List X) → is_some (find p xs) ≡ list_any p xs
  some-any [] = refl
  some-any (x ∷ xs) = by (p x) (some-any xs)
    where
      by : (b : Bool) → is_some (find p xs) ≡ list_any p xs → is_some (cond b (Some x) (find p xs)) ≡ (b || list_any p xs)
      by true rest = refl
      by false rest = rest

  beyond : (xs : List X) (i : ℕ) → length xs ≤ i → slice_get xs i ≡ None
  beyond [] i far = refl
  beyond (x ∷ xs) zero far = absurd (omega arith)
  beyond (x ∷ xs) (suc i) far = beyond xs i (omega arith)

  within : (xs : List X) (i : ℕ) → i < length xs → (x : X) × (slice_get xs i ≡ Some x)
  within [] i near = absurd (omega arith)
  within (x ∷ xs) zero near = (x, refl)
  within (x ∷ xs) (suc i) near = within xs i (omega arith)

  is_below : (m n : ℕ) → nat_lt m n ≡ true → m < n
  is_below m n on = grind (arith, nat_tests)

  not_below : (m n : ℕ) → nat_lt m n ≡ false → n ≤ m
  not_below m n off = grind (arith, nat_tests)

  pub none_found : (xs : List X) → position p xs ≡ None → find p xs ≡ None
  none_found xs is = by (nat_lt (position_or_len p xs) (length xs)) refl is
    where
      by : (b : Bool) → nat_lt (position_or_len p xs) (length xs) ≡ b → cond b (Some (position_or_len p xs)) None ≡ None → find p xs ≡ None
      by true near is = absurd (none_some (position_or_len p xs) (sym is))
      by false far is = find_at p xs ∙ beyond xs (position_or_len p xs) (not_below (position_or_len p xs) (length xs) far)

  -- the place is the one of the first that passes
  pub first_place : (xs : List X) (i : ℕ) → position p xs ≡ Some i → (i ≡ position_or_len p xs) × (i < length xs)
  first_place xs i is = by (nat_lt (position_or_len p xs) (length xs)) refl is
    where
      by : (b : Bool) → nat_lt (position_or_len p xs) (length xs) ≡ b → cond b (Some (position_or_len p xs)) None ≡ Some i
          → (i ≡ position_or_len p xs) × (i < length xs)
      by true near is =
          let same = some_same (position_or_len p xs) i is in
          let below = is_below (position_or_len p xs) (length xs) near in
          (sym same, rw (← same) below)
      by false far is = absurd (none_some i is)

  pub found : (xs : List X) (i : ℕ) → position p xs ≡ Some i → IsFoundAt p xs i
  found xs i is =
      let first = first_place xs i is in
      let there = within xs i first.1 in
      let at : find p xs ≡ Some there.0 = find_at p xs ∙ ap (slice_get xs) (sym first.0) ∙ there.1 in
      (there.0, there.1, at, passes xs there.0 at)

-- what a search in a slice of these items comes to
pub found_by : {X : Type 0} (p : X → Bool) (xs slice : List X) (r : Option ℕ) (place : ℕ) → r ≡ position p slice → slice ≡ xs → r ≡ Some place
    → IsFoundAt p xs place
found_by p xs slice r place is same some = found p xs place (sym (is ∙ ap (position p) same) ∙ some)

pub none_by : {X : Type 0} (p : X → Bool) (xs slice : List X) (r : Option ℕ) → r ≡ position p slice → slice ≡ xs → r ≡ None → find p xs ≡ None
none_by p xs slice r is same none = none_found p xs (sym (is ∙ ap (position p) same) ∙ none)

-- ---- one of a root is the only one

module _ {L : Type 0} where
  -- none of a root
  none-settled : (root : Root) (list : L) (es : List (Entry L)) → is_pending root es ≡ false → settled root list es ≡ es
  none-settled root list [] none = refl
  none-settled root list (e ∷ es) none =
      let both = either_false (root_eq root e.root) (is_pending root es) none in
      ap₂ (λ v vs. v ∷ vs) (ap (λ b. cond b (record e { settled = Some list }) e) both.0) (none-settled root list es both.1)

  pub none-ended : (root : Root) (es : List (Entry L)) → is_pending root es ≡ false → ended root es ≡ es
  none-ended root [] none = refl
  none-ended root (e ∷ es) none =
      let both = either_false (root_eq root e.root) (is_pending root es) none in
      ap (λ b. cond (not b) (e ∷ ended root es) (ended root es)) both.0 ∙ ap (λ vs. e ∷ vs) (none-ended root es both.1)

  -- one at a later place is pending
  later : (root : Root) (es : List (Entry L)) (i : ℕ) (e : Entry L) → slice_get es i ≡ Some e → root_eq root e.root ≡ true → is_pending root es ≡ true
  later root [] i e at same = absurd (none_some e at)
  later root (v ∷ es) zero e at same =
      ap (λ b. b || is_pending root es) (ap (λ (x : Entry L). root_eq root x.root) (some_same v e at) ∙ same)
  later root (v ∷ es) (suc i) e at same = by (root_eq root v.root) (later root es i e at same)
    where
      by : (b : Bool) → is_pending root es ≡ true → (b || is_pending root es) ≡ true
      by true is = refl
      by false is = is

  -- the first is not of the root of a later one
  first-other : (root : Root) (v : Entry L) (es : List (Entry L)) (i : ℕ) (e : Entry L) → is_pending v.root es ≡ false
      → slice_get es i ≡ Some e → root_eq root e.root ≡ true → root_eq root v.root ≡ false
  first-other root v es i e none at same = by (root_eq root v.root) refl
    where
      by : (b : Bool) → root_eq root v.root ≡ b → root_eq root v.root ≡ false
      by false is = is
      by true is =
          let equal = root_eq-same root v.root is in
          absurd (true_false (sym (later root es i e at same) ∙ ap (λ r. is_pending r es) equal ∙ none))

  settled-at : (root : Root) (list : L) (es : List (Entry L)) (i : ℕ) (e : Entry L) → AreDistinct es
      → slice_get es i ≡ Some e → root_eq root e.root ≡ true → slice_set es i (record e { settled = Some list }) ≡ settled root list es
  settled-at root list [] i e are at same = absurd (none_some e at)
  settled-at root list (v ∷ es) zero e are at same =
      let here : v ≡ e = some_same v e at in
      let of : root_eq root v.root ≡ true = ap (λ (x : Entry L). root_eq root x.root) here ∙ same in
      let none : is_pending root es ≡ false = ap (λ r. is_pending r es) (root_eq-same root v.root of) ∙ are.0 in
      ap (λ (x : Entry L). record x { settled = Some list } ∷ es) (sym here)
      ∙ ap₂ (λ x xs. x ∷ xs) (sym (ap (λ b. cond b (record v { settled = Some list }) v) of)) (sym (none-settled root list es none))
  settled-at root list (v ∷ es) (suc i) e are at same =
      let other = first-other root v es i e are.0 at same in
      ap₂ (λ x xs. x ∷ xs) (sym (ap (λ b. cond b (record v { settled = Some list }) v) other)) (settled-at root list es i e are.1 at same)

  -- the attempt that was found and looked at is settled
  pub settled_there : (root : Root) (list : L) (es : List (Entry L)) (i : ℕ) (v : Entry L) → AreDistinct es
      → IsFoundAt (is_timed_of root) es i → v ≡ get_or es i v
      → slice_set es i (record { root = v.root; spans = v.spans; start = v.start; settled = Some list }) ≡ settled root list es
  settled_there root list es i v are here value =
      let same : v ≡ here.0 = value ∙ get_or_from_slice_get es i here.0 v here.1 in
      ap (λ (x : Entry L). slice_set es i (record { root = x.root; spans = x.spans; start = x.start; settled = Some list })) same
      ∙ settled-at root list es i here.0 are here.1 (first_of_two (root_eq root here.0.root) (is_timed here.0) here.3)

  pub ended-at : (root : Root) (es : List (Entry L)) (i : ℕ) (e : Entry L) → AreDistinct es → slice_get es i ≡ Some e → root_eq root e.root ≡ true
      → take i es ++ drop (suc i) es ≡ ended root es
  ended-at root [] i e are at same = absurd (none_some e at)
  ended-at root (v ∷ es) zero e are at same =
      let of : root_eq root v.root ≡ true = ap (λ (x : Entry L). root_eq root x.root) (some_same v e at) ∙ same in
      let none : is_pending root es ≡ false = ap (λ r. is_pending r es) (root_eq-same root v.root of) ∙ are.0 in
      sym (ap (λ b. cond (not b) (v ∷ ended root es) (ended root es)) of ∙ none-ended root es none)
  ended-at root (v ∷ es) (suc i) e are at same =
      let other = first-other root v es i e are.0 at same in
      ap (λ vs. v ∷ vs) (ended-at root es i e are.1 at same)
      ∙ sym (ap (λ b. cond (not b) (v ∷ ended root es) (ended root es)) other)

  -- one that was found by any test is found again by its root
  pub found_again : (p : Entry L → Bool) (es : List (Entry L)) (e : Entry L) → AreDistinct es → find p es ≡ Some e → entry_of e.root es ≡ Some e
  found_again p [] e are is = absurd (none_some e is)
  found_again p (v ∷ es) e are is = by (p v) is (found_again p es e are.1)
    where
      there : (x : Entry L) (xs : List (Entry L)) → entry_of x.root xs ≡ Some x → is_pending x.root xs ≡ true
      there x xs at = sym (some-any (is_of_root x.root) xs) ∙ ap is_some at

      other : entry_of e.root es ≡ Some e → (b : Bool) → root_eq e.root v.root ≡ b → cond b (Some v) (entry_of e.root es) ≡ Some e
      other at false off = at
      other at true on =
          let equal = root_eq-same e.root v.root on in
          absurd (true_false (sym (there e es at) ∙ ap (λ r. is_pending r es) equal ∙ are.0))

      by : (b : Bool) → cond b (Some v) (find p es) ≡ Some e → (find p es ≡ Some e → entry_of e.root es ≡ Some e) → entry_of e.root (v ∷ es) ≡ Some e
      by true here rest =
          let same = some_same v e here in
          ap (λ b. cond b (Some v) (entry_of e.root es)) (ap (λ (x : Entry L). root_eq e.root x.root) same ∙ root_eq-refl e.root) ∙ here
      by false on rest = other (rest on) (root_eq e.root v.root) refl
