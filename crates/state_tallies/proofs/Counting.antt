-- A hashed map of counts, with more for one key or for the keys of another.
use Rattle.std.proofs.Common.{◌≡◌, ℕ, ◌+◌, ◌-◌, ◌^◌, ◌≤◌, min, Bool, true, false, cond, true≢false, List, [], ◌∷◌, ◌++◌, map, Less, Option, Some, None, refl, sym, ap, subst, ◌∙◌, arith}
use Rattle.std.proofs.lemmas.Bool.{cond-false}
use Rattle.std.proofs.lemmas.Cmp.{nat_list_cmp_total, nat_list_eq_equiv}
use Rattle.std.proofs.lemmas.List.{append_assoc}
use Rattle.std.proofs.lemmas.List.Kept.{IsStrictlySortedBy-dedup}
use Rattle.std.proofs.lemmas.Map.Text.{is_eq-slice_cmp}
use Rattle.std.proofs.lemmas.Option.{none-some, same_Some}
use Rattle.std.specs.Cmp.Lexicographic.{bytes_decides, slice_cmp}
use Rattle.std.specs.List.{AllByRecursion, IsDistinct, dedup, dedup_from}
use Rattle.std.specs.List.Sorted.{IsSorted, IsStrictlySortedBy}
use Rattle.std.specs.Map.{keys_of, lookup, set_value}
use Rattle.std.specs.Ordering.{nat_cmp}
use Rattle.std.specs.Str.{bytes_eq}
use Rattle.indexmap.specs.IndexMap.{IndexMap, IsReordered, IsUnique, get, insert_entry, keys}
use Rattle.indexmap.proofs.CallerLemmas.{insert_entry-new}
use Rattle.state_tallies.specs.declared.tallies.KeyCount.{KeyCount}
use Rattle.state_tallies.specs.Inside.{counts_of}
use Rattle.state_tallies.specs.Tallies.{AreFewIn, AreInOrder, HasMore, at_text, capped, count_in}

abbrev pub Entry : Type 0
Entry = List ℕ × ℕ

abbrev pub count_by : Entry → KeyCount
count_by entry = record { key = entry.0; count = entry.1 }

-- the count of a key among entries
abbrev pub held : List Entry → List ℕ → ℕ
held entries k = count_in (map count_by entries) k

not_true : (b : Bool) → (b ≡ true → ⊥) → b ≡ false
not_true true never = absurd (never refl)
not_true false never = refl

-- an entry of another key in front
module _ (key k : List ℕ) (new : ℕ) (entry : Entry) (differ : bytes_eq key entry.0 ≡ false) where
  in_front : (rest made : ℕ) → made ≡ cond (bytes_eq k key) new rest → cond (bytes_eq k entry.0) entry.1 made ≡ cond (bytes_eq k key) new (cond (bytes_eq k entry.0) entry.1 rest)
  in_front rest made later = by (bytes_eq k entry.0) refl
    where
      by : (d : Bool) → bytes_eq k entry.0 ≡ d → cond d entry.1 made ≡ cond (bytes_eq k key) new (cond d entry.1 rest)
      by false at = later
      by true at =
          let other : bytes_eq k key ≡ false = not_true (bytes_eq k key) (λ same.
          let one : key ≡ entry.0 = sym ((bytes_decides k key).0 same) ∙ (bytes_decides k entry.0).0 at in
          true≢false (sym ((bytes_decides key entry.0).1 one) ∙ differ)) in
          rw other refl

-- a new count of a key that is there
held-set : (key : List ℕ) (new old : ℕ) (entries : List Entry) → lookup (bytes_eq key) entries ≡ Some old → (k : List ℕ)
    → held (set_value (bytes_eq key) entries new) k ≡ cond (bytes_eq k key) new (held entries k)
held-set key new old [] there k = absurd (none-some old there)
held-set key new old (entry ∷ entries) there k = by (bytes_eq key entry.0) refl there (λ found. held-set key new old entries found k)
  where
    twice : (b : Bool) (y x : ℕ) → cond b new x ≡ cond b new (cond b y x)
    twice true y x = refl
    twice false y x = refl

    by : (b : Bool) → bytes_eq key entry.0 ≡ b → cond b (Some entry.1) (lookup (bytes_eq key) entries) ≡ Some old
        → (lookup (bytes_eq key) entries ≡ Some old → held (set_value (bytes_eq key) entries new) k ≡ cond (bytes_eq k key) new (held entries k))
        → held (cond b ((entry.0, new) ∷ entries) (entry ∷ set_value (bytes_eq key) entries new)) k ≡ cond (bytes_eq k key) new (cond (bytes_eq k entry.0) entry.1 (held entries k))
    by true is found later =
        subst (λ (e : List ℕ). cond (bytes_eq k e) new (held entries k) ≡ cond (bytes_eq k key) new (cond (bytes_eq k e) entry.1 (held entries k))) ((bytes_decides key entry.0).0 is)
        (twice (bytes_eq k key) entry.1 (held entries k))
    by false is found later = in_front key k new entry is (held entries k) (held (set_value (bytes_eq key) entries new) k) (later found)

-- a key that was not there
held-new : (key : List ℕ) (new : ℕ) (entries : List Entry) → lookup (bytes_eq key) entries ≡ None → (k : List ℕ)
    → held (entries ++ (key, new) ∷ []) k ≡ cond (bytes_eq k key) new (held entries k)
held-new key new [] none k = refl
held-new key new (entry ∷ entries) none k = by (bytes_eq key entry.0) refl none (λ absent. held-new key new entries absent k)
  where
    by : (b : Bool) → bytes_eq key entry.0 ≡ b → cond b (Some entry.1) (lookup (bytes_eq key) entries) ≡ None
        → (lookup (bytes_eq key) entries ≡ None → held (entries ++ (key, new) ∷ []) k ≡ cond (bytes_eq k key) new (held entries k))
        → cond (bytes_eq k entry.0) entry.1 (held (entries ++ (key, new) ∷ []) k) ≡ cond (bytes_eq k key) new (cond (bytes_eq k entry.0) entry.1 (held entries k))
    by true is absent later = absurd (none-some entry.1 (sym absent))
    by false is absent later = in_front key k new entry is (held entries k) (held (entries ++ (key, new) ∷ []) k) (later absent)

held-found : (key : List ℕ) (old : ℕ) (entries : List Entry) → lookup (bytes_eq key) entries ≡ Some old → held entries key ≡ old
held-found key old [] there = absurd (none-some old there)
held-found key old (entry ∷ entries) there = by (bytes_eq key entry.0) there (held-found key old entries)
  where
    by : (b : Bool) → cond b (Some entry.1) (lookup (bytes_eq key) entries) ≡ Some old → (lookup (bytes_eq key) entries ≡ Some old → held entries key ≡ old) → cond b entry.1 (held entries key) ≡ old
    by true found later = same_Some entry.1 old found
    by false found later = later found

held-absent : (key : List ℕ) (entries : List Entry) → lookup (bytes_eq key) entries ≡ None → held entries key ≡ 0
held-absent key [] none = refl
held-absent key (entry ∷ entries) none = by (bytes_eq key entry.0) none (held-absent key entries)
  where
    by : (b : Bool) → cond b (Some entry.1) (lookup (bytes_eq key) entries) ≡ None → (lookup (bytes_eq key) entries ≡ None → held entries key ≡ 0) → cond b entry.1 (held entries key) ≡ 0
    by true absent later = absurd (none-some entry.1 (sym absent))
    by false absent later = later absent

-- so many more for one key
more-at : (key : List ℕ) (more : ℕ) (entries : List Entry) → ((k : List ℕ) → held entries k ≤ 2 ^ 64 - 1) → (made : List ℕ → ℕ)
    → ((k : List ℕ) → made k ≡ cond (bytes_eq k key) (capped (held entries key + more)) (held entries k))
    → (k : List ℕ) → made k ≡ capped (held entries k + at_text key more k)
more-at key more entries few made is k = is k ∙ by (bytes_eq k key) refl
  where
    by : (b : Bool) → bytes_eq k key ≡ b → cond b (capped (held entries key + more)) (held entries k) ≡ capped (held entries k + cond b more 0)
    by true same = ap (λ (e : List ℕ). capped (held entries e + more)) (sym ((bytes_decides k key).0 same))
    by false same = let fits = few k in omega (arith, fits)

module _ {S : Type 0} (old new : IndexMap (List ℕ) ℕ S) (key : List ℕ) (more : ℕ) (few : AreFewIn (counts_of old)) where
  -- what a write through a key's count leaves
  pub counts-set : (value written : ℕ) → get bytes_eq old key ≡ Some value → written ≡ capped (value + more) → new.entries ≡ set_value (bytes_eq key) old.entries written
      → HasMore (counts_of old) (at_text key more) (counts_of new)
  counts-set value written there wrote is =
      let found = held-found key value old.entries there in
      more-at key more old.entries few (count_in (counts_of new))
      (λ k. ap (λ (es : List Entry). held es k) is ∙ held-set key written value old.entries there k
      ∙ ap (λ (n : ℕ). cond (bytes_eq k key) n (held old.entries k)) (wrote ∙ ap (λ (n : ℕ). capped (n + more)) (sym found)))

  -- what an insert of a new key leaves
  pub counts-new : more ≤ 2 ^ 64 - 1 → get bytes_eq old key ≡ None → new.entries ≡ insert_entry bytes_eq old.entries key more
      → HasMore (counts_of old) (at_text key more) (counts_of new)
  counts-new fits none is =
      let absent = held-absent key old.entries none in
      let whole : more ≡ capped (held old.entries key + more) = omega (arith, absent, fits) in
      more-at key more old.entries few (count_in (counts_of new))
      (λ k. ap (λ (es : List Entry). held es k) (is ∙ insert_entry-new bytes_eq old key more none) ∙ held-new key more old.entries none k
      ∙ ap (λ (n : ℕ). cond (bytes_eq k key) n (held old.entries k)) whole)

-- ---- the counts of other keys, one by one

-- what entries add up to for a key
abbrev pub summed : List Entry → List ℕ → ℕ
summed [] k = 0
summed (entry ∷ entries) k = at_text entry.0 entry.1 k + summed entries k

pub summed-push : (entries : List Entry) (entry : Entry) (k : List ℕ) → summed (entries ++ entry ∷ []) k ≡ summed entries k + at_text entry.0 entry.1 k
summed-push [] entry k = omega arith
summed-push (first ∷ entries) entry k = let later = summed-push entries entry k in omega (arith, later)

none_later : (k key : List ℕ) (entries : List Entry) → bytes_eq k key ≡ true → AllByRecursion (λ other. bytes_eq key other ≡ false) (keys_of entries) → summed entries k ≡ 0
none_later k key [] same all = refl
none_later k key (entry ∷ entries) same all =
    let other : bytes_eq k entry.0 ≡ false = ap (λ (e : List ℕ). bytes_eq e entry.0) ((bytes_decides k key).0 same) ∙ all.0 in
    let here : at_text entry.0 entry.1 k ≡ 0 = rw other refl in
    let later = none_later k key entries same all.1 in omega (arith, here, later)

-- where the keys are distinct, that is the key's count
pub summed-distinct : (entries : List Entry) → IsDistinct bytes_eq (keys_of entries) → (k : List ℕ) → summed entries k ≡ held entries k
unfolding IsDistinct
summed-distinct [] distinct k = refl
summed-distinct (entry ∷ entries) distinct k = by (bytes_eq k entry.0) refl (summed-distinct entries distinct.1 k)
  where
    by : (b : Bool) → bytes_eq k entry.0 ≡ b → summed entries k ≡ held entries k → cond b entry.1 0 + summed entries k ≡ cond b entry.1 (held entries k)
    by true same later = let none = none_later k entry.0 entries same distinct.0 in omega (arith, none)
    by false other later = omega (arith, later)

module _ {A : Type 0} (f : A → Entry) where
  more_mapped : (ys : List A) (x : A) → map f (ys ++ x ∷ []) ≡ map f ys ++ f x ∷ []
  more_mapped [] x = refl
  more_mapped (y ∷ ys) x = ap (λ rest. f y ∷ rest) (more_mapped ys x)

  -- one more entry of a walk over a map
  pub parts_more : (ys : List A) (x : A) (it next all : List Entry) → map f ys ++ it ≡ all → it ≡ f x ∷ next → map f (ys ++ x ∷ []) ++ next ≡ all
  parts_more ys x it next all parts step =
      ap (λ done. done ++ next) (more_mapped ys x) ∙ append_assoc (map f ys) (f x ∷ []) next ∙ ap (λ rest. map f ys ++ rest) (sym step) ∙ parts

  pub summed_more : (ys : List A) (x : A) (k : List ℕ) → summed (map f (ys ++ x ∷ [])) k ≡ summed (map f ys) k + at_text (f x).0 (f x).1 k
  summed_more ys x k = ap (λ (es : List Entry). summed es k) (more_mapped ys x) ∙ summed-push (map f ys) (f x) k

-- ---- the order of keys

dedup_from-distinct : (x : List ℕ) (xs : List (List ℕ)) → IsDistinct bytes_eq (x ∷ xs) → dedup_from bytes_eq x xs ≡ x ∷ xs
unfolding IsDistinct
dedup_from-distinct x [] distinct = refl
dedup_from-distinct x (y ∷ ys) distinct =
    cond-false (bytes_eq y x) _ _ (nat_list_eq_equiv.symm y x ∙ distinct.0.0) ∙ ap (λ keys. x ∷ keys) (dedup_from-distinct y ys distinct.1)

dedup-distinct : (xs : List (List ℕ)) → IsDistinct bytes_eq xs → dedup bytes_eq xs ≡ xs
dedup-distinct [] distinct = refl
dedup-distinct (x ∷ xs) distinct = dedup_from-distinct x xs distinct

above : (key : List ℕ) (entries : List Entry) → AllByRecursion (λ k. slice_cmp nat_cmp key k ≡ Less) (keys_of entries) → AllByRecursion (λ k. slice_cmp nat_cmp key k ≡ Less) (map (λ (c : KeyCount). c.key) (map count_by entries))
above key [] all = tt
above key (entry ∷ entries) all = (all.0, above key entries all.1)

in_order : (entries : List Entry) → IsStrictlySortedBy (slice_cmp nat_cmp) (keys_of entries) → AreInOrder (map count_by entries)
unfolding IsStrictlySortedBy
in_order [] sorted = tt
in_order (entry ∷ entries) sorted = (above entry.0 entries sorted.0, in_order entries sorted.1)

held-lookup : (key : List ℕ) (entries : List Entry) (o : Option ℕ) → lookup (bytes_eq key) entries ≡ o → (others : List Entry) → lookup (bytes_eq key) others ≡ o → held entries key ≡ held others key
held-lookup key entries None is others same = held-absent key entries is ∙ sym (held-absent key others same)
held-lookup key entries (Some n) is others same = held-found key n entries is ∙ sym (held-found key n others same)

module _ {S : Type 0} (old new : IndexMap (List ℕ) ℕ S) where
  pub counts-reordered : IsReordered bytes_eq old new → (key : List ℕ) → count_in (counts_of new) key ≡ count_in (counts_of old) key
  counts-reordered reordered key = held-lookup key new.entries (lookup (bytes_eq key) old.entries) (reordered.2 key) old.entries refl

  pub counts-ordered : IsSorted (slice_cmp nat_cmp) (keys new) → IsUnique bytes_eq new → AreInOrder (counts_of new)
  counts-ordered sorted unique =
      in_order new.entries (subst (IsStrictlySortedBy (slice_cmp nat_cmp)) (dedup-distinct (keys new) unique) (IsStrictlySortedBy-dedup nat_list_cmp_total (λ x y. sym (is_eq-slice_cmp x y)) (keys new) sorted))

pub few_after : (old : List KeyCount) (more : List ℕ → ℕ) (new : List KeyCount) → HasMore old more new → AreFewIn new
few_after old more new has k = let here = has k in omega (arith, here)

-- the counts after a walk over another map
pub more_summed : (old new : List KeyCount) (entries : List Entry) → IsDistinct bytes_eq (keys_of entries) → ((k : List ℕ) → count_in new k ≡ capped (count_in old k + summed entries k)) → HasMore old (held entries) new
more_summed old new entries distinct made k = made k ∙ ap (λ (n : ℕ). capped (count_in old k + n)) (summed-distinct entries distinct k)

-- one more entry of it
pub more_once : {A : Type 0} (f : A → Entry) (old mid new : List KeyCount) (ys : List A) (x : A) → ((k : List ℕ) → count_in mid k ≡ capped (count_in old k + summed (map f ys) k)) → HasMore mid (at_text (f x).0 (f x).1) new
    → (k : List ℕ) → count_in new k ≡ capped (count_in old k + summed (map f (ys ++ x ∷ [])) k)
more_once f old mid new ys x before has k =
    let one = has k in
    let start = before k in
    let push = summed_more f ys x k in omega (arith, one, start, push)
