-- A hashed map of texts as the pairs of a state.
use Rattle.std.proofs.Common.{◌≡◌, ℕ, Bool, true, false, cond, ℤ, List, [], ◌∷◌, ◌++◌, map, Less, Option, Some, None, sym, refl, ap, subst, ◌∙◌}
use Rattle.std.proofs.lemmas.Cmp.{nat_list_cmp_total, nat_list_eq_equiv}
use Rattle.std.proofs.lemmas.List.Kept.{IsStrictlySortedBy-dedup}
use Rattle.std.proofs.lemmas.Bool.{cond-false}
use Rattle.std.proofs.lemmas.Option.{none-some, same_Some}
use Rattle.std.proofs.lemmas.Map.Text.{is_eq-slice_cmp}
use Rattle.std.specs.Cmp.Lexicographic.{slice_cmp}
use Rattle.std.specs.List.{find, dedup, dedup_from, AllByRecursion, IsDistinct}
use Rattle.std.specs.List.Sorted.{IsSorted, IsStrictlySortedBy}
use Rattle.std.specs.Map.{keys_of, lookup, set_value}
use Rattle.std.specs.Option.{option_map}
use Rattle.std.specs.Ordering.{nat_cmp}
use Rattle.std.specs.Str.{bytes_eq}
use Rattle.indexmap.specs.IndexMap.{IndexMap, IsReordered, IsUnique, get, insert_entry, keys}
use Rattle.indexmap.proofs.CallerLemmas.{insert_entry-new}
use Rattle.tree_model.specs.declared.write.Pair.{Pair}
use Rattle.tree_model.specs.Inside.{entries_of}
use Rattle.tree_model.specs.Tables.{Folding, tallied, value_at, AreInOrder, AreSorted}

-- an entry, whose key is the bytes of a text
abbrev Entry : Type 0
Entry = List ℕ × ℤ

abbrev pair_of : Entry → Pair
pair_of entry = record { key = entry.0; value = entry.1 }

-- two tests of one key that stand beside each other
both : {X Z : Type 0} (f : X → Z) (b : Bool) (x : X) (rest : Option X) → option_map f (cond b (Some x) rest) ≡ cond b (Some (f x)) (option_map f rest)
both f true x rest = refl
both f false x rest = refl

value_at-entries : (key : List ℕ) (entries : List Entry) → value_at (map pair_of entries) key ≡ lookup (bytes_eq key) entries
value_at-entries key [] = refl
value_at-entries key (entry ∷ entries) =
    both (λ (pair : Pair). pair.value) (bytes_eq key entry.0) (pair_of entry) (find (λ (pair : Pair). bytes_eq key pair.key) (map pair_of entries))
    ∙ ap (cond (bytes_eq key entry.0) (Some entry.1)) (value_at-entries key entries)

set_step : (f : ℤ → ℤ) (old : ℤ) (b : Bool) (entry : Entry) (entries sets : List Entry) (rest : Option ℤ) (tally : List Pair) → cond b (Some entry.1) rest ≡ Some old
    → (rest ≡ Some old → map pair_of sets ≡ tally)
    → map pair_of (cond b ((entry.0, f old) ∷ entries) (entry ∷ sets)) ≡ cond b (record { key = entry.0; value = f entry.1 } ∷ map pair_of entries) (pair_of entry ∷ tally)
set_step f old true entry entries sets rest tally there more = ap (λ v. record { key = entry.0; value = f v } ∷ map pair_of entries) (sym (same_Some _ _ there))
set_step f old false entry entries sets rest tally there more = ap (λ pairs. pair_of entry ∷ pairs) (more there)

-- a new value of a key that is there
tallied-set : (by : Folding) (key : List ℕ) (amount old : ℤ) (entries : List Entry) → lookup (bytes_eq key) entries ≡ Some old
    → map pair_of (set_value (bytes_eq key) entries (by (Some old) amount)) ≡ tallied by (map pair_of entries) key amount
tallied-set by key amount old [] there = absurd (none-some old there)
tallied-set by key amount old (entry ∷ entries) there =
    set_step (λ v. by (Some v) amount) old (bytes_eq key entry.0) entry entries (set_value (bytes_eq key) entries (by (Some old) amount)) (lookup (bytes_eq key) entries) (tallied by (map pair_of entries) key amount) there (tallied-set by key amount old entries)

new_step : (f : ℤ → ℤ) (b : Bool) (entry new : Entry) (entries : List Entry) (rest : Option ℤ) (tally : List Pair) → cond b (Some entry.1) rest ≡ None → (rest ≡ None → map pair_of (entries ++ new ∷ []) ≡ tally)
    → map pair_of (entry ∷ entries ++ new ∷ []) ≡ cond b (record { key = entry.0; value = f entry.1 } ∷ map pair_of entries) (pair_of entry ∷ tally)
new_step f true entry new entries rest tally none more = absurd (none-some entry.1 (sym none))
new_step f false entry new entries rest tally none more = ap (λ pairs. pair_of entry ∷ pairs) (more none)

-- a key that is not there comes last
tallied-new : (by : Folding) (key : List ℕ) (amount : ℤ) (entries : List Entry) → lookup (bytes_eq key) entries ≡ None
    → map pair_of (entries ++ (key, by None amount) ∷ []) ≡ tallied by (map pair_of entries) key amount
tallied-new by key amount [] none = refl
tallied-new by key amount (entry ∷ entries) none =
    new_step (λ v. by (Some v) amount) (bytes_eq key entry.0) entry (key, by None amount) entries (lookup (bytes_eq key) entries) (tallied by (map pair_of entries) key amount) none (tallied-new by key amount entries)

module _ {S : Type 0} (old new : IndexMap (List ℕ) ℤ S) (by : Folding) (key : List ℕ) (amount : ℤ) where
  -- what a write through a key's value leaves
  pub pairs-set : (value : ℤ) → get bytes_eq old key ≡ Some value → new.entries ≡ set_value (bytes_eq key) old.entries (by (Some value) amount)
      → entries_of new ≡ tallied by (entries_of old) key amount
  pairs-set value there is = ap (map pair_of) is ∙ tallied-set by key amount value old.entries there

  -- what an insert of a new key leaves
  pub pairs-new : get bytes_eq old key ≡ None → new.entries ≡ insert_entry bytes_eq old.entries key (by None amount)
      → entries_of new ≡ tallied by (entries_of old) key amount
  pairs-new none is =
      ap (map pair_of) (is ∙ insert_entry-new bytes_eq old key (by None amount) none)
      ∙ tallied-new by key amount old.entries none

-- ---- the order of keys

dedup_from-distinct : (x : List ℕ) (xs : List (List ℕ)) → IsDistinct bytes_eq (x ∷ xs) → dedup_from bytes_eq x xs ≡ x ∷ xs
unfolding IsDistinct
dedup_from-distinct x [] distinct = refl
dedup_from-distinct x (y ∷ ys) distinct =
    cond-false (bytes_eq y x) _ _ (nat_list_eq_equiv.symm y x ∙ distinct.0.0) ∙ ap (λ keys. x ∷ keys) (dedup_from-distinct y ys distinct.1)

dedup-distinct : (xs : List (List ℕ)) → IsDistinct bytes_eq xs → dedup bytes_eq xs ≡ xs
dedup-distinct [] distinct = refl
dedup-distinct (x ∷ xs) distinct = dedup_from-distinct x xs distinct

above : (key : List ℕ) (entries : List Entry) → AllByRecursion (λ k. slice_cmp nat_cmp key k ≡ Less) (keys_of entries) → AllByRecursion (λ k. slice_cmp nat_cmp key k ≡ Less) (map (λ (pair : Pair). pair.key) (map pair_of entries))
above key [] all = tt
above key (entry ∷ entries) all = (all.0, above key entries all.1)

in_order : (entries : List Entry) → IsStrictlySortedBy (slice_cmp nat_cmp) (keys_of entries) → AreInOrder (map pair_of entries)
unfolding IsStrictlySortedBy
in_order [] sorted = tt
in_order (entry ∷ entries) sorted = (above entry.0 entries sorted.0, in_order entries sorted.1)

-- a sort of the keys leaves the same pairs in the order of their keys
pub pairs-sorted : {S : Type 0} (old new : IndexMap (List ℕ) ℤ S) → IsSorted (slice_cmp nat_cmp) (keys new) → IsReordered bytes_eq old new → IsUnique bytes_eq new
    → AreSorted (entries_of old) (entries_of new)
pairs-sorted old new sorted reordered unique = record {
  ordered = in_order new.entries (subst (IsStrictlySortedBy (slice_cmp nat_cmp)) (dedup-distinct (keys new) unique) (IsStrictlySortedBy-dedup nat_list_cmp_total (λ x y. sym (is_eq-slice_cmp x y)) (keys new) sorted));
  values = λ key. value_at-entries key new.entries ∙ reordered.2 key ∙ sym (value_at-entries key old.entries);
}
