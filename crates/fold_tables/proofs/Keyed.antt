-- A hashed map of texts as the pairs of a state, and what is put into it.
use Rattle.std.proofs.Common.{◌≡◌, ℕ, Bool, true, false, cond, ℤ, List, [], ◌∷◌, map, Less, Option, Some, None, sym, refl, ap, subst, ◌∙◌}
use Rattle.std.proofs.lemmas.Bool.{cond-true, cond-false}
use Rattle.std.proofs.lemmas.Cmp.{nat_list_cmp_total, nat_list_eq_equiv}
use Rattle.std.proofs.lemmas.List.Kept.{IsStrictlySortedBy-dedup}
use Rattle.std.proofs.lemmas.Map.Text.{is_eq-slice_cmp}
use Rattle.std.specs.Cmp.Lexicographic.{bytes_decides, slice_cmp}
use Rattle.std.specs.List.{find, dedup, dedup_from, AllByRecursion, IsDistinct}
use Rattle.std.specs.List.Sorted.{IsSorted, IsStrictlySortedBy}
use Rattle.std.specs.Map.{keys_of, lookup}
use Rattle.std.specs.Option.{option_map}
use Rattle.std.specs.Ordering.{nat_cmp}
use Rattle.std.specs.Str.{bytes_eq}
use Rattle.indexmap.specs.IndexMap.{IndexMap, IsReordered, IsUnique, Updates, get, keys}
use Rattle.tree_model.specs.declared.write.Pair.{Pair}
use Rattle.tree_model.specs.Inside.{entries_of}
use Rattle.tree_model.specs.Tables.{value_at, AreInOrder, AreSorted}
use Rattle.fold_tables.specs.Merging.{IsPut, joined_onto, merged}

-- an entry, whose key is the bytes of a text
abbrev pub Entry : Type 0
Entry = List ℕ × ℤ

abbrev pair_of : Entry → Pair
pair_of entry = record { key = entry.0; value = entry.1 }

both : {X Z : Type 0} (f : X → Z) (b : Bool) (x : X) (rest : Option X) → option_map f (cond b (Some x) rest) ≡ cond b (Some (f x)) (option_map f rest)
both f true x rest = refl
both f false x rest = refl

pub value_at-entries : (key : List ℕ) (entries : List Entry) → value_at (map pair_of entries) key ≡ lookup (bytes_eq key) entries
value_at-entries key [] = refl
value_at-entries key (entry ∷ entries) =
    both (λ (pair : Pair). pair.value) (bytes_eq key entry.0) (pair_of entry) (find (λ (pair : Pair). bytes_eq key pair.key) (map pair_of entries))
    ∙ ap (cond (bytes_eq key entry.0) (Some entry.1)) (value_at-entries key entries)

-- a map in which one key has a new value
pub put-updates : {S : Type 0} (old new : IndexMap (List ℕ) ℤ S) (f : Option ℤ → ℤ) (key : List ℕ) (was : Option ℤ) (value : ℤ) → get bytes_eq old key ≡ was → value ≡ f was → Updates bytes_eq old new key (Some value)
    → IsPut f (entries_of old) key (entries_of new)
put-updates old new f key was value there is updates = record {
  values = λ at. value_at-entries at new.entries ∙ updates.0 at
      ∙ ap (λ o. cond (bytes_eq key at) o (get bytes_eq old at)) (ap Some (is ∙ ap f (sym there ∙ sym (value_at-entries key old.entries))))
      ∙ ap (cond (bytes_eq key at) (Some (f (value_at (entries_of old) key)))) (sym (value_at-entries at old.entries));
}

-- ---- the entries of another map, one by one

absent : (key : List ℕ) (rest : List Entry) → AllByRecursion (λ other. bytes_eq key other ≡ false) (keys_of rest) → lookup (bytes_eq key) rest ≡ None
absent key [] all = refl
absent key (entry ∷ rest) all = cond-false (bytes_eq key entry.0) _ _ all.0 ∙ absent key rest all.1

pub distinct_first : (key : List ℕ) (value : ℤ) (rest : List Entry) → IsDistinct bytes_eq (keys_of ((key, value) ∷ rest)) → lookup (bytes_eq key) rest ≡ None
unfolding IsDistinct
distinct_first key value rest distinct = absent key rest distinct.0

pub distinct_rest : (key : List ℕ) (value : ℤ) (rest : List Entry) → IsDistinct bytes_eq (keys_of ((key, value) ∷ rest)) → IsDistinct bytes_eq (keys_of rest)
unfolding IsDistinct
distinct_rest key value rest distinct = distinct.1

module _ (join : ℤ → ℤ → ℤ) where
  onto : (old : Option ℤ) (later : ℤ) → merged join (Some (joined_onto join old later)) None ≡ merged join old (Some later)
  onto None later = refl
  onto (Some earlier) later = refl

  pub none_later : (old : Option ℤ) → merged join old None ≡ old
  none_later None = refl
  none_later (Some value) = refl

  -- a key that is merged in is no longer among what is left
  pub merged_first : (old new : List Pair) (key : List ℕ) (later : ℤ) (rest : List Entry) → IsPut (λ o. joined_onto join o later) old key new → lookup (bytes_eq key) rest ≡ None
      → (at : List ℕ) → merged join (value_at new at) (lookup (bytes_eq at) rest) ≡ merged join (value_at old at) (lookup (bytes_eq at) ((key, later) ∷ rest))
  merged_first old new key later rest put none at = by (bytes_eq key at) refl
    where
      turned : bytes_eq at key ≡ bytes_eq key at
      turned = nat_list_eq_equiv.symm at key

      by : (b : Bool) → bytes_eq key at ≡ b → merged join (value_at new at) (lookup (bytes_eq at) rest) ≡ merged join (value_at old at) (cond (bytes_eq at key) (Some later) (lookup (bytes_eq at) rest))
      by true is =
          let same : key ≡ at = (bytes_decides key at).0 is in
          let gone : lookup (bytes_eq at) rest ≡ None = ap (λ k. lookup (bytes_eq k) rest) (sym same) ∙ none in
          ap (λ o. merged join o (lookup (bytes_eq at) rest)) (put.values at ∙ cond-true (bytes_eq key at) _ _ is ∙ ap (λ k. Some (joined_onto join (value_at old k) later)) same)
          ∙ ap (merged join (Some (joined_onto join (value_at old at) later))) gone
          ∙ onto (value_at old at) later
          ∙ ap (merged join (value_at old at)) (sym (cond-true (bytes_eq at key) (Some later) (lookup (bytes_eq at) rest) (turned ∙ is)))
      by false is =
          ap (λ o. merged join o (lookup (bytes_eq at) rest)) (put.values at ∙ cond-false (bytes_eq key at) _ _ is)
          ∙ ap (merged join (value_at old at)) (sym (cond-false (bytes_eq at key) (Some later) (lookup (bytes_eq at) rest) (turned ∙ is)))

-- ---- the order of keys

dedup_from-distinct : (x : List ℕ) (xs : List (List ℕ)) → IsDistinct bytes_eq (x ∷ xs) → dedup_from bytes_eq x xs ≡ x ∷ xs
unfolding IsDistinct
dedup_from-distinct x [] distinct = refl
dedup_from-distinct x (y ∷ ys) distinct =
    cond-false (bytes_eq y x) _ _ (nat_list_eq_equiv.symm y x ∙ distinct.0.0) ∙ ap (λ keys. x ∷ keys) (dedup_from-distinct y ys distinct.1)

dedup-distinct : (xs : List (List ℕ)) → IsDistinct bytes_eq xs → dedup bytes_eq xs ≡ xs
dedup-distinct [] distinct = refl
dedup-distinct (x ∷ xs) distinct = dedup_from-distinct x xs distinct

above : (key : List ℕ) (entries : List Entry) → AllByRecursion (λ k. slice_cmp nat_cmp key k ≡ Less) (keys_of entries) → AllByRecursion (λ k. slice_cmp nat_cmp key k ≡ Less) (map (λ (pair : Pair). pair.key) (map pair_of entries))
above key [] all = tt
above key (entry ∷ entries) all = (all.0, above key entries all.1)

in_order : (entries : List Entry) → IsStrictlySortedBy (slice_cmp nat_cmp) (keys_of entries) → AreInOrder (map pair_of entries)
unfolding IsStrictlySortedBy
in_order [] sorted = tt
in_order (entry ∷ entries) sorted = (above entry.0 entries sorted.0, in_order entries sorted.1)

-- a sort of the keys leaves the same pairs in the order of their keys
pub pairs-sorted : {S : Type 0} (old new : IndexMap (List ℕ) ℤ S) → IsSorted (slice_cmp nat_cmp) (keys new) → IsReordered bytes_eq old new → IsUnique bytes_eq new
    → AreSorted (entries_of old) (entries_of new)
pairs-sorted old new sorted reordered unique = record {
  ordered = in_order new.entries (subst (IsStrictlySortedBy (slice_cmp nat_cmp)) (dedup-distinct (keys new) unique) (IsStrictlySortedBy-dedup nat_list_cmp_total (λ x y. sym (is_eq-slice_cmp x y)) (keys new) sorted));
  values = λ key. value_at-entries key new.entries ∙ reordered.2 key ∙ sym (value_at-entries key old.entries);
}
