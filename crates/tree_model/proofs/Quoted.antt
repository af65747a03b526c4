-- Plain keys in the place of the JSON texts that they stand for.
use Rattle.std.proofs.Common.{◌≡◌, ℕ, Bool, true, false, cond, ℤ, List, [], ◌∷◌, ◌++◌, map, Some, refl, sym, ap, subst, ◌∙◌}
use Rattle.std.proofs.lemmas.Bool.{cond-false}
use Rattle.std.proofs.lemmas.Cmp.{nat_list_eq_equiv}
use Rattle.std.proofs.lemmas.List.{append_assoc, append_cancel_right}
use Rattle.std.specs.Cmp.Lexicographic.{bytes_decides}
use Rattle.std.specs.List.{AllByRecursion, IsDistinct}
use Rattle.std.specs.Map.{keys_of}
use Rattle.std.specs.Str.{bytes_eq}
use Rattle.indexmap.specs.IndexMap.{IndexMap, insert_entry}
use Rattle.storm_values.specs.Keys.{quoted}
use Rattle.tree_model.specs.declared.write.Pair.{Pair}
use Rattle.tree_model.specs.declared.running.Values.{Values}
use Rattle.tree_model.specs.Inside.{entries_of, pairs_of, quoted_entry, whole_pairs}
use Rattle.tree_model.specs.Tables.{Folding, tallied}

-- an entry, whose key is the bytes of a text
abbrev Entry : Type 0
Entry = List ℕ × ℤ

quoted-one : (a b : List ℕ) → quoted a ≡ quoted b → a ≡ b
quoted-one a b same = append_cancel_right a b (34 ∷ 93 ∷ []) (let rest : a ++ 34 ∷ 93 ∷ [] ≡ b ++ 34 ∷ 93 ∷ [] = cc in rest)

both_ways : (x y : Bool) → (x ≡ true → y ≡ true) → (y ≡ true → x ≡ true) → x ≡ y
both_ways true y there back = sym (there refl)
both_ways false true there back = back refl
both_ways false false there back = refl

-- two plain keys are one where their JSON texts are
pub bytes_eq-quoted : (a b : List ℕ) → bytes_eq (quoted a) (quoted b) ≡ bytes_eq a b
bytes_eq-quoted a b =
    both_ways (bytes_eq (quoted a) (quoted b)) (bytes_eq a b)
    (λ same. (bytes_decides a b).1 (quoted-one a b ((bytes_decides (quoted a) (quoted b)).0 same)))
    (λ same. (bytes_decides (quoted a) (quoted b)).1 (ap quoted ((bytes_decides a b).0 same)))

tally_step : (b : Bool) (found pair : Pair) (pairs tally : List Pair) (whole : List Pair) → whole ≡ whole_pairs true tally
    → cond b (record { key = quoted found.key; value = found.value } ∷ whole_pairs true pairs) (record { key = quoted pair.key; value = pair.value } ∷ whole) ≡ whole_pairs true (cond b (found ∷ pairs) (pair ∷ tally))
tally_step true found pair pairs tally whole is = refl
tally_step false found pair pairs tally whole is = ap (λ rest. record { key = quoted pair.key; value = pair.value } ∷ rest) is

-- one more amount for a plain key is one more for its JSON text
pub tallied-quoted : (by : Folding) (pairs : List Pair) (key : List ℕ) (amount : ℤ) → tallied by (whole_pairs true pairs) (quoted key) amount ≡ whole_pairs true (tallied by pairs key amount)
tallied-quoted by [] key amount = refl
tallied-quoted by (pair ∷ pairs) key amount =
    rw bytes_eq-quoted
    (tally_step (bytes_eq key pair.key) (record { key = pair.key; value = by (Some pair.value) amount }) pair pairs (tallied by pairs key amount) (tallied by (whole_pairs true pairs) (quoted key) amount) (tallied-quoted by pairs key amount))

-- ---- the entries of a map, one by one

apart : (held : List ℕ) (done rest : List Entry) (entry : Entry) → AllByRecursion (λ key. bytes_eq held key ≡ false) (keys_of (done ++ entry ∷ rest)) → bytes_eq held entry.0 ≡ false
apart held [] rest entry all = all.0
apart held (first ∷ done) rest entry all = apart held done rest entry all.1

-- an entry whose key has not come yet goes last
pub insert-quoted : (done rest : List Entry) (entry : Entry) → IsDistinct bytes_eq (keys_of (done ++ entry ∷ rest)) → insert_entry bytes_eq (map quoted_entry done) (quoted entry.0) entry.1 ≡ map quoted_entry (done ++ entry ∷ [])
unfolding IsDistinct
insert-quoted [] rest entry distinct = refl
insert-quoted (first ∷ done) rest entry distinct =
    let other : bytes_eq (quoted entry.0) (quoted first.0) ≡ false = bytes_eq-quoted entry.0 first.0 ∙ nat_list_eq_equiv.symm entry.0 first.0 ∙ apart first.0 done rest entry distinct.0 in
    cond-false (bytes_eq (quoted entry.0) (quoted first.0)) _ _ other ∙ ap (λ entries. quoted_entry first ∷ entries) (insert-quoted done rest entry distinct.1)

module _ {A : Type 0} (f : A → Entry) where
  more_mapped : (ys : List A) (x : A) → map f (ys ++ x ∷ []) ≡ map f ys ++ f x ∷ []
  more_mapped [] x = refl
  more_mapped (y ∷ ys) x = ap (λ rest. f y ∷ rest) (more_mapped ys x)

  split : (ys : List A) (x : A) (it next all : List Entry) → map f ys ++ it ≡ all → it ≡ f x ∷ next → all ≡ map f ys ++ f x ∷ next
  split ys x it next all parts step = sym parts ∙ ap (λ rest. map f ys ++ rest) step

  -- one more entry of a walk over a map
  pub parts_more : (ys : List A) (x : A) (it next all : List Entry) → map f ys ++ it ≡ all → it ≡ f x ∷ next → map f (ys ++ x ∷ []) ++ next ≡ all
  parts_more ys x it next all parts step =
      ap (λ done. done ++ next) (more_mapped ys x) ∙ append_assoc (map f ys) (f x ∷ []) next ∙ sym (split ys x it next all parts step)

  -- and its pair, where the keys are distinct
  pub entries_more : (ys : List A) (x : A) (it next all made new : List Entry) → map f ys ++ it ≡ all → it ≡ f x ∷ next → IsDistinct bytes_eq (keys_of all)
      → made ≡ map quoted_entry (map f ys) → new ≡ insert_entry bytes_eq made (quoted (f x).0) (f x).1 → new ≡ map quoted_entry (map f (ys ++ x ∷ []))
  entries_more ys x it next all made new parts step distinct before insert =
      insert ∙ ap (λ entries. insert_entry bytes_eq entries (quoted (f x).0) (f x).1) before
      ∙ insert-quoted (map f ys) next (f x) (subst (λ entries. IsDistinct bytes_eq (keys_of entries)) (split ys x it next all parts step) distinct)
      ∙ ap (map quoted_entry) (sym (more_mapped ys x))

-- the entries by their JSON texts are the same pairs
pub entries-quoted : {S : Type 0} (old new : IndexMap (List ℕ) ℤ S) → new.entries ≡ map quoted_entry old.entries → entries_of new ≡ whole_pairs true (entries_of old)
entries-quoted old new is = ap (map (λ (entry : Entry). record { key = entry.0; value = entry.1 })) is ∙ each old.entries
  where
    each : (entries : List Entry) → map (λ (entry : Entry). record { key = entry.0; value = entry.1 }) (map quoted_entry entries) ≡ whole_pairs true (map (λ (entry : Entry). record { key = entry.0; value = entry.1 }) entries)
    each [] = refl
    each (entry ∷ entries) = ap (λ pairs. record { key = quoted entry.0; value = entry.1 } ∷ pairs) (each entries)

-- ---- what is folded into the pairs of a state

module _ (old new : Values) (stays : new.plain ≡ old.plain) where
  -- nothing changes where no entry does
  pub pairs_of-same : entries_of new.entries ≡ entries_of old.entries → pairs_of new ≡ pairs_of old
  pairs_of-same same = ap (λ plain. whole_pairs plain (entries_of new.entries)) stays ∙ ap (whole_pairs old.plain) same

  module _ (by : Folding) (key : List ℕ) (amount : ℤ) where
    -- where the keys are JSON texts, the entries are the pairs
    pub pairs_of-whole : old.plain ≡ false → entries_of new.entries ≡ tallied by (entries_of old.entries) key amount → pairs_of new ≡ tallied by (pairs_of old) key amount
    pairs_of-whole whole puts =
        ap (λ plain. whole_pairs plain (entries_of new.entries)) (stays ∙ whole) ∙ puts
        ∙ ap (λ plain. tallied by (whole_pairs plain (entries_of old.entries)) key amount) (sym whole)

    -- where they are plain, the key is one that can be
    pub pairs_of-plain : (text : List ℕ) → old.plain ≡ true → key ≡ quoted text → entries_of new.entries ≡ tallied by (entries_of old.entries) text amount → pairs_of new ≡ tallied by (pairs_of old) key amount
    pairs_of-plain text plain is puts =
        ap (λ b. whole_pairs b (entries_of new.entries)) (stays ∙ plain) ∙ ap (whole_pairs true) puts
        ∙ sym (tallied-quoted by (entries_of old.entries) text amount)
        ∙ ap (λ b. tallied by (whole_pairs b (entries_of old.entries)) (quoted text) amount) (sym plain)
        ∙ ap (λ k. tallied by (pairs_of old) k amount) (sym is)
