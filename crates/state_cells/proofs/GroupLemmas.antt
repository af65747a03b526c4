-- The jobs of the keys that are written.
use Rattle.std.proofs.Common.{◌≡◌, ℕ, ℤ, Bool, true, false, cond, List, [], ◌∷◌, ◌++◌, map, Option, None, Some, find, option_map, append-nil, refl, sym, ap, ◌∙◌}
use Rattle.std.specs.List.{AllByRecursion, IsDistinct}
use Rattle.std.specs.Map.{lookup, keys_of}
use Rattle.std.specs.Option.{UnwrapsOrElse, option_map_or}
use Rattle.std.specs.Str.{bytes_eq}
use Rattle.std.specs.Cmp.Lexicographic.{nat_list_eq_equiv}
use Rattle.std.proofs.lemmas.Slice.Eq.{bytes_eq-Decides}
use Rattle.indexmap.specs.IndexMap.{IndexMap, UpdatesBy}
use Rattle.smallvec.specs.SmallVec.{SmallVec}
use Rattle.tree_model.specs.declared.write.Write.{Write}
use Rattle.cell_format.specs.Commits.{amounts_at}
use Rattle.storm_stores.proofs.CellMapLemmas.{bytes_eq-same}
use Rattle.storm_stores.specs.declared.key.KeyBytes.{KeyBytes}
use Rattle.state_cells.specs.Groups.{Group, amounts_in, group_of, job_of}
use Rattle.state_cells.specs.Turns.{AreApart, Job, job_at}

abbrev is_key : List ℕ → KeyBytes → Bool
is_key key = λ (k : KeyBytes). bytes_eq key k.bytes.now

pub job_at-jobs : (groups : List Group) (key : List ℕ) → job_at (map job_of groups) key ≡ option_map (λ (amounts : SmallVec ℤ). amounts.items) (lookup (is_key key) groups)
job_at-jobs [] key = refl
job_at-jobs (e ∷ es) key = cases (bytes_eq key e.0.bytes.now) (job_at-jobs es key)
  where
    cases : (b : Bool) → job_at (map job_of es) key ≡ option_map (λ (amounts : SmallVec ℤ). amounts.items) (lookup (is_key key) es)
        → option_map (λ (x : Job). x.amounts) (cond b (Some (job_of e)) (find (λ (x : Job). bytes_eq key x.key) (map job_of es)))
        ≡ option_map (λ (amounts : SmallVec ℤ). amounts.items) (cond b (Some e.1) (lookup (is_key key) es))
    cases true later = refl
    cases false later = later

none_later : (key : KeyBytes) (groups : List Group) → AllByRecursion (λ (k : KeyBytes). bytes_eq key.bytes.now k.bytes.now ≡ false) (keys_of groups) → job_at (map job_of groups) key.bytes.now ≡ None
none_later key [] apart = refl
none_later key (e ∷ es) apart = rw (apart.0) (none_later key es apart.1)

pub jobs_apart : (groups : List Group) → IsDistinct (λ (x y : KeyBytes). bytes_eq x.bytes.now y.bytes.now) (keys_of groups) → AreApart (map job_of groups)
unfolding IsDistinct
jobs_apart [] distinct = tt
jobs_apart (e ∷ es) distinct = (none_later e.0 es distinct.0, jobs_apart es distinct.1)

-- ---- one write more

-- what one write has for a key
one_amount : (write : Write) (q : List ℕ) (b : Bool) → bytes_eq q write.key ≡ b → amounts_at (write ∷ []) q ≡ cond b (write.amount ∷ []) []
one_amount write q true is = ap (λ (t : Bool). map (λ (w : Write). w.amount) (cond t (write ∷ []) [])) is
one_amount write q false is = ap (λ (t : Bool). map (λ (w : Write). w.amount) (cond t (write ∷ []) [])) is

-- the amounts of an entry, which are none in a new one
pub entry_items : (n : ℕ) (o : Option (SmallVec ℤ)) (r : SmallVec ℤ) → UnwrapsOrElse o (λ v. (v.items ≡ []) × (v.capacity ≡ n)) r → r.items ≡ option_map_or (λ (xs : SmallVec ℤ). xs.items) o []
entry_items n None r is = is.0
entry_items n (Some xs) r is = ap (λ (v : SmallVec ℤ). v.items) is

-- a key of these bytes
abbrev of_bytes : KeyBytes → List ℕ → KeyBytes
of_bytes key bytes = record key { bytes = record key.bytes { now = bytes } }

module _ {S : Type 0} (old new : IndexMap KeyBytes (SmallVec ℤ) S) (key : KeyBytes) (amounts : SmallVec ℤ) (write : Write) where
  pub group_more : UpdatesBy (λ (x y : KeyBytes). bytes_eq x.bytes.now y.bytes.now) (λ (k : KeyBytes). bytes_eq key.bytes.now k.bytes.now) old new (Some amounts) → key.bytes.now ≡ write.key → amounts.items ≡ amounts_in old key.bytes.now ++ write.amount ∷ []
      → (q : List ℕ) → amounts_in new q ≡ amounts_in old q ++ amounts_at (write ∷ []) q
  group_more updates is_key items q = cases (bytes_eq key.bytes.now q) refl (updates.0 (of_bytes key q))
    where
      found_as : (o : Option (SmallVec ℤ)) → group_of new q ≡ o → amounts_in new q ≡ option_map_or (λ (xs : SmallVec ℤ). xs.items) o []
      found_as o found = ap (λ o. option_map_or (λ (xs : SmallVec ℤ). xs.items) o []) found

      cases : (b : Bool) → bytes_eq key.bytes.now q ≡ b → group_of new q ≡ cond b (Some amounts) (group_of old q) → amounts_in new q ≡ amounts_in old q ++ amounts_at (write ∷ []) q
      cases true is found =
          let same : key.bytes.now ≡ q = (bytes_eq-Decides key.bytes.now q).0 is in
          found_as (Some amounts) found ∙ items
          ∙ ap (λ (k : List ℕ). amounts_in old k ++ write.amount ∷ []) same
          ∙ ap (λ (xs : List ℤ). amounts_in old q ++ xs) (sym (one_amount write q true (ap (bytes_eq q) (sym is_key ∙ same) ∙ bytes_eq-same q)))
      cases false is found =
          found_as (group_of old q) found ∙ sym (append-nil (amounts_in old q))
          ∙ ap (λ (xs : List ℤ). amounts_in old q ++ xs) (sym (one_amount write q false (nat_list_eq_equiv.symm q write.key ∙ ap (λ (k : List ℕ). bytes_eq k q) (sym is_key) ∙ is)))
