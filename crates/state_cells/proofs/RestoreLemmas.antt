-- Jobs without amounts.
use Rattle.std.proofs.Common.{◌≡◌, ◌≢◌, ℕ, ℤ, Bool, true, false, not, ◌&&◌, ◌||◌, cond, true≢false, List, [], ◌∷◌, ◌++◌, filter, length, arith, Option, None, Some, find, option_map, is_some, refl, sym, ap, subst, ◌∙◌}
use Rattle.storm_stores.specs.declared.key.KeyBytes.{KeyBytes}
use Rattle.std.specs.List.{list_any, slice_get}
use Rattle.std.proofs.lemmas.Grind.{common_steps}
use Rattle.std.proofs.lemmas.Option.{slice_get-map}
use Rattle.std.specs.Option.{option_or}
use Rattle.std.specs.Str.{bytes_eq}
use Rattle.std.proofs.lemmas.Map.Views.{any-filter_same}
use Rattle.std.proofs.lemmas.Slice.Eq.{bytes_eq-Decides}
use Rattle.indexmap.specs.IndexMap.{IndexMap}
use Rattle.smallvec.specs.SmallVec.{SmallVec}
use Rattle.storm_stores.proofs.CellMapLemmas.{bytes_eq-same}
use Rattle.state_cells.specs.Groups.{group_of, jobs_in, jobs_of, restores_in}
use Rattle.state_cells.specs.Turns.{AreApart, AreOnce, Job, job_at}
use Rattle.state_cells.proofs.GroupLemmas.{job_at-jobs}
use Rattle.state_cells.proofs.JobLemmas.{job_at-append}

-- ---- jobs that stay apart

head_there : (b : Bool) (o : Option Job) (j : Job) → b ≡ true → option_map (λ (x : Job). x.amounts) (cond b (Some j) o) ≢ None
head_there true o j is none = absurd (let e : ◌≡◌ {A = Option (List ℤ)} (Some j.amounts) None = none in cc)
head_there false o j is none = true≢false (sym is)

later_there : (b : Bool) (o : Option Job) (j : Job) → option_map (λ (x : Job). x.amounts) o ≢ None → option_map (λ (x : Job). x.amounts) (cond b (Some j) o) ≢ None
later_there true o j found none = absurd (let e : ◌≡◌ {A = Option (List ℤ)} (Some j.amounts) None = none in cc)
later_there false o j found none = found none

apart-append : (a b : List Job) → AreApart a → AreApart b → ((key : List ℕ) → job_at a key ≢ None → job_at b key ≡ None) → AreApart (a ++ b)
apart-append [] b apart_a apart_b differ = apart_b
apart-append (j ∷ js) b apart_a apart_b differ =
    let here : job_at (j ∷ js) j.key ≢ None = head_there (bytes_eq j.key j.key) (find (λ (x : Job). bytes_eq j.key x.key) js) j (bytes_eq-same j.key) in
    let none : job_at (js ++ b) j.key ≡ None = job_at-append js b j.key ∙ ap (λ (o : Option (List ℤ)). option_or o (job_at b j.key)) apart_a.0 ∙ differ j.key here in
    (none, apart-append js b apart_a.1 apart_b (λ key found. differ key (later_there (bytes_eq key j.key) (find (λ (x : Job). bytes_eq key x.key) js) j found)))

-- ---- keys that stand once

and_right : (a b : Bool) → (a && b) ≡ true → b ≡ true
and_right true b is = is
and_right false b is = absurd (true≢false (sym is))

and_swap : (a b : Bool) → (a && b) ≡ (b && a)
and_swap true true = refl
and_swap true false = refl
and_swap false true = refl
and_swap false false = refl

listed-filter : (p : List ℕ → Bool) (keys : List (List ℕ)) (key : List ℕ) → list_any (bytes_eq key) (filter p keys) ≡ (p key && list_any (bytes_eq key) keys)
listed-filter p keys key = any-filter_same (bytes_eq key) p (p key) (λ k same. ap p (sym ((bytes_eq-Decides key k).0 same))) keys

once-filter : (p : List ℕ → Bool) (keys : List (List ℕ)) → AreOnce keys → AreOnce (filter p keys)
once-filter p [] once = tt
once-filter p (k ∷ ks) once = cases (p k) (once-filter p ks once.1)
  where
    cases : (b : Bool) → AreOnce (filter p ks) → AreOnce (cond b (k ∷ filter p ks) (filter p ks))
    cases true later = (λ listed. once.0 (and_right (p k) (list_any (bytes_eq k) ks) (sym (listed-filter p ks k) ∙ listed)), later)
    cases false later = later

job_at-restores : (keys : List (List ℕ)) (key : List ℕ) → job_at (restores_in keys) key ≡ cond (list_any (bytes_eq key) keys) (Some []) None
job_at-restores [] key = refl
job_at-restores (k ∷ ks) key = cases (bytes_eq key k) (job_at-restores ks key)
  where
    cases : (b : Bool) → job_at (restores_in ks) key ≡ cond (list_any (bytes_eq key) ks) (Some []) None
        → option_map (λ (x : Job). x.amounts) (cond b (Some (record { key = k; amounts = [] })) (find (λ (x : Job). bytes_eq key x.key) (restores_in ks)))
        ≡ cond (b || list_any (bytes_eq key) ks) (Some []) None
    cases true later = refl
    cases false later = later

restores_apart : (keys : List (List ℕ)) → AreOnce keys → AreApart (restores_in keys)
restores_apart [] once = tt
restores_apart (k ∷ ks) once = (job_at-restores ks k ∙ none (list_any (bytes_eq k) ks) once.0, restores_apart ks once.1)
  where
    none : (b : Bool) → (b ≡ true → ⊥) → ◌≡◌ {A = Option (List ℤ)} (cond b (Some []) None) None
    none true differs = absurd (differs refl)
    none false differs = refl

-- ---- all jobs

-- a key that is written gets no job without amounts
differ_row : (group : Option (SmallVec ℤ)) (listed : Bool) (o r : Option (List ℤ)) → o ≡ option_map (λ (xs : SmallVec ℤ). xs.items) group → r ≡ cond (listed && not (is_some group)) (Some []) None → o ≢ None → r ≡ None
differ_row None listed o r is_o is_r found = absurd (found is_o)
differ_row (Some xs) true o r is_o is_r found = is_r
differ_row (Some xs) false o r is_o is_r found = is_r

or_none : (o : Option (List ℤ)) → option_or o None ≡ o
or_none None = refl
or_none (Some xs) = refl

module _ {S : Type 0} (groups : IndexMap KeyBytes (SmallVec ℤ) S) (restores : List (List ℕ)) where
  module _ (keys : List (List ℕ)) (is : restores ≡ filter (λ key. not (is_some (group_of groups key))) keys) where
    restore_at : (key : List ℕ) → job_at (restores_in restores) key ≡ cond (list_any (bytes_eq key) keys && not (is_some (group_of groups key))) (Some []) None
    restore_at key =
        ap (λ (ks : List (List ℕ)). job_at (restores_in ks) key) is
        ∙ job_at-restores (filter (λ k. not (is_some (group_of groups k))) keys) key
        ∙ ap (λ b. cond b (Some []) None) (listed-filter (λ k. not (is_some (group_of groups k))) keys key ∙ and_swap (not (is_some (group_of groups key))) (list_any (bytes_eq key) keys))

    pub all_apart : AreApart (jobs_in groups) → AreOnce keys → AreApart (jobs_of groups restores)
    all_apart apart once =
        apart-append (jobs_in groups) (restores_in restores) apart (restores_apart restores (subst AreOnce (sym is) (once-filter (λ k. not (is_some (group_of groups k))) keys once)))
        (λ key found. differ_row (group_of groups key) (list_any (bytes_eq key) keys) _ _ (job_at-jobs groups.entries key) (restore_at key) found)

    pub all_at : (key : List ℕ) → job_at (jobs_of groups restores) key
        ≡ option_or (option_map (λ (xs : SmallVec ℤ). xs.items) (group_of groups key)) (cond (list_any (bytes_eq key) keys && not (is_some (group_of groups key))) (Some []) None)
    all_at key =
        job_at-append (jobs_in groups) (restores_in restores) key
        ∙ ap (λ o. option_or o (job_at (restores_in restores) key)) (job_at-jobs groups.entries key)
        ∙ ap (option_or (option_map (λ (xs : SmallVec ℤ). xs.items) (group_of groups key))) (restore_at key)

  module _ (is : restores ≡ []) where
    pub written_apart : AreApart (jobs_in groups) → AreApart (jobs_of groups restores)
    written_apart apart = all_apart [] is apart tt

    pub written_at : (key : List ℕ) → job_at (jobs_of groups restores) key ≡ option_map (λ (xs : SmallVec ℤ). xs.items) (group_of groups key)
    written_at key = all_at [] is key ∙ or_none _

-- ---- a walk over these keys

abbrev pub restore_of : List ℕ → Job
restore_of key = record { key = key; amounts = [] }

pub restore_here : (keys : List (List ℕ)) (i : ℕ) (key : List ℕ) → slice_get keys i ≡ Some key → slice_get (restores_in keys) i ≡ Some (restore_of key)
restore_here keys i key at = slice_get-map restore_of keys i ∙ ap (option_map restore_of) at

pub length-restores : (keys : List (List ℕ)) → length (restores_in keys) ≡ length keys
length-restores [] = refl
length-restores (k ∷ ks) = let more = length-restores ks in grind (arith, common_steps, more)
