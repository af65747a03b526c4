-- Many jobs, one after the other.
use Rattle.std.proofs.Common.{◌≡◌, ◌≢◌, inl, inr, ℕ, zero, suc, ℤ, Bool, true, false, true≢false, cond, List, [], ◌∷◌, ◌++◌, take, drop, ◌+◌, Option, None, Some, find, option_map, refl, sym, ap, subst, ◌∙◌, arith}
use Rattle.std.specs.List.{slice_get}
use Rattle.std.specs.Option.{option_or}
use Rattle.std.specs.Str.{bytes_eq}
use Rattle.std.proofs.lemmas.List.Folds.{find-append}
use Rattle.std.proofs.lemmas.Slice.Eq.{bytes_eq-Decides}
use Rattle.tree_model.specs.Tables.{Folding}
use Rattle.tree_model.specs.storm_values.declared.value.Root.{Root}
use Rattle.tree_model.specs.topology_plan.declared.parts.Kind.{Kind}
use Rattle.storm_stores.specs.CellMaps.{CellMap, cell_at}
use Rattle.storm_stores.proofs.CellMapLemmas.{bytes_eq-same}
use Rattle.cell_format.specs.Commits.{Commits, Holds, IsPerhapsDone, after}
use Rattle.cell_format.specs.declared.cell.Cell.{Cell}
use Rattle.state_cells.specs.Turns.{AreApart, IsBad, IsPerhapsWorked, IsWorked, OnlyAt, Turns, job_at, Job}

some_here : (b : Bool) (o : Option Job) (y : Job) → b ≡ true → option_map (λ (z : Job). z.amounts) (cond b (Some y) o) ≢ None
some_here true o y is none = absurd (let e : ◌≡◌ {A = Option (List ℤ)} (Some y.amounts) None = none in cc)
some_here false o y is none = true≢false (sym is)

past : (b : Bool) (o : Option Job) (y : Job) → option_map (λ (z : Job). z.amounts) o ≢ None → option_map (λ (z : Job). z.amounts) (cond b (Some y) o) ≢ None
past true o y found none = absurd (let e : ◌≡◌ {A = Option (List ℤ)} (Some y.amounts) None = none in cc)
past false o y found none = found none

there : (xs : List Job) (n : ℕ) (x : Job) → slice_get xs n ≡ Some x → job_at xs x.key ≢ None
there [] n x here none = absurd (let e : ◌≡◌ {A = Option Job} None (Some x) = here in cc)
there (y ∷ ys) zero x here none = let same : y ≡ x = cc in some_here (bytes_eq x.key y.key) (find (λ (z : Job). bytes_eq x.key z.key) ys) y (ap (λ (z : Job). bytes_eq x.key z.key) same ∙ bytes_eq-same x.key) none
there (y ∷ ys) (suc n) x here none = past (bytes_eq x.key y.key) (find (λ (z : Job). bytes_eq x.key z.key) ys) y (there ys n x here) none

-- a job that stands behind others is for another key than they
pub job_at-before : (jobs : List Job) (i : ℕ) (job : Job) → AreApart jobs → slice_get jobs i ≡ Some job → job_at (take i jobs) job.key ≡ None
job_at-before jobs zero job apart at = refl
job_at-before [] (suc i) job apart at = refl
job_at-before (j ∷ js) (suc i) job apart at = cases (bytes_eq job.key j.key) refl (job_at-before js i job apart.1 at)
  where
    cases : (b : Bool) → bytes_eq job.key j.key ≡ b → job_at (take i js) job.key ≡ None
        → option_map (λ (x : Job). x.amounts) (cond b (Some j) (find (λ (x : Job). bytes_eq job.key x.key) (take i js))) ≡ None
    cases true is later =
        let same : job.key ≡ j.key = (bytes_eq-Decides job.key j.key).0 is in
        let found : job_at js job.key ≢ None = there js i job at in
        absurd (found (ap (job_at js) same ∙ apart.0))
    cases false is later = later

-- one job more
pushed : (o : Option Job) (b : Bool) (job : Job) → option_map (λ (x : Job). x.amounts) (option_or o (cond b (Some job) None)) ≡ option_or (option_map (λ (x : Job). x.amounts) o) (cond b (Some job.amounts) None)
pushed (Some x) b job = refl
pushed None true job = refl
pushed None false job = refl

pub job_at-more : (done : List Job) (job : Job) (k : List ℕ) → job_at (done ++ job ∷ []) k ≡ option_or (job_at done k) (cond (bytes_eq k job.key) (Some job.amounts) None)
job_at-more done job k = ap (option_map (λ (x : Job). x.amounts)) (find-append (λ (x : Job). bytes_eq k x.key) done (job ∷ [])) ∙ pushed (find (λ (x : Job). bytes_eq k x.key) done) (bytes_eq k job.key) job

joined : (o r : Option Job) → option_map (λ (x : Job). x.amounts) (option_or o r) ≡ option_or (option_map (λ (x : Job). x.amounts) o) (option_map (λ (x : Job). x.amounts) r)
joined (Some x) r = refl
joined None r = refl

pub job_at-append : (done rest : List Job) (k : List ℕ) → job_at (done ++ rest) k ≡ option_or (job_at done k) (job_at rest k)
job_at-append done rest k = ap (option_map (λ (x : Job). x.amounts)) (find-append (λ (x : Job). bytes_eq k x.key) done rest) ∙ joined (find (λ (x : Job). bytes_eq k x.key) done) (find (λ (x : Job). bytes_eq k x.key) rest)

module _ {S : Type 0} (tells : S → CellMap → Type 0) (kind : Kind) (by : Folding) (root : Root) where
  step : (o : Option (List ℤ)) (b : Bool) (amounts : List ℤ) (old mid new : Option (List ℕ)) → (b ≡ true → o ≡ None) → IsWorked kind by root o old mid
      → (b ≡ true → Commits kind by root amounts mid new) → (b ≡ false → new ≡ mid) → IsWorked kind by root (option_or o (cond b (Some amounts) None)) old new
  step None true amounts old mid new none worked here other = subst (λ (x : Option (List ℕ)). Commits kind by root amounts x new) worked (here refl)
  step None false amounts old mid new none worked here other = other refl ∙ worked
  step (Some a) true amounts old mid new none worked here other = absurd (let e : ◌≡◌ {A = Option (List ℤ)} (Some a) None = none refl in cc)
  step (Some a) false amounts old mid new none worked here other = subst (Commits kind by root a old) (sym (other refl)) worked

  stayed : (o : Option (List ℤ)) (old new : Option (List ℕ)) → new ≡ old → IsPerhapsWorked kind by root o old new
  stayed None old new same = same
  stayed (Some a) old new same = inl same

  step_broken : (o r : Option (List ℤ)) (b : Bool) (amounts : List ℤ) (old mid new : Option (List ℕ)) → (b ≡ true → o ≡ None) → (b ≡ true → r ≡ Some amounts) → IsWorked kind by root o old mid
      → (b ≡ true → IsPerhapsDone kind by root amounts mid new) → (b ≡ false → new ≡ mid) → IsPerhapsWorked kind by root (option_or o r) old new
  step_broken None r true amounts old mid new none its worked here other =
      subst (λ (x : Option (List ℤ)). IsPerhapsWorked kind by root x old new) (sym (its refl)) (subst (λ (x : Option (List ℕ)). IsPerhapsDone kind by root amounts x new) worked (here refl))
  step_broken None r false amounts old mid new none its worked here other = stayed r old new (other refl ∙ worked)
  step_broken (Some a) r true amounts old mid new none its worked here other = absurd (let e : ◌≡◌ {A = Option (List ℤ)} (Some a) None = none refl in cc)
  step_broken (Some a) r false amounts old mid new none its worked here other = inr (subst (Commits kind by root a old) (sym (other refl)) worked)

  same_key : (k at : List ℕ) → bytes_eq k at ≡ true → k ≡ at
  same_key k at is = (bytes_eq-Decides k at).0 is

  other_key : (k at : List ℕ) → bytes_eq k at ≡ false → k ≢ at
  other_key k at is same = true≢false (sym ((bytes_eq-Decides k at).1 same) ∙ is)

  pub work_none : (a : S) → Turns tells (λ key. IsWorked kind by root (job_at [] key)) a a
  work_none a = record { to = λ m told. (m, told, λ key. refl) }

  pub work_more : (done : List Job) (job : Job) (a b c : S) → job_at done job.key ≡ None → Turns tells (λ key. IsWorked kind by root (job_at done key)) a b
      → Turns tells (OnlyAt job.key (Commits kind by root job.amounts)) b c → Turns tells (λ key. IsWorked kind by root (job_at (done ++ job ∷ []) key)) a c
  work_more done job a b c apart first then = record {
    to = λ m told.
        let x = first.to m told in
        let y = then.to x.0 x.1 in (
          y.0,
          y.1,
          λ key. subst (λ (o : Option (List ℤ)). IsWorked kind by root o (cell_at m key) (cell_at y.0 key)) (sym (job_at-more done job key))
              (step (job_at done key) (bytes_eq key job.key) job.amounts (cell_at m key) (cell_at x.0 key) (cell_at y.0 key)
              (λ is. ap (job_at done) (same_key key job.key is) ∙ apart) (x.2 key)
              (λ is. (y.2 key).0 (same_key key job.key is)) (λ is. (y.2 key).1 (other_key key job.key is))),
        );
  }

  pub work_broken : (done rest : List Job) (job : Job) (a b c : S) → job_at done job.key ≡ None → Turns tells (λ key. IsWorked kind by root (job_at done key)) a b
      → Turns tells (OnlyAt job.key (IsPerhapsDone kind by root job.amounts)) b c → Turns tells (λ key. IsPerhapsWorked kind by root (job_at (done ++ job ∷ rest) key)) a c
  work_broken done rest job a b c apart first then = record {
    to = λ m told.
        let x = first.to m told in
        let y = then.to x.0 x.1 in (
          y.0,
          y.1,
          λ key. subst (λ (o : Option (List ℤ)). IsPerhapsWorked kind by root o (cell_at m key) (cell_at y.0 key)) (sym (job_at-append done (job ∷ rest) key))
              (step_broken (job_at done key) (job_at (job ∷ rest) key) (bytes_eq key job.key) job.amounts (cell_at m key) (cell_at x.0 key) (cell_at y.0 key)
              (λ is. ap (job_at done) (same_key key job.key is) ∙ apart)
              (λ is. ap (λ (t : Bool). option_map (λ (z : Job). z.amounts) (cond t (Some job) (find (λ (z : Job). bytes_eq key z.key) rest))) is)
              (x.2 key)
              (λ is. (y.2 key).0 (same_key key job.key is)) (λ is. (y.2 key).1 (other_key key job.key is))),
        );
  }

  taken : (jobs : List Job) (i : ℕ) (job : Job) → slice_get jobs i ≡ Some job → jobs ≡ take i jobs ++ job ∷ drop (suc i) jobs
  taken [] i job at = absurd (let e : ◌≡◌ {A = Option Job} None (Some job) = at in cc)
  taken (j ∷ js) zero job at = let same : j ≡ job = cc in rw same refl
  taken (j ∷ js) (suc i) job at = ap (λ xs. j ∷ xs) (taken js i job at)

  taken_suc : (jobs : List Job) (i : ℕ) (job : Job) → slice_get jobs i ≡ Some job → take (suc i) jobs ≡ take i jobs ++ job ∷ []
  taken_suc [] i job at = absurd (let e : ◌≡◌ {A = Option Job} None (Some job) = at in cc)
  taken_suc (j ∷ js) zero job at = let same : j ≡ job = cc in rw same refl
  taken_suc (j ∷ js) (suc i) job at = ap (λ xs. j ∷ xs) (taken_suc js i job at)

  taken_more : (jobs : List Job) (i : ℕ) (job : Job) → slice_get jobs i ≡ Some job → take (i + 1) jobs ≡ take i jobs ++ job ∷ []
  taken_more jobs i job at = let e : i + 1 ≡ suc i = omega arith in ap (λ n. take n jobs) e ∙ taken_suc jobs i job at

  pub work_more_at : (jobs : List Job) (i : ℕ) (job : Job) (a b c : S) → AreApart jobs → slice_get jobs i ≡ Some job → Turns tells (λ key. IsWorked kind by root (job_at (take i jobs) key)) a b
      → Turns tells (OnlyAt job.key (Commits kind by root job.amounts)) b c → Turns tells (λ key. IsWorked kind by root (job_at (take (i + 1) jobs) key)) a c
  work_more_at jobs i job a b c apart at first then =
      subst (λ (xs : List Job). Turns tells (λ key. IsWorked kind by root (job_at xs key)) a c) (sym (taken_more jobs i job at))
      (work_more (take i jobs) job a b c (job_at-before jobs i job apart at) first then)

  pub work_broken_at : (jobs : List Job) (i : ℕ) (job : Job) (a b c : S) → AreApart jobs → slice_get jobs i ≡ Some job → Turns tells (λ key. IsWorked kind by root (job_at (take i jobs) key)) a b
      → Turns tells (OnlyAt job.key (IsPerhapsDone kind by root job.amounts)) b c → Turns tells (λ key. IsPerhapsWorked kind by root (job_at jobs key)) a c
  work_broken_at jobs i job a b c apart at first then =
      subst (λ (xs : List Job). Turns tells (λ key. IsPerhapsWorked kind by root (job_at xs key)) a c) (sym (taken jobs i job at))
      (work_broken (take i jobs) (drop (suc i) jobs) job a b c (job_at-before jobs i job apart at) first then)

-- ---- a cell that the part does not take

good_not_bad : (kind : Kind) (held : Option (List ℕ)) (cell : Option Cell) → Holds kind held cell → IsBad kind held → ⊥
good_not_bad kind None cell holds bad = bad
good_not_bad kind (Some bytes) None holds bad = holds.bytes
good_not_bad kind (Some bytes) (Some cell) holds bad = bad cell holds.good holds.bytes

pub bad_before : (kind : Kind) (by : Folding) (root : Root) (o : Option (List ℤ)) (old new : Option (List ℕ)) → IsWorked kind by root o old new → IsBad kind new → IsBad kind old
bad_before kind by root None old new same bad = subst (IsBad kind) same bad
bad_before kind by root (Some amounts) old new commits bad = absurd (good_not_bad kind new (after kind by root amounts commits.cell) commits.is bad)
