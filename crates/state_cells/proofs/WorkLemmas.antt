-- The jobs of a commit in two walks: the keys that are written, and then the others.
use Rattle.std.proofs.Common.{◌≡◌, ◌≢◌, inl, inr, ℕ, ℤ, Bool, true, false, true≢false, cond, List, [], ◌∷◌, ◌++◌, map, Option, None, Some, find, option_map, refl, sym, ap, subst, ◌∙◌}
use Rattle.std.specs.Borrow.{Bor}
use Rattle.std.specs.Map.Iter.{deref_pair}
use Rattle.std.specs.Option.{option_or}
use Rattle.std.specs.Str.{bytes_eq}
use Rattle.std.proofs.lemmas.Slice.Eq.{bytes_eq-Decides}
use Rattle.smallvec.specs.SmallVec.{SmallVec}
use Rattle.tree_model.specs.Tables.{Folding}
use Rattle.tree_model.specs.storm_values.declared.value.Root.{Root}
use Rattle.tree_model.specs.topology_plan.declared.parts.Kind.{Kind}
use Rattle.storm_stores.specs.CellMaps.{CellMap, cell_at}
use Rattle.storm_stores.proofs.CellMapLemmas.{bytes_eq-same}
use Rattle.storm_stores.specs.declared.key.KeyBytes.{KeyBytes}
use Rattle.cell_format.specs.Commits.{Commits, IsPerhapsDone}
use Rattle.state_cells.specs.Groups.{Group, job_of}
use Rattle.state_cells.specs.Turns.{AreApart, IsPerhapsWorked, IsWorked, Job, OnlyAt, Turns, job_at}
use Rattle.state_cells.proofs.JobLemmas.{job_at-append, work_broken, work_more}

abbrev Shown : Type 0
Shown = Bor KeyBytes × Bor (SmallVec ℤ)

-- ---- a walk over the keys that are written

pub parts_more : {A B : Type 0} (f : A → B) (ys : List A) (x : A) (it next all : List B) → map f ys ++ it ≡ all → it ≡ f x ∷ next → map f (ys ++ x ∷ []) ++ next ≡ all
parts_more {A} f ys x it next all parts step = join ys ∙ ap (λ r. map f ys ++ r) (sym step) ∙ parts
  where
    join : (zs : List A) → map f (zs ++ x ∷ []) ++ next ≡ map f zs ++ (f x ∷ next)
    join [] = refl
    join (z ∷ zs) = ap (λ r. f z ∷ r) (join zs)

map_join : {A B : Type 0} (f : A → B) (a b : List A) → map f (a ++ b) ≡ map f a ++ map f b
map_join f [] b = refl
map_join f (x ∷ a) b = ap (λ r. f x ∷ r) (map_join f a b)

there : (done rest : List Job) (job : Job) → job_at (done ++ job ∷ rest) job.key ≢ None
there [] rest job none = cases (bytes_eq job.key job.key) (bytes_eq-same job.key) none
  where
    cases : (b : Bool) → b ≡ true → option_map (λ (z : Job). z.amounts) (cond b (Some job) (find (λ (z : Job). bytes_eq job.key z.key) rest)) ≢ None
    cases true is none = absurd (let e : ◌≡◌ {A = Option (List ℤ)} (Some job.amounts) None = none in cc)
    cases false is none = true≢false (sym is)
there (j ∷ js) rest job none = cases (bytes_eq job.key j.key) (there js rest job) none
  where
    cases : (b : Bool) → job_at (js ++ job ∷ rest) job.key ≢ None → option_map (λ (z : Job). z.amounts) (cond b (Some j) (find (λ (z : Job). bytes_eq job.key z.key) (js ++ job ∷ rest))) ≢ None
    cases true later none = absurd (let e : ◌≡◌ {A = Option (List ℤ)} (Some j.amounts) None = none in cc)
    cases false later none = later none

not_before : (done rest : List Job) (job : Job) → AreApart (done ++ job ∷ rest) → job_at done job.key ≡ None
not_before [] rest job apart = refl
not_before (j ∷ js) rest job apart = cases (bytes_eq job.key j.key) refl (not_before js rest job apart.1)
  where
    cases : (b : Bool) → bytes_eq job.key j.key ≡ b → job_at js job.key ≡ None
        → option_map (λ (x : Job). x.amounts) (cond b (Some j) (find (λ (x : Job). bytes_eq job.key x.key) js)) ≡ None
    cases true is later = absurd (there js rest job (ap (job_at (js ++ job ∷ rest)) ((bytes_eq-Decides job.key j.key).0 is) ∙ apart.0))
    cases false is later = later

module _ {S : Type 0} (tells : S → CellMap → Type 0) (kind : Kind) (by : Folding) (root : Root) where
  module _ (ys : List Shown) (x : Shown) (it next all : List Group) (parts : map deref_pair ys ++ it ≡ all) (step : it ≡ deref_pair x ∷ next) (apart : AreApart (map job_of all)) (a b c : S)
      (first : Turns tells (λ key. IsWorked kind by root (job_at (map job_of (map deref_pair ys)) key)) a b) where
    whole : map job_of all ≡ map job_of (map deref_pair ys) ++ job_of (deref_pair x) ∷ map job_of next
    whole = ap (map job_of) (sym parts ∙ ap (λ r. map deref_pair ys ++ r) step) ∙ map_join job_of (map deref_pair ys) (deref_pair x ∷ next)

    fresh : job_at (map job_of (map deref_pair ys)) x.0.now.bytes.now ≡ None
    fresh = not_before (map job_of (map deref_pair ys)) (map job_of next) (job_of (deref_pair x)) (subst AreApart whole apart)

    done : map job_of (map deref_pair (ys ++ x ∷ [])) ≡ map job_of (map deref_pair ys) ++ job_of (deref_pair x) ∷ []
    done = ap (map job_of) (map_join deref_pair ys (x ∷ [])) ∙ map_join job_of (map deref_pair ys) (deref_pair x ∷ [])

    pub group_done : Turns tells (OnlyAt x.0.now.bytes.now (Commits kind by root x.1.now.items)) b c → Turns tells (λ key. IsWorked kind by root (job_at (map job_of (map deref_pair (ys ++ x ∷ []))) key)) a c
    group_done then = subst (λ (js : List Job). Turns tells (λ key. IsWorked kind by root (job_at js key)) a c) (sym done) (work_more tells kind by root (map job_of (map deref_pair ys)) (job_of (deref_pair x)) a b c fresh first then)

    pub group_broken : Turns tells (OnlyAt x.0.now.bytes.now (IsPerhapsDone kind by root x.1.now.items)) b c → Turns tells (λ key. IsPerhapsWorked kind by root (job_at (map job_of all) key)) a c
    group_broken then = subst (λ (js : List Job). Turns tells (λ key. IsPerhapsWorked kind by root (job_at js key)) a c) (sym whole) (work_broken tells kind by root (map job_of (map deref_pair ys)) (map job_of next) (job_of (deref_pair x)) a b c fresh first then)

-- ---- one walk after the other

left_none : (o r : Option (List ℤ)) → option_or o r ≡ None → o ≡ None
left_none None r is = refl
left_none (Some a) r is = absurd (let e : ◌≡◌ {A = Option (List ℤ)} (Some a) None = is in cc)

right_none : (o r : Option (List ℤ)) → option_or o r ≡ None → r ≡ None
right_none None r is = is
right_none (Some a) r is = absurd (let e : ◌≡◌ {A = Option (List ℤ)} (Some a) None = is in cc)

pub apart_left : (a b : List Job) → AreApart (a ++ b) → AreApart a
apart_left [] b apart = tt
apart_left (j ∷ js) b apart = (left_none (job_at js j.key) (job_at b j.key) (sym (job_at-append js b j.key) ∙ apart.0), apart_left js b apart.1)

pub apart_right : (a b : List Job) → AreApart (a ++ b) → AreApart b
apart_right [] b apart = apart
apart_right (j ∷ js) b apart = apart_right js b apart.1

differ : (a b : List Job) (key : List ℕ) → AreApart (a ++ b) → job_at a key ≢ None → job_at b key ≡ None
differ [] b key apart found = absurd (found refl)
differ (j ∷ js) b key apart found = cases (bytes_eq key j.key) refl (λ later. differ js b key apart.1 later) found
  where
    cases : (t : Bool) → bytes_eq key j.key ≡ t → (job_at js key ≢ None → job_at b key ≡ None) → option_map (λ (x : Job). x.amounts) (cond t (Some j) (find (λ (x : Job). bytes_eq key x.key) js)) ≢ None → job_at b key ≡ None
    cases true is later here = ap (job_at b) ((bytes_eq-Decides key j.key).0 is) ∙ right_none (job_at js j.key) (job_at b j.key) (sym (job_at-append js b j.key) ∙ apart.0)
    cases false is later here = later here

module _ {S : Type 0} (tells : S → CellMap → Type 0) (kind : Kind) (by : Folding) (root : Root) where
  there_is : (a : List ℤ) → ◌≢◌ {A = Option (List ℤ)} (Some a) None
  there_is a is = absurd (let e : ◌≡◌ {A = Option (List ℤ)} (Some a) None = is in cc)

  row : (o r : Option (List ℤ)) (old mid new : Option (List ℕ)) → (o ≢ None → r ≡ None) → IsWorked kind by root o old mid → IsWorked kind by root r mid new → IsWorked kind by root (option_or o r) old new
  row None r old mid new none first then = subst (λ (x : Option (List ℕ)). IsWorked kind by root r x new) first then
  row (Some a) r old mid new none first then =
      let same : new ≡ mid = subst (λ (z : Option (List ℤ)). IsWorked kind by root z mid new) (none (there_is a)) then in
      subst (Commits kind by root a old) (sym same) first

  row_broken : (o r : Option (List ℤ)) (old mid new : Option (List ℕ)) → (o ≢ None → r ≡ None) → IsWorked kind by root o old mid → IsPerhapsWorked kind by root r mid new → IsPerhapsWorked kind by root (option_or o r) old new
  row_broken None r old mid new none first then = subst (λ (x : Option (List ℕ)). IsPerhapsWorked kind by root r x new) first then
  row_broken (Some a) r old mid new none first then =
      let same : new ≡ mid = subst (λ (z : Option (List ℤ)). IsPerhapsWorked kind by root z mid new) (none (there_is a)) then in
      inr (subst (Commits kind by root a old) (sym same) first)

  row_begun : (o r : Option (List ℤ)) (old new : Option (List ℕ)) → IsPerhapsWorked kind by root o old new → IsPerhapsWorked kind by root (option_or o r) old new
  row_begun None None old new first = first
  row_begun None (Some b) old new first = inl first
  row_begun (Some a) r old new first = first

  module _ (x y : List Job) (a b c : S) where
    pub both_done : AreApart (x ++ y) → Turns tells (λ key. IsWorked kind by root (job_at x key)) a b → Turns tells (λ key. IsWorked kind by root (job_at y key)) b c → Turns tells (λ key. IsWorked kind by root (job_at (x ++ y) key)) a c
    both_done apart first then = record {
      to = λ m told.
          let p = first.to m told in
          let q = then.to p.0 p.1 in (
            q.0,
            q.1,
            λ key. subst (λ (o : Option (List ℤ)). IsWorked kind by root o (cell_at m key) (cell_at q.0 key)) (sym (job_at-append x y key))
                (row (job_at x key) (job_at y key) (cell_at m key) (cell_at p.0 key) (cell_at q.0 key) (differ x y key apart) (p.2 key) (q.2 key)),
          );
    }

    pub both_broken : AreApart (x ++ y) → Turns tells (λ key. IsWorked kind by root (job_at x key)) a b → Turns tells (λ key. IsPerhapsWorked kind by root (job_at y key)) b c → Turns tells (λ key. IsPerhapsWorked kind by root (job_at (x ++ y) key)) a c
    both_broken apart first then = record {
      to = λ m told.
          let p = first.to m told in
          let q = then.to p.0 p.1 in (
            q.0,
            q.1,
            λ key. subst (λ (o : Option (List ℤ)). IsPerhapsWorked kind by root o (cell_at m key) (cell_at q.0 key)) (sym (job_at-append x y key))
                (row_broken (job_at x key) (job_at y key) (cell_at m key) (cell_at p.0 key) (cell_at q.0 key) (differ x y key apart) (p.2 key) (q.2 key)),
          );
    }

    pub first_broken : Turns tells (λ key. IsPerhapsWorked kind by root (job_at x key)) a b → Turns tells (λ key. IsPerhapsWorked kind by root (job_at (x ++ y) key)) a b
    first_broken first = record {
      to = λ m told.
          let p = first.to m told in (
            p.0,
            p.1,
            λ key. subst (λ (o : Option (List ℤ)). IsPerhapsWorked kind by root o (cell_at m key) (cell_at p.0 key)) (sym (job_at-append x y key))
                (row_begun (job_at x key) (job_at y key) (cell_at m key) (cell_at p.0 key) (p.2 key)),
          );
    }
