-- Each step of a pair keeps its rule.
use Rattle.std.proofs.Common.{◌≡◌, ◌≢◌, ℕ, fold, List, [], ◌∷◌, ◌++◌, map, take, length, set, Result, Ok, Err, MatchResult, sym, refl, ap, subst, ◌∙◌, ⊎_elim}
use mathlib.Core.Option.{some, some-ne-none}
use lib.ListN.{get_elem?}
use Rattle.crossbeam_utils.specs.Register.{Admits, TurnsAt, Forks, Merges}
use Rattle.atomic_table.proofs.Lists.{at_set, at_snoc}
use Rattle.state_reader.specs.declared.change.Change.{Change}
use Rattle.state_reader.specs.declared.change.Change.TheVariants as change
use Rattle.state_reader.specs.declared.store.Store.{Store}
use Rattle.state_reader.specs.declared.view.View.{View}
use Rattle.state_reader.specs.Commits.{Commit, changes_of}
use Rattle.state_reader.specs.Views.{Begins, newcomer, informed}
use Rattle.state_reader.specs.Rule.{Fits, AllFit, Keeps, Shows}
use Rattle.state_reader.proofs.Commits.{append_assoc, changes_more, same_commits, absorbed, later_commits}

-- ---- beginnings

all_begin : (all : List Commit) → Begins [] all
all_begin all = (all, refl)

pub whole_begins : (all : List Commit) → Begins all all
whole_begins all = ([], sym (append_nil all))
  where
    append_nil : (xs : List Commit) → xs ++ [] ≡ xs
    append_nil [] = refl
    append_nil (x ∷ xs) = ap (λ r. x ∷ r) (append_nil xs)

longer : (seen all : List Commit) (more : List Commit) → Begins seen all → Begins seen (all ++ more)
longer seen all more b = (b.0 ++ more, ap (λ r. r ++ more) b.1 ∙ append_assoc seen b.0 more)

fits_longer : (all more : List Commit) (v : View) → Fits all v → Fits (all ++ more) v
fits_longer all more v f = (longer v.seen all more f.0, longer v.told all more f.1)

nothing_fits : (all : List Commit) → Fits all newcomer
nothing_fits all = (all_begin all, all_begin all)

-- ---- views

fit_set : (all : List Commit) (views : List View) (seat : ℕ) (w : View) → AllFit all views → Fits all w → AllFit all (set views seat w)
fit_set all views seat w fit fits j u e = ⊎_elim (λ (t : (j ≡ seat) × (w ≡ u)). subst (Fits all) t.1 fits) (λ (t : (j ≢ seat) × (get_elem? views j ≡ some u)). fit j u t.1) (at_set views seat j w u e)

fit_more : (all : List Commit) (views : List View) (w : View) → AllFit all views → Fits all w → AllFit all (views ++ w ∷ [])
fit_more all views w fit fits j u e = ⊎_elim (fit j u) (λ (same : w ≡ u). subst (Fits all) same fits) (at_snoc views w u j e)

-- ---- steps

pub admits : Admits Keeps newcomer
admits x views h = (h.0, h.1, fit_more h.0 views newcomer h.2 (nothing_fits h.0))

-- the store has some more commits, or none
shows : (seat : ℕ) (v : View) (x y : Store) (more : List Commit) → ((all : List Commit) → x.log.items ≡ changes_of all → y.log.items ≡ changes_of (all ++ more)) → TurnsAt Keeps seat v x y Shows
shows seat v x y more grown views h at =
    let all : List Commit = h.0 in
    let next : List Commit = all ++ more in
    let w : View = record { seen = next; told = v.told } in
    let log : y.log.items ≡ changes_of next = grown all h.1 in
    let mine = fits_longer all more v (h.2 seat v at) in
    (w, (next, log, fit_set next views seat w (λ j u e. fits_longer all more u (h.2 j u e)) (whole_begins next, mine.1)), (mine.0, mine.1, refl, log))

pub sees : (seat : ℕ) (v : View) (x : Store) → TurnsAt Keeps seat v x x Shows
unfolding whole_begins
sees seat v x = shows seat v x x [] (λ all is. is ∙ ap changes_of (whole_begins all).1)

pub publishes : (seat : ℕ) (v : View) (x y : Store) (c : Commit) → y.log.items ≡ x.log.items ++ (map change.Write c ++ change.End ∷ []) → TurnsAt Keeps seat v x y Shows
publishes seat v x y c is = shows seat v x y (c ∷ []) (λ all was. is ∙ ap (λ (l : List Change). l ++ (map change.Write c ++ change.End ∷ [])) was ∙ sym (changes_more all c))

pub forks : (seat : ℕ) (v : View) → Forks Keeps seat v v v
forks seat v x views h at =
    let fits = h.2 seat v at in (h.0, h.1, fit_more h.0 (set views seat v) v (fit_set h.0 views seat v h.2 fits) fits)

pub merges : (seat : ℕ) (v : View) (other : ℕ) (w : View) → Merges Keeps seat v other w (informed v w) newcomer
merges seat v other w x views h at apart there =
    let mine = h.2 seat v at in
    let theirs : Fits h.0 w = ⊎_elim (λ (t : (other ≡ seat) × (informed v w ≡ w)). absurd (apart t.0)) (λ (t : (other ≢ seat) × (get_elem? views other ≡ some w)). h.2 other w t.1) (at_set views seat other (informed v w) w there) in
    (h.0, h.1, fit_set h.0 (set views seat (informed v w)) other newcomer (fit_set h.0 views seat (informed v w) h.2 (mine.0, theirs.0)) (nothing_fits h.0))

-- ---- what a publish returns

-- the store that is shown then has one more commit
pub published : (v w : View) (x y : Store) (c : Commit) → x.log.items ≡ changes_of v.seen → y.log.items ≡ x.log.items ++ (map change.Write c ++ change.End ∷ []) → Shows v x y w → w.seen ≡ v.seen ++ c ∷ []
published v w x y c was is shown =
    same_commits w.seen (v.seen ++ c ∷ []) (sym shown.3 ∙ is ∙ ap (λ (l : List Change). l ++ (map change.Write c ++ change.End ∷ [])) was ∙ sym (changes_more v.seen c))

-- the changes of a commit that were made pending
pub made_pending : (old new : List Change) (commit : Commit) → new ≡ old ++ map change.Write commit ++ change.End ∷ [] → old ≡ [] → new ≡ map change.Write commit ++ change.End ∷ []
made_pending old new commit is none = is ∙ ap (λ (l : List Change). l ++ map change.Write commit ++ change.End ∷ []) none

abbrev pub absorb_all : List Change → List Change → List Change
absorb_all = fold (λ (xs : List Change) x. xs ++ x ∷ [])

module _ {E : Type 0} (v w : View) (x y : Store) (ops left : List Change) (c : Commit) (base : List Commit) (from : v.seen ≡ base) (was : x.log.items ≡ changes_of v.seen) (pending : ops ≡ map change.Write c ++ change.End ∷ []) where
  pub after_publish : (r : Result (Unit {0}) E) → MatchResult r (λ _. (y.log.items ≡ absorb_all x.log.items ops) × (left ≡ [])) (λ _. (y ≡ x) × (left ≡ ops)) → MatchResult r (λ _. Shows v x y w) (λ _. w ≡ v)
      → MatchResult r (λ _. ((y.log.items ≡ changes_of w.seen) × (left ≡ [])) × (w.seen ≡ base ++ c ∷ [])) (λ _. (w.seen ≡ base) × (y.log.items ≡ changes_of w.seen))
  after_publish (Ok u) values rule =
      ((rule.3, values.1), published v w x y c was (values.0 ∙ absorbed x.log.items ops ∙ ap (λ (l : List Change). x.log.items ++ l) pending) rule ∙ ap (λ (seen : List Commit). seen ++ c ∷ []) from)
  after_publish (Err e) values rule =
      (ap (λ (u : View). u.seen) rule ∙ from, ap (λ (s : Store). s.log.items) values.0 ∙ was ∙ ap (λ (u : View). changes_of u.seen) (sym rule))

-- a store without commits
pub opens : (x : Store) → x.log.items ≡ [] → Keeps x (newcomer ∷ [])
opens x none = ([], none, fit_more [] [] newcomer (λ j u e. absurd (some-ne-none u (sym e))) (nothing_fits []))

-- ---- what two reads show

pub begins_trans : (a b c : List Commit) → Begins a b → Begins b c → Begins a c
begins_trans a b c f s = (f.0 ++ s.0, s.1 ∙ ap (λ r. r ++ s.0) f.1 ∙ append_assoc a f.0 s.0)

pub later_store : (old seen now : List Commit) (a x b y : Store) → Begins old seen → x.log.items ≡ changes_of seen → y.log.items ≡ changes_of now → a ≡ x → b ≡ y → take (length a.log.items) b.log.items ≡ a.log.items → Begins old now
later_store old seen now a x b y before first second is_x is_y begins =
    begins_trans old seen now before (later_commits seen now a.log.items b.log.items (ap (λ (s : Store). s.log.items) is_x ∙ first) (ap (λ (s : Store). s.log.items) is_y ∙ second) begins)
