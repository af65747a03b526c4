-- The jobs that a commit needs, and what they make of a part.
use Rattle.std.proofs.Common.{◌≡◌, inl, ℕ, ℤ, Bool, true, false, true≢false, not, ◌&&◌, cond, List, [], ◌∷◌, Option, None, Some, MatchOption, is_some, option_map, refl, sym, ap, subst, ◌∙◌}
use Rattle.std.specs.List.{list_any}
use Rattle.std.specs.Option.{option_map_or, option_or}
use Rattle.smallvec.specs.SmallVec.{SmallVec}
use Rattle.std.specs.Str.{bytes_eq}
use Rattle.tree_model.specs.Tables.{Folding}
use Rattle.tree_model.specs.storm_values.declared.value.Root.{Root}
use Rattle.tree_model.specs.topology_plan.declared.parts.Kind.{Kind}
use Rattle.tree_model.specs.topology_plan.declared.parts.Kind.TheVariants.{Transactional, Opaque}
use Rattle.storm_stores.specs.CellMaps.{CellMap, cell_at}
use Rattle.cell_format.specs.Commits.{Commits, Holds, IsDone, IsPerhapsDone, after, again}
use Rattle.cell_format.specs.declared.cell.Cell.{Cell}
use Rattle.state_cells.specs.Known.{AreKnown, IsListedOf, keys_in}
use Rattle.state_cells.specs.Plans.{IsLeft, IsPlan}
use Rattle.state_cells.specs.Scans.{carries_of}
use Rattle.state_cells.specs.Turns.{AreApart, AreOnce, IsPerhapsWorked, IsWorked, Turns, job_at, Job}
use Rattle.state_cells.proofs.KnownLemmas.{job_listed, keys_once, not_carrier}

-- ---- what the jobs make of a key

not_carried : (by : Folding) (root : Root) (cell : Option Cell) → carries_of root.txid cell ≡ false → after Opaque by root [] cell ≡ cell
not_carried by root None is = refl
not_carried by root (Some c) is = ap (λ b. cond b (Some (again Opaque by root.attempt [] c)) (Some c)) is

done_written : (kind : Kind) (by : Folding) (root : Root) (amounts : List ℤ) (old new : Option (List ℕ)) → Commits kind by root amounts old new → IsDone kind by root amounts old new
done_written Opaque by root amounts old new commits = commits
done_written Transactional by root (a ∷ rest) old new commits = commits
done_written Transactional by root [] old new commits = commits.left

left_done : (kind : Kind) (by : Folding) (root : Root) (amounts : List ℤ) (old new : Option (List ℕ)) → IsLeft kind root.txid amounts old → new ≡ old → IsDone kind by root amounts old new
left_done Transactional by root amounts old new none same = subst (λ (xs : List ℤ). IsDone Transactional by root xs old new) (sym none) same
left_done Opaque by root amounts old new left same =
    let stays : after Opaque by root [] left.1 ≡ left.1 = not_carried by root left.1 left.3 in
    let commits : Commits Opaque by root [] old old = record { cell = left.1; was = left.2; is = subst (Holds Opaque old) (sym stays) left.2; left = tt } in
    subst (λ (xs : List ℤ). Commits Opaque by root xs old new) (sym left.0) (subst (Commits Opaque by root [] old) (sym same) commits)

worked_done : (kind : Kind) (by : Folding) (root : Root) (amounts : List ℤ) (job : Option (List ℤ)) (old new : Option (List ℕ)) → MatchOption job (IsLeft kind root.txid amounts old) (λ xs. xs ≡ amounts) → IsWorked kind by root job old new → IsDone kind by root amounts old new
worked_done kind by root amounts None old new left same = left_done kind by root amounts old new left same
worked_done kind by root amounts (Some xs) old new is commits = done_written kind by root amounts old new (subst (λ (ys : List ℤ). Commits kind by root ys old new) is commits)

perhaps_done : (kind : Kind) (by : Folding) (root : Root) (amounts : List ℤ) (job : Option (List ℤ)) (old new : Option (List ℕ)) → MatchOption job (IsLeft kind root.txid amounts old) (λ xs. xs ≡ amounts) → IsPerhapsWorked kind by root job old new → IsPerhapsDone kind by root amounts old new
perhaps_done kind by root amounts None old new left same = inl same
perhaps_done kind by root amounts (Some xs) old new is perhaps = subst (λ (ys : List ℤ). IsPerhapsDone kind by root ys old new) is perhaps

module _ {S : Type 0} (tells : S → CellMap → Type 0) (kind : Kind) (by : Folding) (root : Root) (written : List ℕ → List ℤ) (jobs : List Job) (a b c : S) (planned : (m : CellMap) → tells a m → IsPlan kind root.txid written m jobs) (same : (m : CellMap) → tells a m → tells b m) where
  pub plan_done : (AreApart jobs → Turns tells (λ key. IsWorked kind by root (job_at jobs key)) b c) → Turns tells (λ key. IsDone kind by root (written key)) a c
  plan_done works = record {
    to = λ m told.
        let plan = planned m told in
        let x = (works plan.apart).to m (same m told) in
        (x.0, x.1, λ key. worked_done kind by root (written key) (job_at jobs key) (cell_at m key) (cell_at x.0 key) (plan.at key) (x.2 key));
  }

  pub plan_broken : (AreApart jobs → Turns tells (λ key. IsPerhapsWorked kind by root (job_at jobs key)) b c) → Turns tells (λ key. IsPerhapsDone kind by root (written key)) a c
  plan_broken works = record {
    to = λ m told.
        let plan = planned m told in
        let x = (works plan.apart).to m (same m told) in
        (x.0, x.1, λ key. perhaps_done kind by root (written key) (job_at jobs key) (cell_at m key) (cell_at x.0 key) (plan.at key) (x.2 key));
  }

-- where nothing was done yet
pub nothing_done : {S : Type 0} (tells : S → CellMap → Type 0) (kind : Kind) (by : Folding) (root : Root) (written : List ℕ → List ℤ) (a b : S) → ((m : CellMap) → tells a m → tells b m) → Turns tells (λ key. IsPerhapsDone kind by root (written key)) a b
nothing_done tells kind by root written a b same = record { to = λ m told. (m, same m told, λ key. inl refl) }

-- ---- the plans

abbrev Amounts : Type 0
Amounts = SmallVec ℤ

written_row : (txid : ℕ) (amounts : List ℤ) (held : Option (List ℕ)) (group : Option Amounts) → option_map_or (λ (xs : Amounts). xs.items) group [] ≡ amounts
    → MatchOption (option_map (λ (xs : Amounts). xs.items) group) (IsLeft Transactional txid amounts held) (λ xs. xs ≡ amounts)
written_row txid amounts held None is = sym is
written_row txid amounts held (Some xs) is = is

all_row : (txid : ℕ) (amounts : List ℤ) (held : Option (List ℕ)) (group : Option Amounts) (listed : Bool) → option_map_or (λ (xs : Amounts). xs.items) group [] ≡ amounts
    → (listed ≡ false → (cell : Option Cell) × Holds Opaque held cell × (carries_of txid cell ≡ false))
    → MatchOption (option_or (option_map (λ (xs : Amounts). xs.items) group) (cond (listed && not (is_some group)) (Some []) None)) (IsLeft Opaque txid amounts held) (λ xs. xs ≡ amounts)
all_row txid amounts held (Some xs) listed is left = is
all_row txid amounts held None true is left = is
all_row txid amounts held None false is left = let x = left refl in (sym is, x.0, x.1, x.2)

-- what is written for a key by its group, if it has one
abbrev written_by : (List ℕ → Option Amounts) → List ℕ → List ℤ
written_by groups key = option_map_or (λ (xs : Amounts). xs.items) (groups key) []

pub plan_of_written : (txid : ℕ) (cells : CellMap) (jobs : List Job) (groups : List ℕ → Option Amounts) → AreApart jobs → ((key : List ℕ) → job_at jobs key ≡ option_map (λ (xs : Amounts). xs.items) (groups key))
    → IsPlan Transactional txid (λ key. option_map_or (λ (xs : Amounts). xs.items) (groups key) []) cells jobs
plan_of_written txid cells jobs groups apart at = record {
  apart = apart;
  at = λ key. subst (λ (job : Option (List ℤ)). MatchOption job (IsLeft Transactional txid (written_by groups key) (cell_at cells key)) (λ xs. xs ≡ written_by groups key)) (sym (at key)) (written_row txid (written_by groups key) (cell_at cells key) (groups key) refl);
}

pub plan_of_all : (txid : ℕ) (newest : Bool) (cells : CellMap) (jobs : List Job) (keys : List (List ℕ)) (groups : List ℕ → Option Amounts) → (AreOnce keys → AreApart jobs)
    → ((key : List ℕ) → job_at jobs key ≡ option_or (option_map (λ (xs : Amounts). xs.items) (groups key)) (cond (list_any (bytes_eq key) keys && not (is_some (groups key))) (Some []) None))
    → AreKnown txid newest keys cells → IsPlan Opaque txid (λ key. option_map_or (λ (xs : Amounts). xs.items) (groups key) []) cells jobs
plan_of_all txid newest cells jobs keys groups apart at known = record {
  apart = apart known.once;
  at = λ key. subst (λ (job : Option (List ℤ)). MatchOption job (IsLeft Opaque txid (written_by groups key) (cell_at cells key)) (λ xs. xs ≡ written_by groups key)) (sym (at key))
      (all_row txid (written_by groups key) (cell_at cells key) (groups key) (list_any (bytes_eq key) keys) refl
      (λ none. ((known.at key).cell, (known.at key).holds, not_carrier txid keys key (known.at key).cell (known.at key).listed none)));
}

-- each key of the transaction has a job
job_there : (group : Option Amounts) (listed : Bool) (o : Option (List ℤ)) → listed ≡ true → o ≡ option_or (option_map (λ (xs : Amounts). xs.items) group) (cond (listed && not (is_some group)) (Some []) None) → is_some o ≡ true
job_there (Some xs) listed o is made = ap is_some made
job_there None true o is made = ap is_some made
job_there None false o is made = absurd (true≢false (sym is))

pub known_by_jobs : (txid : ℕ) (newest : Bool) (cells : CellMap) (jobs : List Job) (keys : List (List ℕ)) (groups : List ℕ → Option Amounts) → (AreOnce keys → AreApart jobs)
    → ((key : List ℕ) → job_at jobs key ≡ option_or (option_map (λ (xs : Amounts). xs.items) (groups key)) (cond (list_any (bytes_eq key) keys && not (is_some (groups key))) (Some []) None))
    → AreKnown txid newest keys cells → AreKnown txid newest (keys_in jobs) cells
known_by_jobs txid newest cells jobs keys groups apart at known = record {
  once = keys_once jobs (apart known.once);
  at = λ key. let x = known.at key in record {
    cell = x.cell;
    holds = x.holds;
    listed = more x.cell key x.listed;
    within = x.within;
  };
}
  where
    more : (cell : Option Cell) (key : List ℕ) → IsListedOf txid keys key cell → IsListedOf txid (keys_in jobs) key cell
    more None key listed = tt
    more (Some c) key listed = λ is. job_listed jobs key ∙ job_there (groups key) (list_any (bytes_eq key) keys) (job_at jobs key) (listed is) (at key)
