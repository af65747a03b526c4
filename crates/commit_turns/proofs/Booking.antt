-- The coordinator's account, by weights, and each small step of it.
use Rattle.std.proofs.Common.{◌≡◌, ℕ, ◌+◌, ◌≤◌, ◌==◌, ◌&&◌, nat_lt, inl, inr, Bool, true, false, cond, None, Some, List, [], ◌∷◌, ◌++◌, refl, sym, ap, subst, ◌∙◌, arith, Option}
use Rattle.std.specs.List.{AllByRecursion}
use Rattle.std.proofs.lemmas.Bool.{cases_eq, eq-eqb, ne_eqb, and_right, le-ltb}
use Rattle.std.proofs.lemmas.Bool.Decides.{nat_tests}
use Rattle.tuple_account.specs.acker_core.declared.verdict.Verdict.{Verdict}
use Rattle.attempt_fates.specs.declared.fates.Attempt.{Attempt}
use Rattle.attempt_fates.specs.declared.fates.End.{End}
use Rattle.tuple_account.specs.counted_items.Weights.{weigh}
use Rattle.tuple_account.proofs.counted_items.Each.{each-append, each-front, each-back}
use Rattle.tuple_account.proofs.counted_items.Weighing.{weigh-append, weigh-push}
use Rattle.tuple_account.specs.storm_values.declared.value.Root.{Root}
use Rattle.tuple_account.specs.topology_plan.Topology.{Topology}
use Rattle.tuple_account.specs.tree_model.declared.messages.AckMsg.{AckMsg}
use Rattle.tuple_account.specs.Ends.{commits_by, verdicts_by, verdicts_settled}
use Rattle.tuple_account.specs.Fits.{CheckedBy, is_tried}
use Rattle.tuple_account.specs.Sound.{is_about}
use Rattle.tuple_account.specs.tuple_tickets.Roots.{root_eq}
use Rattle.commit_turns.specs.declared.wait.Wait.{Wait}
use Rattle.commit_turns.specs.Account.{ended_of, ending_of}
use Rattle.commit_turns.specs.Desks.{ended_at}
use Rattle.replay_pending.specs.InFlight.{Tries, tried, with_begun}
use Rattle.replay_pending.specs.declared.attempts.Tried.{Tried}
use Rattle.commit_turns.proofs.Tallies.{own}
use Rattle.commit_turns.proofs.Tallying.{tried-own, tried-other}

-- ---- weights

-- 1 at a root
abbrev pub is_root : Root → Root → ℕ
is_root root r = cond (root_eq r root) 1 0

-- of the verdicts that an attempt ended by, and of the one that it was settled by
abbrev pub ended_by : (Verdict → ℕ) → Attempt → ℕ
ended_by f a = weigh f (verdicts_by a.root (ending_of a.end))

abbrev pub settled_by : (Verdict → ℕ) → Wait → ℕ
settled_by f w = weigh f (verdicts_settled w.root w.settled)

-- 1 where an attempt of the transaction was committed
abbrev pub commits_at : ℕ → Attempt → ℕ
commits_at txid a = cond (a.root.txid == txid) (commits_by (ending_of a.end)) 0

-- 1 at the first transactions after the start
abbrev pub is_first : ℕ → ℕ → ℕ → ℕ
is_first start committed txid = cond (nat_lt start txid && nat_lt txid (committed + 1)) 1 0

-- nothing was heard of an attempt that is not settled
abbrev pub IsUnheard : List Verdict → Wait → Type 0
IsUnheard heard w = w.settled ≡ None → weigh (is_about w.root) heard ≡ 0

abbrev pub IsChecked : Topology → Attempt → Type 0
IsChecked t a = CheckedBy t (ended_of a) (ending_of a.end)

-- the attempts of each transaction that were begun have the numbers from 1 on, each once
abbrev pub IsNumbered : Tries → List Root → Type 0
IsNumbered tries roots = (root : Root) → weigh (is_root root) roots ≡ cond (is_tried (λ txid. (tried txid tries).begun) root) 1 0

-- Of the roots that were begun each ended or is pending; each end by a verdict has a verdict of its own that was heard.
pub record Books (t : Topology) (start committed : ℕ) (tries : Tries) (pending : List Wait) (fates : List Attempt) (roots : List Root) (heard : List Verdict) : Type 0 where
  pub begun : (f : Root → ℕ) → weigh f roots ≡ weigh (λ (a : Attempt). f a.root) fates + weigh (λ (w : Wait). f w.root) pending
  pub numbered : IsNumbered tries roots
  pub heard_all : (f : Verdict → ℕ) → weigh (ended_by f) fates + weigh (settled_by f) pending ≤ weigh f heard
  pub unheard : AllByRecursion (IsUnheard heard) pending
  pub checked : AllByRecursion (IsChecked t) fates
  pub once : (txid : ℕ) → weigh (commits_at txid) fates ≡ is_first start committed txid

weigh-split : {X : Type 0} (f : X → ℕ) (before behind : List X) (x : X) → weigh f (before ++ x ∷ behind) ≡ weigh f (before ++ behind) + f x
weigh-split f before behind x =
    let e = weigh-append f before (x ∷ behind) in
    let g = weigh-append f before behind in omega arith

-- ---- an attempt ends

module _ (t : Topology) (start committed : ℕ) (tries : Tries) (tick : ℕ) (before behind : List Wait) (w : Wait) (fates : List Attempt) (roots : List Root) (heard : List Verdict)
    (b : Books t start committed tries (before ++ w ∷ behind) fates roots heard) where
  module _ (how : End) (now : ℕ) (later : List Verdict) (had : (f : Verdict → ℕ) → weigh f (verdicts_by w.root (ending_of how)) + weigh f heard ≤ settled_by f w + weigh f later)
      (unheard : AllByRecursion (IsUnheard later) (before ++ behind)) (checked : IsChecked t (ended_at tick how w))
      (counts : (txid : ℕ) → is_first start committed txid + commits_at txid (ended_at tick how w) ≡ is_first start now txid) where
    pub books_end : Books t start now tries (before ++ behind) (fates ++ ended_at tick how w ∷ []) roots later
    books_end = record {
      begun = λ f. (let e = b.begun f in let p = weigh-push (λ (a : Attempt). f a.root) fates (ended_at tick how w) in let s = weigh-split (λ (v : Wait). f v.root) before behind w in omega arith);
      numbered = b.numbered;
      heard_all = λ f. (let e = b.heard_all f in let p = weigh-push (ended_by f) fates (ended_at tick how w) in let s = weigh-split (settled_by f) before behind w in let k = had f in omega arith);
      unheard = unheard;
      checked = each-append (IsChecked t) fates (ended_at tick how w ∷ []) b.checked (checked, tt);
      once = λ txid. (let e = b.once txid in let p = weigh-push (commits_at txid) fates (ended_at tick how w) in let k = counts txid in omega arith);
    }

  -- without a commit
  none_more : (how : End) → commits_by (ending_of how) ≡ 0 → (txid : ℕ) → is_first start committed txid + commits_at txid (ended_at tick how w) ≡ is_first start committed txid
  none_more how none txid = let e = by (w.root.txid == txid) in omega arith
    where
      by : (c : Bool) → cond c (commits_by (ending_of how)) 0 ≡ 0
      by true = none
      by false = refl

  pub unheard_beside : AllByRecursion (IsUnheard heard) (before ++ behind)
  unheard_beside =
      each-append (IsUnheard heard) before behind (each-front (IsUnheard heard) before (w ∷ behind) b.unheard) (each-back (IsUnheard heard) before (w ∷ behind) b.unheard).1

  -- and without a verdict
  pub books_fall : (how : End) → commits_by (ending_of how) ≡ 0 → ((f : Verdict → ℕ) → weigh f (verdicts_by w.root (ending_of how)) ≡ 0) → IsChecked t (ended_at tick how w)
      → Books t start committed tries (before ++ behind) (fates ++ ended_at tick how w ∷ []) roots heard
  books_fall how none silent checked = books_end how committed heard (λ f. (let s = silent f in omega arith)) unheard_beside checked (none_more how none)

  -- by a verdict that is heard now
  pub books_told : (how : End) → commits_by (ending_of how) ≡ 0 → (v : Verdict) → ((f : Verdict → ℕ) → weigh f (verdicts_by w.root (ending_of how)) ≡ f v) → IsChecked t (ended_at tick how w)
      → AllByRecursion (IsUnheard (heard ++ v ∷ [])) (before ++ behind) → Books t start committed tries (before ++ behind) (fates ++ ended_at tick how w ∷ []) roots (heard ++ v ∷ [])
  books_told how none v says checked unheard =
      books_end how committed (heard ++ v ∷ []) (λ f. (let s = says f in let p = weigh-push f heard v in omega arith)) unheard checked (none_more how none)

  one_first : start ≤ committed → (txid other : ℕ) → other ≡ committed + 1 → is_first start committed txid + own txid other ≡ is_first start (committed + 1) txid
  one_first early txid other is = grind (arith, nat_tests, early)

  one_more : start ≤ committed → (how : End) → commits_by (ending_of how) ≡ 1 → w.root.txid ≡ committed + 1 → (txid : ℕ)
      → is_first start committed txid + commits_at txid (ended_at tick how w) ≡ is_first start (committed + 1) txid
  one_more early how one is txid = ap (λ (k : ℕ). is_first start committed txid + cond (w.root.txid == txid) k 0) one ∙ one_first early txid w.root.txid is

  -- by a commit
  pub books_commit : start ≤ committed → (how : End) → commits_by (ending_of how) ≡ 1 → w.root.txid ≡ committed + 1 → ((f : Verdict → ℕ) → weigh f (verdicts_by w.root (ending_of how)) ≡ settled_by f w) → IsChecked t (ended_at tick how w)
      → Books t start (committed + 1) tries (before ++ behind) (fates ++ ended_at tick how w ∷ []) roots heard
  books_commit early how one is same checked = books_end how (committed + 1) heard (λ f. (let s = same f in omega arith)) unheard_beside checked (one_more early how one is)

  -- ---- an attempt is settled, by a verdict that is heard now

  pub books_settled : (list : List AckMsg) (v : Verdict) → ((f : Verdict → ℕ) → weigh f (verdicts_settled w.root (Some list)) ≡ f v) → AllByRecursion (IsUnheard (heard ++ v ∷ [])) (before ++ behind)
      → Books t start committed tries (before ++ record w { settled = Some list } ∷ behind) fates roots (heard ++ v ∷ [])
  books_settled list v says unheard = record {
    begun = λ f. (let e = b.begun f in let x = weigh-split (λ (u : Wait). f u.root) before behind w in let y = weigh-split (λ (u : Wait). f u.root) before behind (record w { settled = Some list }) in omega arith);
    numbered = b.numbered;
    heard_all = λ f. (let e = b.heard_all f in let x = weigh-split (settled_by f) before behind w in let y = weigh-split (settled_by f) before behind (record w { settled = Some list }) in let s = says f in let p = weigh-push f heard v in omega arith);
    unheard = each-append (IsUnheard (heard ++ v ∷ [])) before (record w { settled = Some list } ∷ behind) (each-front (IsUnheard (heard ++ v ∷ [])) before behind unheard)
        ((λ timed. absurd (never timed)), each-back (IsUnheard (heard ++ v ∷ [])) before behind unheard);
    checked = b.checked;
    once = b.once;
  }
    where
      never : Some list ≡ None → ⊥
      never e = cc

-- ---- a verdict that changes nothing

pub books_heard : (t : Topology) (start committed : ℕ) (tries : Tries) (pending : List Wait) (fates : List Attempt) (roots : List Root) (heard : List Verdict) (v : Verdict)
    → Books t start committed tries pending fates roots heard → AllByRecursion (IsUnheard (heard ++ v ∷ [])) pending → Books t start committed tries pending fates roots (heard ++ v ∷ [])
books_heard t start committed tries pending fates roots heard v b unheard = record {
  begun = b.begun;
  numbered = b.numbered;
  heard_all = λ f. (let e = b.heard_all f in let p = weigh-push f heard v in omega arith);
  unheard = unheard;
  checked = b.checked;
  once = b.once;
}

-- ---- a root begins

-- one more of the attempts that were begun
next_tried : (number tries last : ℕ) → number ≡ tries + 1
    → cond {A = ℕ} (nat_lt 0 last && nat_lt last (tries + 1)) 1 0 + cond {A = ℕ} (number == last) 1 0 ≡ cond (nat_lt 0 last && nat_lt last (number + 1)) 1 0
next_tried number tries last is = grind (arith, nat_tests)

module _ (tries : Tries) (root : Root) (next : root.attempt ≡ (tried root.txid tries).begun + 1) where
  abbrev now : Tries
  now = with_begun root.txid root.attempt tries

  abbrev counted_now : Tried
  counted_now = record { begun = root.attempt; aborted = (tried root.txid tries).aborted }

  tried_more : (r : Root) → cond {A = ℕ} (is_tried (λ txid. (tried txid tries).begun) r) 1 0 + is_root r root ≡ cond (is_tried (λ txid. (tried txid now).begun) r) 1 0
  tried_more r =
      elim (cases_eq root.txid r.txid) [
        | inl on ↦
            let before : root.attempt ≡ (tried r.txid tries).begun + 1 = subst (λ (k : ℕ). root.attempt ≡ (tried k tries).begun + 1) on next in
            let same : is_root r root ≡ cond (root.attempt == r.attempt) 1 0 = ap (λ (c : Bool). cond {A = ℕ} (c && (root.attempt == r.attempt)) 1 0) (eq-eqb root.txid r.txid on) in
            ap (λ (k : ℕ). cond {A = ℕ} (is_tried (λ txid. (tried txid tries).begun) r) 1 0 + k) same ∙ next_tried root.attempt (tried r.txid tries).begun r.attempt before
            ∙ ap (λ (k : Tried). cond {A = ℕ} (nat_lt 0 r.attempt && nat_lt r.attempt (k.begun + 1)) 1 0) (sym (tried-own tries root.txid r.txid counted_now on))
        | inr off ↦
            let other : is_root r root ≡ 0 = ap (λ (c : Bool). cond {A = ℕ} (c && (root.attempt == r.attempt)) 1 0) (ne_eqb root.txid r.txid off) in
            let stays : cond {A = ℕ} (is_tried (λ txid. (tried txid now).begun) r) 1 0 ≡ cond {A = ℕ} (is_tried (λ txid. (tried txid tries).begun) r) 1 0 =
            ap (λ (k : Tried). cond {A = ℕ} (nat_lt 0 r.attempt && nat_lt r.attempt (k.begun + 1)) 1 0) (tried-other tries root.txid r.txid counted_now off) in omega arith
      ]

  module _ (roots : List Root) (numbered : IsNumbered tries roots) where
    pub numbered_begun : IsNumbered now (roots ++ root ∷ [])
    numbered_begun r = let e = numbered r in let x = weigh-push (is_root r) roots root in let y = tried_more r in omega arith

    -- it was not begun before
    pub not_begun : weigh (is_root root) roots ≡ 0
    not_begun =
        numbered root
        ∙ ap (λ (c : Bool). cond {A = ℕ} c 1 0)
        (and_right (nat_lt 0 root.attempt) (nat_lt root.attempt ((tried root.txid tries).begun + 1)) (le-ltb root.attempt ((tried root.txid tries).begun + 1) (omega arith)))

module _ (t : Topology) (start committed : ℕ) (tries : Tries) (tick : ℕ) (pending : List Wait) (fates : List Attempt) (roots : List Root) (heard : List Verdict)
    (b : Books t start committed tries pending fates roots heard) (fresh : Wait) (timed : fresh.settled ≡ None) (next : fresh.root.attempt ≡ (tried fresh.root.txid tries).begun + 1) where
  abbrev root : Root
  root = fresh.root

  silent_one : (f : Verdict → ℕ) → settled_by f fresh ≡ 0
  silent_one f = ap (λ (s : Option (List AckMsg)). weigh f (verdicts_settled fresh.root s)) timed

  pub books_begun : weigh (is_about root) heard ≡ 0 → Books t start committed (with_begun root.txid root.attempt tries) (pending ++ fresh ∷ []) fates (roots ++ root ∷ []) heard
  books_begun silent = record {
    begun = λ f. (let e = b.begun f in let x = weigh-push f roots root in let y = weigh-push (λ (w : Wait). f w.root) pending fresh in omega arith);
    numbered = numbered_begun tries root next roots b.numbered;
    heard_all = λ f. (let e = b.heard_all f in let y = weigh-push (settled_by f) pending fresh in let z = silent_one f in omega arith);
    unheard = each-append (IsUnheard heard) pending (fresh ∷ []) b.unheard ((λ unsettled. silent), tt);
    checked = b.checked;
    once = b.once;
  }

-- ---- other counts of the same begins

pub numbered_same : (old new : Tries) → ((txid : ℕ) → (tried txid new).begun ≡ (tried txid old).begun) → (roots : List Root) → IsNumbered old roots → IsNumbered new roots
numbered_same old new same roots numbered root =
    numbered root ∙ ap (λ (k : ℕ). cond {A = ℕ} (nat_lt 0 root.attempt && nat_lt root.attempt (k + 1)) 1 0) (sym (same root.txid))

pub books_tries : (t : Topology) (start committed : ℕ) (old new : Tries) (pending : List Wait) (fates : List Attempt) (roots : List Root) (heard : List Verdict)
    → ((txid : ℕ) → (tried txid new).begun ≡ (tried txid old).begun) → Books t start committed old pending fates roots heard → Books t start committed new pending fates roots heard
books_tries t start committed old new pending fates roots heard same b = record {
  begun = b.begun;
  numbered = numbered_same old new same roots b.numbered;
  heard_all = b.heard_all;
  unheard = b.unheard;
  checked = b.checked;
  once = b.once;
}
