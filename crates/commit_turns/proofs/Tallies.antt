-- How many attempts of a transaction are pending.
use Rattle.std.proofs.Common.{◌≡◌, ◌≢◌, ℕ, ◌+◌, ◌≤◌, ◌==◌, ◌||◌, not, Bool, true, false, cond, Some, List, [], ◌∷◌, ◌++◌, refl, sym, ap, subst, ◌∙◌, arith, eqb-true, eq-eqb}
use Rattle.std.specs.Cmp.{nat_eq_equiv}
use Rattle.std.specs.List.{AllPairs, AllByRecursion}
use Rattle.std.proofs.lemmas.Bool.{false_from_ne_true}
use Rattle.std.proofs.lemmas.List.{map-append}
use Rattle.std.proofs.lemmas.List.Elements.{filter-append}
use Rattle.tuple_account.specs.counted_items.Weights.{weigh}
use Rattle.tuple_account.proofs.counted_items.Each.{each-front, each-back}
use Rattle.tuple_account.proofs.counted_items.Weighing.{weigh-append}
use Rattle.tuple_account.specs.rotating_ledger.Held.{root_eq}
use Rattle.tuple_account.proofs.rotating_ledger.RootLemmas.{root_eq-refl, root_eq-same}
use Rattle.tuple_account.specs.storm_values.declared.value.Root.{Root}
use Rattle.tuple_account.specs.tree_model.declared.messages.AckMsg.{AckMsg}
use Rattle.commit_turns.specs.declared.wait.Wait.{Wait}
use Rattle.commit_turns.specs.Desks.{has_txid, is_of_root, settle_with, settled, without}
use Rattle.commit_turns.proofs.Lists.{Pairs, pairs_of, of_pairs}

-- 1 where a transaction is this one
abbrev pub own : ℕ → ℕ → ℕ
own txid other = cond (other == txid) 1 0

pub own-itself : (txid other : ℕ) → other ≡ txid → own txid other ≡ 1
own-itself txid other same = ap (λ (b : Bool). cond {A = ℕ} b 1 0) (eq-eqb other txid same)

pub own-other : (txid other : ℕ) → other ≢ txid → own txid other ≡ 0
own-other txid other differ = ap (λ (b : Bool). cond {A = ℕ} b 1 0) (false_from_ne_true (other == txid) (λ on. differ (eqb-true other txid on)))

pub own-few : (txid other : ℕ) → own txid other ≤ 1
own-few txid other = by (other == txid)
  where
    by : (b : Bool) → cond {A = ℕ} b 1 0 ≤ 1
    by true = omega arith
    by false = omega arith

pub own-none : (txid other : ℕ) → own txid other ≡ 0 → other ≢ txid
own-none txid other none same = absurd (omega (arith, own-itself txid other same))

-- how many of the attempts are of a transaction
abbrev pub tally : ℕ → List Wait → ℕ
tally txid ws = weigh (λ (w : Wait). own txid w.root.txid) ws

-- those on both sides of one
pub tally-split : (txid : ℕ) (before behind : List Wait) (w : Wait)
    → tally txid (before ++ w ∷ behind) ≡ own txid w.root.txid + tally txid (before ++ behind)
tally-split txid before behind w =
    let e = weigh-append (λ (v : Wait). own txid v.root.txid) before (w ∷ behind) in
    let f = weigh-append (λ (v : Wait). own txid v.root.txid) before behind in omega arith

pub others : (txid : ℕ) (ws : List Wait) → tally txid ws ≡ 0 → AllByRecursion (λ (w : Wait). w.root.txid ≢ txid) ws
others txid [] none = tt
others txid (w ∷ ws) none = (own-none txid w.root.txid (omega arith), others txid ws (omega arith))

pub none-of : (txid : ℕ) (ws : List Wait) → AllByRecursion (λ (w : Wait). w.root.txid ≢ txid) ws → tally txid ws ≡ 0
none-of txid [] all = refl
none-of txid (w ∷ ws) all = let a = own-other txid w.root.txid all.0 in let b = none-of txid ws all.1 in omega arith

-- ---- in the words of the desk

swapped : (a b : ℕ) → (a == b) ≡ (b == a)
swapped a b = nat_eq_equiv.symm a b

-- whether one is pending, as a number
pub has-tally : (txid : ℕ) (ws : List Wait) → tally txid ws ≤ 1 → cond (has_txid txid ws) 1 0 ≡ tally txid ws
has-tally txid [] few = refl
has-tally txid (w ∷ ws) few = by (txid == w.root.txid) refl (λ less. has-tally txid ws less)
  where
    by : (b : Bool) → (txid == w.root.txid) ≡ b → (tally txid ws ≤ 1 → cond (has_txid txid ws) 1 0 ≡ tally txid ws)
        → cond (has_txid txid (w ∷ ws)) 1 0 ≡ tally txid (w ∷ ws)
    by true on later =
        let one = own-itself txid w.root.txid (sym (eqb-true txid w.root.txid on)) in
        let e : cond {A = ℕ} (has_txid txid (w ∷ ws)) 1 0 ≡ 1 = ap (λ (c : Bool). cond {A = ℕ} (c || has_txid txid ws) 1 0) on in omega arith
    by false off later =
        let zero_own : own txid w.root.txid ≡ 0 = ap (λ (c : Bool). cond {A = ℕ} c 1 0) (swapped w.root.txid txid ∙ off) in
        let e : cond {A = ℕ} (has_txid txid (w ∷ ws)) 1 0 ≡ cond {A = ℕ} (has_txid txid ws) 1 0 = ap (λ (c : Bool). cond {A = ℕ} (c || has_txid txid ws) 1 0) off in
        let rest = later (omega arith) in omega arith

pub none-has : (txid : ℕ) (ws : List Wait) → tally txid ws ≡ 0 → has_txid txid ws ≡ false
none-has txid ws none = by (has_txid txid ws) refl
  where
    by : (b : Bool) → has_txid txid ws ≡ b → has_txid txid ws ≡ false
    by false off = off
    by true on =
        let e : cond {A = ℕ} (has_txid txid ws) 1 0 ≡ 1 = ap (λ (c : Bool). cond {A = ℕ} c 1 0) on in
        absurd (omega (arith, has-tally txid ws (omega arith)))

pub has-none : (txid : ℕ) (ws : List Wait) → tally txid ws ≤ 1 → has_txid txid ws ≡ false → tally txid ws ≡ 0
has-none txid ws few off = sym (has-tally txid ws few) ∙ ap (λ (c : Bool). cond {A = ℕ} c 1 0) off

-- no two are of one transaction
abbrev Apart : Wait → Wait → Type 0
Apart a b = a.root.txid ≢ b.root.txid

pub few-of-apart : (ws : List Wait) → AllPairs Apart ws → (txid : ℕ) → tally txid ws ≤ 1
few-of-apart ws apart txid = by ws (pairs_of Apart ws apart)
  where
    turned : (w : Wait) (vs : List Wait) → AllByRecursion (Apart w) vs → AllByRecursion (λ (v : Wait). v.root.txid ≢ w.root.txid) vs
    turned w [] all = tt
    turned w (v ∷ vs) all = ((λ same. all.0 (sym same)), turned w vs all.1)

    by : (vs : List Wait) → Pairs Apart vs → tally txid vs ≤ 1
    by [] all = omega arith
    by (w ∷ vs) all = here (w.root.txid == txid) refl (by vs all.1)
      where
        here : (b : Bool) → (w.root.txid == txid) ≡ b → tally txid vs ≤ 1 → tally txid (w ∷ vs) ≤ 1
        here true on rest =
            let none : tally w.root.txid vs ≡ 0 = none-of w.root.txid vs (turned w vs all.0) in
            let same : tally txid vs ≡ 0 = subst (λ (n : ℕ). tally n vs ≡ 0) (eqb-true w.root.txid txid on) none in
            let o = own-few txid w.root.txid in omega arith
        here false off rest = let o : own txid w.root.txid ≡ 0 = ap (λ (c : Bool). cond {A = ℕ} c 1 0) off in omega arith

pub apart-of-few : (ws : List Wait) → ((txid : ℕ) → tally txid ws ≤ 1) → AllPairs Apart ws
apart-of-few ws few = of_pairs Apart ws (by ws few)
  where
    turned : (w : Wait) (vs : List Wait) → AllByRecursion (λ (v : Wait). v.root.txid ≢ w.root.txid) vs → AllByRecursion (Apart w) vs
    turned w [] all = tt
    turned w (v ∷ vs) all = ((λ same. all.0 (sym same)), turned w vs all.1)

    by : (vs : List Wait) → ((txid : ℕ) → tally txid vs ≤ 1) → Pairs Apart vs
    by [] less = tt
    by (w ∷ vs) less = (
      turned w vs (others w.root.txid vs (let l = less w.root.txid in let o = own-itself w.root.txid w.root.txid refl in omega arith)),
      by vs (λ txid. let l = less txid in omega arith),
    )

-- ---- an attempt that leaves, or is settled

root_eq-txid : (a b : Root) → root_eq a b ≡ true → b.txid ≡ a.txid
root_eq-txid a b same = ap (λ (r : Root). r.txid) (sym (root_eq-same a b same))

pub other-root : (a b : Root) → b.txid ≢ a.txid → root_eq a b ≡ false
other-root a b differ = false_from_ne_true (root_eq a b) (λ same. differ (root_eq-txid a b same))

without-other : (root : Root) (ws : List Wait) → AllByRecursion (λ (w : Wait). w.root.txid ≢ root.txid) ws → without root ws ≡ ws
without-other root [] all = refl
without-other root (w ∷ ws) all =
    ap (λ (b : Bool). cond (not b) (w ∷ without root ws) (without root ws)) (other-root root w.root all.0)
    ∙ ap (λ (vs : List Wait). w ∷ vs) (without-other root ws all.1)

settled-other : (root : Root) (list : List AckMsg) (ws : List Wait) → AllByRecursion (λ (w : Wait). w.root.txid ≢ root.txid) ws
    → settled root list ws ≡ ws
settled-other root list [] all = refl
settled-other root list (w ∷ ws) all = λ i. here i ∷ settled-other root list ws all.1 i
  where
    here : settle_with root list w ≡ w
    here = ap (λ (b : Bool). cond b (record w { settled = Some list }) w) (other-root root w.root all.0)

module _ (before behind : List Wait) (w : Wait) (few : (txid : ℕ) → tally txid (before ++ w ∷ behind) ≤ 1) where
  -- the others are of other transactions
  pub none-beside : tally w.root.txid (before ++ behind) ≡ 0
  none-beside =
      let f = few w.root.txid in
      let s = tally-split w.root.txid before behind w in
      let o = own-itself w.root.txid w.root.txid refl in omega arith

  pub others-beside : AllByRecursion (λ (v : Wait). v.root.txid ≢ w.root.txid) (before ++ behind)
  others-beside = others w.root.txid (before ++ behind) none-beside

  others-before : AllByRecursion (λ (v : Wait). v.root.txid ≢ w.root.txid) before
  others-before = each-front (λ (v : Wait). v.root.txid ≢ w.root.txid) before behind others-beside

  others-behind : AllByRecursion (λ (v : Wait). v.root.txid ≢ w.root.txid) behind
  others-behind = each-back (λ (v : Wait). v.root.txid ≢ w.root.txid) before behind others-beside

  pub without-split : without w.root (before ++ w ∷ behind) ≡ before ++ behind
  without-split =
      filter-append (λ (v : Wait). not (is_of_root w.root v)) before (w ∷ behind)
      ∙ (λ i. without-other w.root before others-before i ++ here i)
    where
      here : without w.root (w ∷ behind) ≡ behind
      here = ap (λ (b : Bool). cond (not b) (w ∷ without w.root behind) (without w.root behind)) (root_eq-refl w.root) ∙ without-other w.root behind others-behind

  pub settled-split : (list : List AckMsg) → settled w.root list (before ++ w ∷ behind) ≡ before ++ record w { settled = Some list } ∷ behind
  settled-split list =
      map-append (settle_with w.root list) before (w ∷ behind)
      ∙ (λ i. settled-other w.root list before others-before i ++ here i ∷ settled-other w.root list behind others-behind i)
    where
      here : settle_with w.root list w ≡ record w { settled = Some list }
      here = ap (λ (b : Bool). cond b (record w { settled = Some list }) w) (root_eq-refl w.root)
