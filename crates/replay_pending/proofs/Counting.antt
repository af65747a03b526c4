-- How many attempts of a transaction were begun, aborted and are pending.
use Rattle.std.proofs.Common.{◌≡◌, ℕ, ◌+◌, ◌≤◌, ◌<◌, ◌==◌, not, Bool, true, false, cond, ◌||◌, Some, List, [], ◌∷◌, ◌++◌, length, filter, refl, sym, ap, subst, ◌∙◌, arith, eqb-true, eq-eqb}
use Rattle.std.specs.Cmp.{nat_cmp_total, unsigned_tied}
use Rattle.std.specs.FinMap as fin_map
use Rattle.std.specs.FinMap.{get-empty, get-insert}
use Rattle.std.specs.List.{count_by}
use Rattle.std.specs.Ordering.{nat_cmp}
use Rattle.std.specs.Prelude.{unwrap_or}
use Rattle.std.proofs.lemmas.List.Sums.{sum_by-cons, sum_by_push}
use Rattle.record_spans.specs.declared.span.Span.{Span}
use Rattle.storm_values.specs.declared.value.Root.{Root}
use Rattle.rotating_ledger.specs.Held.{root_eq}
use Rattle.rotating_ledger.proofs.RootLemmas.{root_eq-same}
use Rattle.replay_pending.specs.declared.attempts.Tried.{Tried}
use Rattle.replay_pending.specs.declared.entry.Entry.{Entry}
use Rattle.replay_pending.specs.InFlight.{AreCounted, AreKept, Tries, counted, ended, fresh, has_txid, is_of_root, is_of_txid, is_pending, settle_with, settled, tried, txids_of, with_aborted, with_begun}
use Rattle.replay_pending.proofs.Lists.{few-begun, few-filter, few-settled, settled-root, true_false}

-- ---- the table of counts

pub tried-empty : (txid : ℕ) → tried txid fin_map.empty ≡ record { begun = 0; aborted = 0 }
tried-empty txid = ap (λ o. unwrap_or o (record { begun = 0; aborted = 0 })) (get-empty nat_cmp txid)

pub tried-insert : (tries : Tries) (k : ℕ) (v : Tried) (txid : ℕ) → tried txid (fin_map.insert tries k v) ≡ cond (txid == k) v (tried txid tries)
tried-insert tries k v txid =
    ap (λ o. unwrap_or o none) (get-insert nat_cmp_total tries k v txid)
    ∙ ap (λ (b : Bool). unwrap_or (cond b (Some v) (fin_map.get tries txid)) none) (unsigned_tied txid k)
    ∙ by (txid == k)
  where
    none : Tried
    none = record { begun = 0; aborted = 0 }

    by : (b : Bool) → unwrap_or (cond b (Some v) (fin_map.get tries txid)) none ≡ cond b v (unwrap_or (fin_map.get tries txid) none)
    by true = refl
    by false = refl

-- 1 where a transaction is this one
abbrev pub one_of : ℕ → ℕ → ℕ
one_of txid k = cond (txid == k) 1 0

-- one more aborted
pub tried-aborted : (tries : Tries) (k txid : ℕ)
    → ((tried txid (with_aborted k tries)).begun ≡ (tried txid tries).begun)
    × ((tried txid (with_aborted k tries)).aborted ≡ (tried txid tries).aborted + one_of txid k)
tried-aborted tries k txid = by (txid == k) refl
  where
    more : Tried
    more = record { begun = (tried k tries).begun; aborted = (tried k tries).aborted + 1 }

    by : (b : Bool) → (txid == k) ≡ b
        → ((tried txid (fin_map.insert tries k more)).begun ≡ (tried txid tries).begun)
        × ((tried txid (fin_map.insert tries k more)).aborted ≡ (tried txid tries).aborted + one_of txid k)
    by true on =
        let at : tried txid (fin_map.insert tries k more) ≡ more = tried-insert tries k more txid ∙ ap (λ (b : Bool). cond b more (tried txid tries)) on in
        let same : k ≡ txid = sym (eqb-true txid k on) in
        let one : one_of txid k ≡ 1 = ap (λ (b : Bool). cond {A = ℕ} b 1 0) on in (
          ap (λ (t : Tried). t.begun) at ∙ ap (λ n. (tried n tries).begun) same,
          ap (λ (t : Tried). t.aborted) at ∙ ap (λ n. (tried n tries).aborted + 1) same ∙ ap (λ n. (tried txid tries).aborted + n) (sym one),
        )
    by false off =
        let at : tried txid (fin_map.insert tries k more) ≡ tried txid tries =
        tried-insert tries k more txid ∙ ap (λ (b : Bool). cond b more (tried txid tries)) off in
        let none : one_of txid k ≡ 0 = ap (λ (b : Bool). cond {A = ℕ} b 1 0) off in
        let aborts : (tried txid (fin_map.insert tries k more)).aborted ≡ (tried txid tries).aborted = ap (λ (t : Tried). t.aborted) at in
        (ap (λ (t : Tried). t.begun) at, omega arith)

-- one more of each of these aborted
pub tried-counted : (txids : List ℕ) (tries : Tries) (txid : ℕ)
    → ((tried txid (counted txids tries)).begun ≡ (tried txid tries).begun)
    × ((tried txid (counted txids tries)).aborted ≡ (tried txid tries).aborted + count_by (λ k. txid == k) txids)
tried-counted [] tries txid = (refl, omega arith)
tried-counted (k ∷ ks) tries txid =
    let one = tried-aborted tries k txid in
    let rest = tried-counted ks (with_aborted k tries) txid in
    let more : count_by (λ n. txid == n) (k ∷ ks) ≡ one_of txid k + count_by (λ n. txid == n) ks = sum_by-cons (λ n. one_of txid n) k ks in
    (rest.0 ∙ one.0, rest.1 ∙ ap (λ n. n + count_by (λ m. txid == m) ks) one.1 ∙ joined (tried txid tries).aborted (one_of txid k) _ _ more)
  where
    joined : (a b c d : ℕ) → d ≡ b + c → a + b + c ≡ a + d
    joined a b c d is = omega arith

-- ---- lists of attempts

count-filter : {X : Type 0} (P Q : X → Bool) (xs : List X) → count_by Q (filter P xs) + count_by Q (filter (λ (x : X). not (P x)) xs) ≡ count_by Q xs
count-filter P Q [] = refl
count-filter {X} P Q (x ∷ xs) = by (P x) (count-filter P Q xs) (sum_by-cons (λ y. cond (Q y) 1 0) x xs)
  where
    kept : List X
    kept = filter P xs

    left : List X
    left = filter (λ (y : X). not (P y)) xs

    by : (b : Bool) → count_by Q kept + count_by Q left ≡ count_by Q xs → count_by Q (x ∷ xs) ≡ cond (Q x) 1 0 + count_by Q xs
        → count_by Q (cond b (x ∷ kept) kept) + count_by Q (cond (not b) (x ∷ left) left) ≡ count_by Q (x ∷ xs)
    by true rest all =
        let more : count_by Q (x ∷ kept) ≡ cond (Q x) 1 0 + count_by Q kept = sum_by-cons (λ y. cond (Q y) 1 0) x kept in omega arith
    by false rest all =
        let more : count_by Q (x ∷ left) ≡ cond (Q x) 1 0 + count_by Q left = sum_by-cons (λ y. cond (Q y) 1 0) x left in omega arith

count-fewer : {X : Type 0} (P Q : X → Bool) (xs : List X) → count_by Q (filter P xs) ≤ count_by Q xs
count-fewer P Q xs = let all = count-filter P Q xs in omega arith

module _ {L : Type 0} where
  -- how many are pending
  abbrev waiting : ℕ → List (Entry L) → ℕ
  waiting txid es = count_by (is_of_txid txid) es

  waiting-cons : (txid : ℕ) (e : Entry L) (es : List (Entry L)) → waiting txid (e ∷ es) ≡ one_of txid e.root.txid + waiting txid es
  waiting-cons txid e es = sum_by-cons (λ (v : Entry L). one_of txid v.root.txid) e es

  waiting-txids : (txid : ℕ) (es : List (Entry L)) → count_by (λ k. txid == k) (txids_of es) ≡ waiting txid es
  waiting-txids txid [] = refl
  waiting-txids txid (e ∷ es) =
      sum_by-cons (λ n. one_of txid n) e.root.txid (txids_of es) ∙ ap (λ n. one_of txid e.root.txid + n) (waiting-txids txid es)
      ∙ sym (waiting-cons txid e es)

  waiting-settled : (txid : ℕ) (root : Root) (list : L) (es : List (Entry L)) → waiting txid (settled root list es) ≡ waiting txid es
  waiting-settled txid root list [] = refl
  waiting-settled txid root list (e ∷ es) =
      waiting-cons txid (settle_with root list e) (settled root list es)
      ∙ ap (λ (r : Root). one_of txid r.txid + waiting txid (settled root list es)) (settled-root root list e)
      ∙ ap (λ n. one_of txid e.root.txid + n) (waiting-settled txid root list es) ∙ sym (waiting-cons txid e es)

  -- one that is pending leaves
  waiting-ended : (txid : ℕ) (root : Root) (es : List (Entry L)) → is_pending root es ≡ true
      → one_of txid root.txid + waiting txid (ended root es) ≤ waiting txid es
  waiting-ended txid root [] there = absurd (true_false (sym there))
  waiting-ended txid root (e ∷ es) there = by (root_eq root e.root) refl there (waiting-cons txid e es) (λ later. waiting-ended txid root es later)
    where
      left : List (Entry L)
      left = ended root es

      by : (b : Bool) → root_eq root e.root ≡ b → (b || is_pending root es) ≡ true → waiting txid (e ∷ es) ≡ one_of txid e.root.txid + waiting txid es
          → (is_pending root es ≡ true → one_of txid root.txid + waiting txid left ≤ waiting txid es)
          → one_of txid root.txid + waiting txid (cond (not b) (e ∷ left) left) ≤ waiting txid (e ∷ es)
      by true is on all later =
          let same : one_of txid root.txid ≡ one_of txid e.root.txid = ap (λ (r : Root). one_of txid r.txid) (root_eq-same root e.root is) in
          let fewer : waiting txid left ≤ waiting txid es = count-fewer (λ (v : Entry L). not (is_of_root root v)) (is_of_txid txid) es in omega arith
      by false is on all later =
          let more : waiting txid (e ∷ left) ≡ one_of txid e.root.txid + waiting txid left = waiting-cons txid e left in
          let rest = later on in omega arith

  -- ---- they stay counted

  pub counts-filter : (P : Entry L → Bool) (tries : Tries) (es : List (Entry L)) → AreCounted tries es → AreCounted tries (filter P es)
  counts-filter P tries es counts = λ txid.
      let fewer : waiting txid (filter P es) ≤ waiting txid es = count-fewer P (is_of_txid txid) es in
      let before = counts txid in omega arith

  counts-begun : (tries : Tries) (es : List (Entry L)) (root : Root) (spans : List Span) (start : ℕ)
      → root.attempt ≡ (tried root.txid tries).begun + 1 → AreCounted tries es
      → AreCounted (with_begun root.txid root.attempt tries) (es ++ fresh root spans start ∷ [])
  counts-begun tries es root spans start next counts = λ txid. by txid (txid == root.txid) refl
    where
      more : Tried
      more = record { begun = root.attempt; aborted = (tried root.txid tries).aborted }

      new : Tries
      new = fin_map.insert tries root.txid more

      all : (txid : ℕ) → waiting txid (es ++ fresh root spans start ∷ []) ≡ waiting txid es + one_of txid root.txid
      all txid = sum_by_push (λ (v : Entry L). one_of txid v.root.txid) es (fresh root spans start)

      by : (txid : ℕ) (b : Bool) → (txid == root.txid) ≡ b
          → (tried txid new).aborted + waiting txid (es ++ fresh root spans start ∷ []) ≤ (tried txid new).begun
      by txid true on =
          let at : tried txid new ≡ more = tried-insert tries root.txid more txid ∙ ap (λ (b : Bool). cond b more (tried txid tries)) on in
          let same : root.txid ≡ txid = sym (eqb-true txid root.txid on) in
          let one : one_of txid root.txid ≡ 1 = ap (λ (b : Bool). cond {A = ℕ} b 1 0) on in
          let begins : (tried txid new).begun ≡ root.attempt = ap (λ (t : Tried). t.begun) at in
          let aborts : (tried txid new).aborted ≡ (tried root.txid tries).aborted = ap (λ (t : Tried). t.aborted) at in
          let begins_then : (tried root.txid tries).begun ≡ (tried txid tries).begun = ap (λ n. (tried n tries).begun) same in
          let aborts_then : (tried root.txid tries).aborted ≡ (tried txid tries).aborted = ap (λ n. (tried n tries).aborted) same in
          let before = counts txid in
          let pushed = all txid in omega arith
      by txid false off =
          let at : tried txid new ≡ tried txid tries =
          tried-insert tries root.txid more txid ∙ ap (λ (b : Bool). cond b more (tried txid tries)) off in
          let none : one_of txid root.txid ≡ 0 = ap (λ (b : Bool). cond {A = ℕ} b 1 0) off in
          let begins : (tried txid new).begun ≡ (tried txid tries).begun = ap (λ (t : Tried). t.begun) at in
          let aborts : (tried txid new).aborted ≡ (tried txid tries).aborted = ap (λ (t : Tried). t.aborted) at in
          let before = counts txid in
          let pushed = all txid in omega arith

  -- the first of those that abort
  pub counts-first : (tries : Tries) (e : Entry L) (es : List (Entry L)) → AreCounted tries (e ∷ es)
      → ((tried e.root.txid tries).aborted < (tried e.root.txid tries).begun) × AreCounted (with_aborted e.root.txid tries) es
  counts-first tries e es counts = (
    (let before = counts e.root.txid in
        let all = waiting-cons e.root.txid e es in
        let one : one_of e.root.txid e.root.txid ≡ 1 = ap (λ (b : Bool). cond {A = ℕ} b 1 0) (eq-eqb e.root.txid e.root.txid refl) in omega arith),
    λ txid.
        let before = counts txid in
        let all = waiting-cons txid e es in
        let now = tried-aborted tries e.root.txid txid in
        let begins = now.0 in
        let aborts = now.1 in omega arith,
  )

  -- one that is pending may abort
  pub counts-pending : (root : Root) (tries : Tries) (es : List (Entry L)) → is_pending root es ≡ true → AreCounted tries es
      → (tried root.txid tries).aborted < (tried root.txid tries).begun
  counts-pending root tries es there counts =
      let before = counts root.txid in
      let less = waiting-ended root.txid root es there in
      let one : one_of root.txid root.txid ≡ 1 = ap (λ (b : Bool). cond {A = ℕ} b 1 0) (eq-eqb root.txid root.txid refl) in omega arith

  counts-aborted : (root : Root) (tries : Tries) (es : List (Entry L)) → is_pending root es ≡ true → AreCounted tries es
      → AreCounted (with_aborted root.txid tries) (ended root es)
  counts-aborted root tries es there counts = λ txid.
      let before = counts txid in
      let less = waiting-ended txid root es there in
      let now = tried-aborted tries root.txid txid in
      let begins = now.0 in
      let aborts = now.1 in omega arith

  counts-ticked : (P : Entry L → Bool) (tries : Tries) (es : List (Entry L)) → AreCounted tries es
      → AreCounted (counted (txids_of (filter P es)) tries) (filter (λ (e : Entry L). not (P e)) es)
  counts-ticked P tries es counts = λ txid.
      let before = counts txid in
      let parts = count-filter P (is_of_txid txid) es in
      let now = tried-counted (txids_of (filter P es)) tries txid in
      let begins = now.0 in
      let aborts = now.1 in
      let due = waiting-txids txid (filter P es) in omega arith

  -- ---- and few

  pub kept-none : (cap : ℕ) → AreKept {L = L} cap fin_map.empty []
  kept-none cap = record {
    few = record { most = omega arith; once = tt };
    counts = λ txid. subst (λ (t : Tried). t.aborted + 0 ≤ t.begun) (sym (tried-empty txid)) (omega arith);
  }

  pub kept-begun : (cap : ℕ) (tries : Tries) (es : List (Entry L)) (root : Root) (spans : List Span) (start : ℕ) → AreKept cap tries es → length es < cap
      → has_txid root.txid es ≡ false → root.attempt ≡ (tried root.txid tries).begun + 1
      → AreKept cap (with_begun root.txid root.attempt tries) (es ++ fresh root spans start ∷ [])
  kept-begun cap tries es root spans start kept room none next = record {
    few = few-begun cap es root spans start kept.few room none;
    counts = counts-begun tries es root spans start next kept.counts;
  }

  pub kept-settled : (cap : ℕ) (tries : Tries) (es : List (Entry L)) (root : Root) (list : L) → AreKept cap tries es
      → AreKept cap tries (settled root list es)
  kept-settled cap tries es root list kept = record {
    few = few-settled cap es root list kept.few;
    counts = λ txid.
        let same = waiting-settled txid root list es in
        let before = kept.counts txid in omega arith;
  }

  pub kept-filter : (cap : ℕ) (tries : Tries) (es : List (Entry L)) (P : Entry L → Bool) → AreKept cap tries es → AreKept cap tries (filter P es)
  kept-filter cap tries es P kept = record { few = few-filter cap es P kept.few; counts = counts-filter P tries es kept.counts }

  pub kept-aborted : (cap : ℕ) (tries : Tries) (es : List (Entry L)) (root : Root) → is_pending root es ≡ true → AreKept cap tries es
      → AreKept cap (with_aborted root.txid tries) (ended root es)
  kept-aborted cap tries es root there kept = record {
    few = few-filter cap es _ kept.few;
    counts = counts-aborted root tries es there kept.counts;
  }

  pub kept-ticked : (cap : ℕ) (tries : Tries) (es : List (Entry L)) (P : Entry L → Bool) → AreKept cap tries es
      → AreKept cap (counted (txids_of (filter P es)) tries) (filter (λ (e : Entry L). not (P e)) es)
  kept-ticked cap tries es P kept = record { few = few-filter cap es _ kept.few; counts = counts-ticked P tries es kept.counts }
