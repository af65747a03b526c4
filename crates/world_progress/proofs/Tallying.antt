-- How many attempts were begun, and what they weigh by their transactions.
use Rattle.std.proofs.Common.{◌≡◌, ◌<◌, ◌≤◌, ℕ, ◌+◌, ◌*◌, ◌==◌, ◌&&◌, ◌||◌, nat_lt, Bool, true, false, cond, List, [], ◌∷◌, ◌++◌, length, filter, refl, sym, ap, ◌∙◌, arith, eq-eqb, eqb-true, true≢false}
use Rattle.std.specs.List.{AllByRecursion, range_with_len}
use Rattle.std.proofs.Math.Nat.{mul-add, mul-le-mul_left, mul_comm}
use Rattle.std.proofs.lemmas.Bool.{and_from, ltb-true}
use Rattle.std.proofs.lemmas.List.{append_assoc, length-map}
use Rattle.event_worlds.specs.attempt_fates.declared.fates.Attempt.{Attempt}
use Rattle.event_worlds.specs.attempt_fates.declared.fates.End.{End}
use Rattle.event_worlds.specs.attempt_fates.declared.fates.End.TheVariants as end
use Rattle.event_worlds.specs.attempt_fates.Fates.{aborts_of, attempt_numbers, committed, drops_of, is_abort, is_committed, is_dropped, is_near, near_aborts}
use Rattle.event_worlds.specs.commit_turns.declared.wait.Wait.{Wait}
use Rattle.event_worlds.specs.commit_turns.Account.{desk_of, ended_of, ending_of, ends_of}
use Rattle.event_worlds.specs.commit_turns.Desks.{Desk, has_txid}
use Rattle.event_worlds.specs.commit_turns.Kept.{IsKept}
use Rattle.event_worlds.specs.commit_turns.Kept as kept
use Rattle.event_worlds.specs.counted_items.Weights.{weigh}
use Rattle.event_worlds.proofs.counted_items.Each.{each-both, each-weaker}
use Rattle.event_worlds.proofs.counted_items.Weighing.{each-weighs, weigh-le, weigh-le_each, weigh-map, weigh-ones, weigh-plus, weigh-same, weigh-swap, weigh-zero}
use Rattle.event_worlds.specs.storm_values.declared.value.Root.{Root}
use Rattle.event_worlds.specs.topology_plan.Topology.{Topology}
use Rattle.event_worlds.specs.taken_records.Cuts.{Cut}
use Rattle.event_worlds.specs.tuple_account.Ends.{commits, commits_by}
use Rattle.event_worlds.specs.tuple_account.Fits.{Fits}
use Rattle.event_worlds.specs.tuple_account.Histories.{History, Opening, opens}
use Rattle.event_worlds.specs.tuple_tickets.Roots.{root_eq}
use Rattle.event_worlds.proofs.tuple_tickets.Roots.{root_itself}
use Rattle.world_progress.proofs.Lists.{in-range, range-length}
use Rattle.world_progress.proofs.Resting.{begun_tried}

-- ---- products

pub weigh-times : {X : Type 0} (c : ℕ) (f : X → ℕ) (xs : List X) → weigh (λ x. c * f x) xs ≡ c * weigh f xs
weigh-times c f [] = omega arith
weigh-times c f (x ∷ xs) = let rest = weigh-times c f xs in let d = mul-add c (f x) (weigh f xs) in omega arith

pub cond-times : (b : Bool) (c : ℕ) → cond b c 0 ≡ c * cond b 1 0
cond-times true c = omega arith
cond-times false c = omega arith

-- ---- openings by their roots

-- the openings lie in so many transactions from one on, in attempts up to a number, each once
pub record AreWithin (low batches attempts : ℕ) (os : List Opening) : Type 0 where
  pub inside : AllByRecursion
      (λ (o : Opening). ((low ≤ o.begun.root.txid) × (o.begun.root.txid < low + batches)) × ((1 ≤ o.begun.root.attempt) × (o.begun.root.attempt ≤ attempts))) os
  pub once : (root : Root) → weigh (opens root) os ≤ 1

module _ (low batches attempts : ℕ) (os : List Opening) (within : AreWithin low batches attempts os) where
  abbrev IsInside : Opening → Type 0
  IsInside o = ((low ≤ o.begun.root.txid) × (o.begun.root.txid < low + batches)) × ((1 ≤ o.begun.root.attempt) × (o.begun.root.attempt ≤ attempts))

  -- those of one transaction
  one_txid : (i : ℕ) → weigh (λ (o : Opening). cond {A = ℕ} (o.begun.root.txid == i) 1 0) os ≤ attempts
  one_txid i =
      let l = weigh-le_each (λ (o : Opening). cond {A = ℕ} (o.begun.root.txid == i) 1 0) (λ (o : Opening). weigh (λ (j : ℕ). opens (record { txid = i; attempt = j }) o) (range_with_len 1 attempts)) IsInside pick os within.inside in
      let s = weigh-swap (λ (j : ℕ) (o : Opening). opens (record { txid = i; attempt = j }) o) (range_with_len 1 attempts) os in
      let m = weigh-le (λ (j : ℕ). weigh (opens (record { txid = i; attempt = j })) os) (λ (j : ℕ). 1) (λ j. within.once (record { txid = i; attempt = j })) (range_with_len 1 attempts) in
      let n = weigh-ones (range_with_len 1 attempts) in
      let r = range-length 1 attempts in omega arith
    where
      pick : (o : Opening) → IsInside o → cond {A = ℕ} (o.begun.root.txid == i) 1 0 ≤ weigh (λ (j : ℕ). opens (record { txid = i; attempt = j }) o) (range_with_len 1 attempts)
      pick o is = by (o.begun.root.txid == i) refl
        where
          by : (b : Bool) → (o.begun.root.txid == i) ≡ b → cond {A = ℕ} b 1 0 ≤ weigh (λ (j : ℕ). opens (record { txid = i; attempt = j }) o) (range_with_len 1 attempts)
          by false off = omega arith
          by true on =
              let least = is.1.0 in
              let most = is.1.1 in
              let r = in-range (λ (j : ℕ). opens (record { txid = i; attempt = j }) o) 1 attempts o.begun.root.attempt least (omega arith) in
              let same : root_eq o.begun.root (record { txid = i; attempt = o.begun.root.attempt }) ≡ true =
              and_from (o.begun.root.txid == i) (o.begun.root.attempt == o.begun.root.attempt) on (eq-eqb o.begun.root.attempt o.begun.root.attempt refl) in
              let e : opens (record { txid = i; attempt = o.begun.root.attempt }) o ≡ 1 = ap (λ (b : Bool). cond {A = ℕ} b 1 0) same in omega arith

  -- all of them, where each weighs as its transaction does
  pub by_txid : (c : ℕ → ℕ) → weigh (λ (o : Opening). c o.begun.root.txid) os ≤ attempts * weigh c (range_with_len low batches)
  by_txid c =
      let l = weigh-le_each (λ (o : Opening). c o.begun.root.txid)
      (λ (o : Opening). weigh (λ (i : ℕ). cond (o.begun.root.txid == i) (c i) 0) (range_with_len low batches)) IsInside pick os within.inside in
      let s = weigh-swap (λ (i : ℕ) (o : Opening). cond (o.begun.root.txid == i) (c i) 0) (range_with_len low batches) os in
      let m = weigh-le (λ (i : ℕ). weigh (λ (o : Opening). cond (o.begun.root.txid == i) (c i) 0) os) (λ (i : ℕ). attempts * c i) few
      (range_with_len low batches) in
      let t = weigh-times attempts c (range_with_len low batches) in omega arith
    where
      pick : (o : Opening) → IsInside o → c o.begun.root.txid ≤ weigh (λ (i : ℕ). cond (o.begun.root.txid == i) (c i) 0) (range_with_len low batches)
      pick o is =
          let r = in-range (λ (i : ℕ). cond (o.begun.root.txid == i) (c i) 0) low batches o.begun.root.txid is.0.0 is.0.1 in
          let e : cond (o.begun.root.txid == o.begun.root.txid) (c o.begun.root.txid) 0 ≡ c o.begun.root.txid = ap (λ (b : Bool). cond b (c o.begun.root.txid) 0) (eq-eqb o.begun.root.txid o.begun.root.txid refl) in omega arith

      few : (i : ℕ) → weigh (λ (o : Opening). cond (o.begun.root.txid == i) (c i) 0) os ≤ attempts * c i
      few i =
          let a = weigh-same (λ (o : Opening). cond (o.begun.root.txid == i) (c i) 0) (λ (o : Opening). c i * cond {A = ℕ} (o.begun.root.txid == i) 1 0) (λ o. cond-times (o.begun.root.txid == i) (c i)) os in
          let b = weigh-times (c i) (λ (o : Opening). cond {A = ℕ} (o.begun.root.txid == i) 1 0) os in
          let d = mul-le-mul_left (c i) (one_txid i) in
          let e = mul_comm (c i) attempts in omega arith

-- ---- the attempts of a transaction

pub filter-weighs : {X : Type 0} (test : X → Bool) (xs : List X) → length (filter test xs) ≡ weigh (λ (x : X). cond {A = ℕ} (test x) 1 0) xs
filter-weighs test [] = refl
filter-weighs test (x ∷ xs) = by (test x) (filter-weighs test xs)
  where
    by : (b : Bool) → length (filter test xs) ≡ weigh (λ (y : _). cond {A = ℕ} (test y) 1 0) xs
        → length (cond b (x ∷ filter test xs) (filter test xs)) ≡ cond {A = ℕ} b 1 0 + weigh (λ (y : _). cond {A = ℕ} (test y) 1 0) xs
    by true rest = omega arith
    by false rest = omega arith

filter_all : {X : Type 0} (test : X → Bool) (xs : List X) → AllByRecursion (λ (x : X). test x ≡ true) xs → filter test xs ≡ xs
filter_all test [] all = refl
filter_all test (x ∷ xs) all = by (test x) all.0 (filter_all test xs all.1)
  where
    by : (b : Bool) → b ≡ true → filter test xs ≡ xs → cond b (x ∷ filter test xs) (filter test xs) ≡ x ∷ xs
    by true on rest = ap (λ (ys : List _). x ∷ ys) rest
    by false off rest = absurd (true≢false (sym off))

-- each end is a commit, an abort or a drop
one_end : (b : Bool) (e : End) → cond {A = ℕ} b 1 0
    ≡ cond b (commits_by (ending_of e)) 0 + (cond {A = ℕ} (b && is_abort e) 1 0 + cond {A = ℕ} (b && is_dropped e) 1 0)
one_end false e = refl
one_end true (end.Committed list) = refl
one_end true (end.Failed path) = refl
one_end true end.TimedOut = refl
one_end true (end.Coincided list) = refl
one_end true (end.CommitFailed component part before after) = refl
one_end true (end.Dropped other) = refl

dropped_by : (e : End) → is_dropped e ≡ true → (by : Root) × (e ≡ end.Dropped by)
dropped_by (end.Committed list) is = absurd (true≢false (sym is))
dropped_by (end.Failed path) is = absurd (true≢false (sym is))
dropped_by end.TimedOut is = absurd (true≢false (sym is))
dropped_by (end.Coincided list) is = absurd (true≢false (sym is))
dropped_by (end.CommitFailed component part before after) is = absurd (true≢false (sym is))
dropped_by (end.Dropped other) is = (other, refl)

pending_later : (count txid : ℕ) (ws : List Wait) → AllByRecursion (λ (w : Wait). count < w.root.txid) ws → has_txid txid ws ≡ true → count < txid
pending_later count txid [] all has = absurd (true≢false (sym has))
pending_later count txid (w ∷ ws) all has = by (txid == w.root.txid) refl has (pending_later count txid ws all.1)
  where
    by : (b : Bool) → (txid == w.root.txid) ≡ b → (b || has_txid txid ws) ≡ true → (has_txid txid ws ≡ true → count < txid) → count < txid
    by true same found later = let e = eqb-true txid w.root.txid same in let l = all.0 in omega arith
    by false differ found later = later found

module _ (t : Topology) (cut : Cut) (d : Desk) (fates : List Attempt) (h : History) (is : IsKept t cut d fates)
    (fits : Fits t (desk_of cut d) (ends_of fates) h) where
  abbrev aborts : ℕ → Attempt → ℕ
  aborts txid a = cond {A = ℕ} ((a.root.txid == txid) && is_abort a.end) 1 0

  abbrev dropped : ℕ → Attempt → ℕ
  dropped txid a = cond {A = ℕ} ((a.root.txid == txid) && is_dropped a.end) 1 0

  -- those that ended were committed, aborted or were dropped
  ended_by : (txid : ℕ) → length (attempt_numbers txid fates) ≡ weigh (commits txid) (ends_of fates) + (aborts_of txid fates + drops_of txid fates)
  ended_by txid =
      let l = length-map (filter (λ (a : Attempt). a.root.txid == txid) fates) (λ (a : Attempt). a.root.attempt) in
      let f = filter-weighs (λ (a : Attempt). a.root.txid == txid) fates in
      let s = weigh-same (λ (a : Attempt). cond {A = ℕ} (a.root.txid == txid) 1 0)
      (λ (a : Attempt). commits txid (ended_of a) + (aborts txid a + dropped txid a))
      (λ a. one_end (a.root.txid == txid) a.end) fates in
      let p = weigh-plus (λ (a : Attempt). commits txid (ended_of a)) (λ (a : Attempt). aborts txid a + dropped txid a) fates in
      let q = weigh-plus (aborts txid) (dropped txid) fates in
      let m = weigh-map (commits txid) ended_of fates in
      let x = filter-weighs (λ (a : Attempt). (a.root.txid == txid) && is_abort a.end) fates in
      let y = filter-weighs (λ (a : Attempt). (a.root.txid == txid) && is_dropped a.end) fates in omega arith

  all_later : AllByRecursion (λ (w : Wait). d.committed < w.root.txid) d.pending
  all_later = each-weaker (kept.IsWaiting t cut d) (λ (w : Wait). d.committed < w.root.txid) (λ w waits. waits.later) d.pending is.waits

  -- one that is committed has none pending
  one_more : (txid : ℕ) → weigh (commits txid) (ends_of fates) + cond {A = ℕ} (has_txid txid d.pending) 1 0 ≤ 1
  one_more txid = by (has_txid txid d.pending) refl (nat_lt cut.start txid) (nat_lt txid (d.committed + 1)) refl (fits.once txid)
    where
      by : (b : Bool) → has_txid txid d.pending ≡ b → (x y : Bool) → nat_lt txid (d.committed + 1) ≡ y → weigh (commits txid) (ends_of fates)
          ≡ cond {A = ℕ} (x && y) 1 0
          → weigh (commits txid) (ends_of fates) + cond {A = ℕ} b 1 0 ≤ 1
      by false none x y early is = few (x && y) is
        where
          few : (z : Bool) → weigh (commits txid) (ends_of fates) ≡ cond {A = ℕ} z 1 0 → weigh (commits txid) (ends_of fates) + 0 ≤ 1
          few true e = omega arith
          few false e = omega arith
      by true some x true early is =
          let l = pending_later d.committed txid d.pending all_later some in
          let e = ltb-true txid (d.committed + 1) early in absurd (omega arith)
      by true some true false early is = omega arith
      by true some false false early is = omega arith

  -- of a transaction no more were begun than may abort, were dropped, and one more
  begun_few : (txid : ℕ) → (desk_of cut d).tries txid ≤ t.attempts + drops_of txid fates + 1
  begun_few txid = let b = is.begun txid in let e = ended_by txid in let o = one_more txid in let m = is.most txid in omega arith

  -- ---- drops

  -- without partitions none is dropped
  none_dropped : cut.partitions ≡ 0 → (txid : ℕ) → drops_of txid fates ≡ 0
  none_dropped none txid = from [] fates refl
    where
      from : (earlier rest : List Attempt) → fates ≡ earlier ++ rest → length (filter (λ (a : Attempt). (a.root.txid == txid) && is_dropped a.end) rest) ≡ 0
      from earlier [] split = refl
      from earlier (a ∷ rest) split = by (a.root.txid == txid) (is_dropped a.end) refl
          (from (earlier ++ a ∷ []) rest (split ∙ sym (append_assoc earlier (a ∷ []) rest)))
        where
          by : (x y : Bool) → is_dropped a.end ≡ y → length (filter (λ (b : Attempt). (b.root.txid == txid) && is_dropped b.end) rest) ≡ 0
              → length (cond (x && y) (a ∷ filter (λ (b : Attempt). (b.root.txid == txid) && is_dropped b.end) rest)
              (filter (λ (b : Attempt). (b.root.txid == txid) && is_dropped b.end) rest)) ≡ 0
          by x true drop rest_none =
              let one = dropped_by a.end drop in
              let some = is.drops.partitions earlier rest a one.0 split one.1 in absurd (omega arith)
          by true false keeps rest_none = rest_none
          by false false keeps rest_none = rest_none

  -- where none aborted none was dropped, and so all were committed
  module _ (none : AllByRecursion (λ (a : Attempt). is_abort a.end ≡ false) fates) where
    no_near_aborts : (near txid : ℕ) → near_aborts near txid fates ≡ 0
    no_near_aborts near txid =
        let f = filter-weighs (λ (a : Attempt). is_near near txid a.root.txid && is_abort a.end) fates in
        let l = weigh-le_each (λ (a : Attempt). cond {A = ℕ} (is_near near txid a.root.txid && is_abort a.end) 1 0) (λ (a : Attempt). 0)
        (λ (a : Attempt). is_abort a.end ≡ false) (λ a off. one (is_near near txid a.root.txid) (is_abort a.end) off) fates none in
        let z = weigh-zero (λ (a : Attempt). 0) (λ a. refl) fates in omega arith
      where
        one : (x y : Bool) → y ≡ false → cond {A = ℕ} (x && y) 1 0 ≤ 0
        one true true off = absurd (true≢false off)
        one true false off = omega arith
        one false y off = omega arith

    pub all_committed : committed fates ≡ fates
    all_committed =
        filter_all (λ (a : Attempt). is_committed a.end) fates
        (each-weaker (λ (a : Attempt). (is_abort a.end ≡ false) × ((f : Attempt → ℕ) → f a ≤ weigh f fates)) (λ (a : Attempt). is_committed a.end ≡ true) one
        fates
        (each-both (λ (a : Attempt). is_abort a.end ≡ false) (λ (a : Attempt). (f : Attempt → ℕ) → f a ≤ weigh f fates) fates none (each-weighs fates)))
      where
        commits_at : (e : End) → is_abort e ≡ false → cond {A = ℕ} (is_dropped e) 1 0 ≤ 0 → is_committed e ≡ true
        commits_at (end.Committed list) off kept_on = refl
        commits_at (end.Failed path) off kept_on = absurd (true≢false off)
        commits_at end.TimedOut off kept_on = absurd (true≢false off)
        commits_at (end.Coincided list) off kept_on = absurd (true≢false off)
        commits_at (end.CommitFailed component part before after) off kept_on = absurd (true≢false off)
        commits_at (end.Dropped other) off kept_on = absurd (omega arith)

        one : (a : Attempt) → (is_abort a.end ≡ false) × ((f : Attempt → ℕ) → f a ≤ weigh f fates) → is_committed a.end ≡ true
        one a both =
            let w = both.1 (dropped a.root.txid) in
            let f = filter-weighs (λ (b : Attempt). (b.root.txid == a.root.txid) && is_dropped b.end) fates in
            let m = is.few_drops a.root.txid in
            let z = no_near_aborts t.pending a.root.txid in
            let here : dropped a.root.txid a ≡ cond {A = ℕ} (is_dropped a.end) 1 0 = ap (λ (b : Bool). cond {A = ℕ} (b && is_dropped a.end) 1 0)
            (eq-eqb a.root.txid a.root.txid refl) in
            commits_at a.end both.0 (omega arith)

  -- ---- the openings of a world

  -- the attempt of each opening is one of those that were begun
  pub all_tried : ((root : Root) → weigh (opens root) h.begun ≤ 1)
      → AllByRecursion (λ (o : Opening). (1 ≤ o.begun.root.attempt) × (o.begun.root.attempt ≤ (desk_of cut d).tries o.begun.root.txid)) h.begun
  all_tried once =
      each-weaker (λ (o : Opening). (f : Opening → ℕ) → f o ≤ weigh f h.begun)
      (λ (o : Opening). (1 ≤ o.begun.root.attempt) × (o.begun.root.attempt ≤ (desk_of cut d).tries o.begun.root.txid)) one h.begun (each-weighs h.begun)
    where
      one : (o : Opening) → ((f : Opening → ℕ) → f o ≤ weigh f h.begun) → (1 ≤ o.begun.root.attempt) ×
          (o.begun.root.attempt ≤ (desk_of cut d).tries o.begun.root.txid)
      one o stands =
          let here : opens o.begun.root o ≡ 1 = ap (λ (b : Bool). cond {A = ℕ} b 1 0) (root_itself o.begun.root o.begun.root refl) in
          let w = stands (opens o.begun.root) in
          begun_tried (desk_of cut d).tries o.begun.root h.begun (fits.numbered o.begun.root) (omega arith)

  -- so many transactions from one on, with so many attempts of each
  pub within : (low batches attempts : ℕ) → AllByRecursion (λ (o : Opening). (low ≤ o.begun.root.txid) × (o.begun.root.txid < low + batches)) h.begun
      → ((txid : ℕ) → (desk_of cut d).tries txid ≤ attempts) → ((root : Root) → weigh (opens root) h.begun ≤ 1) → AreWithin low batches attempts h.begun
  within low batches attempts there few once = record {
    inside = each-weaker
        (λ (o : Opening). ((low ≤ o.begun.root.txid) × (o.begun.root.txid < low + batches)) ×
        ((1 ≤ o.begun.root.attempt) × (o.begun.root.attempt ≤ (desk_of cut d).tries o.begun.root.txid)))
        (λ (o : Opening). ((low ≤ o.begun.root.txid) × (o.begun.root.txid < low + batches)) × ((1 ≤ o.begun.root.attempt) × (o.begun.root.attempt ≤ attempts)))
        (λ o both. (both.0, (both.1.0, (let a = both.1.1 in let b = few o.begun.root.txid in omega arith)))) h.begun
        (each-both (λ (o : Opening). (low ≤ o.begun.root.txid) × (o.begun.root.txid < low + batches))
        (λ (o : Opening). (1 ≤ o.begun.root.attempt) × (o.begun.root.attempt ≤ (desk_of cut d).tries o.begun.root.txid)) h.begun there (all_tried once));
    once = once;
  }

  pub tries_none : cut.partitions ≡ 0 → (txid : ℕ) → (desk_of cut d).tries txid ≤ t.attempts + 1
  tries_none none txid = let b = begun_few txid in let n = none_dropped none txid in omega arith
