-- After a turn an attempt of the lowest transaction that is not committed is pending.
use Rattle.std.proofs.Common.{◌≡◌, ◌≢◌, inl, inr, ℕ, zero, suc, ◌+◌, ◌-◌, ◌*◌, ◌<◌, ◌≤◌, ◌==◌, min, Bool, true, false, cond, not, Option, None, Some, List, [], ◌∷◌, ◌++◌, length, map, refl, sym, ap, subst, ◌∙◌, arith, eq-eqb}
use Rattle.std.specs.Option.{option_and_then}
use Rattle.std.specs.List.{AllByRecursion, find, range_with_len}
use Rattle.std.proofs.Math.Nat.{mul-le-mul_right}
use Rattle.std.proofs.lemmas.Bool.{cases_lt, le-ltb, lt-ltb}
use Rattle.std.proofs.lemmas.Bool.Decides.{nat_tests}
use Rattle.std.proofs.lemmas.List.{append-nil, length-append, length-map}
use Rattle.tuple_account.specs.acker_core.declared.verdict.Verdict.{Verdict}
use Rattle.tuple_account.proofs.counted_items.Each.{each-both, each-weaker}
use Rattle.tuple_account.specs.storm_values.declared.value.Root.{Root}
use Rattle.tuple_account.specs.topology_plan.Topology.{Topology}
use Rattle.tuple_account.specs.topology_plan.Valid.{IsValid}
use Rattle.commit_turns.specs.declared.wait.Wait.{Wait}
use Rattle.commit_turns.specs.Desks.{has_txid}
use Rattle.record_offers.specs.Offers.{batch_count, batch_numbers, first_free, left_in, offered}
use Rattle.record_offers.proofs.BatchLemmas.{least}
use Rattle.taken_records.specs.Taken.{AreTaken, batch_spans}
use Rattle.taken_records.proofs.Bounding.{taken_few}
use Rattle.taken_records.proofs.Batching.{all_batches_taken}
use Rattle.taken_records.proofs.Leaving.{some_offered}
use Rattle.taken_records.proofs.Running.{batch_rises, one_batch, runs_records}
use Rattle.taken_records.specs.Cuts.{Cut, IsStart, offers_of}
use Rattle.attempt_fates.specs.declared.fates.Attempt.{Attempt}
use Rattle.attempt_fates.specs.Fates.{committed, committed_batches, committed_txids}
use Rattle.commit_turns.specs.Desks.{Desk}
use Rattle.replay_pending.specs.InFlight.{tried}
use Rattle.commit_turns.specs.Kept.{AreInRow, HasLowest}
use Rattle.commit_turns.specs.Turns.{begun, fill_more, filled, free_txid, fresh, is_finished, last_attempt, last_txid, next_attempt, next_root, next_wait, ordered, turned}
use Rattle.commit_turns.proofs.Beginning.{taken_numbered, txids_taken}
use Rattle.commit_turns.proofs.Counting.{few_within}
use Rattle.commit_turns.proofs.Dropping.{near_few, numbers_split}
use Rattle.commit_turns.proofs.Going.{IsGoing}
use Rattle.commit_turns.proofs.Holding.{IsBegun}
use Rattle.commit_turns.proofs.Passing.{all_begun, all_turned}
use Rattle.commit_turns.proofs.Stepping.{going_out}
use Rattle.commit_turns.proofs.Tallies.{has-none, others, own-itself, tally}
use Rattle.commit_turns.proofs.Ticking.{going_tick, no_stop}
use Rattle.commit_turns.proofs.Turning.{begins, going_heard}

many_enough : (n size : ℕ) → 0 < size → n ≤ n * size
many_enough n size some = by size some
  where
    by : (k : ℕ) → 0 < k → n ≤ n * k
    by zero none = absurd (omega arith)
    by (suc k) some = (let p : n * suc k ≡ n + n * k = omega arith in omega (arith, p))

some_none : {X : Type 0} (x : X) → Some x ≡ None → ⊥
some_none x e = cc

none_some : {X : Type 0} (x : X) → None ≡ Some x → ⊥
none_some x e = cc

module _ (t : Topology) (cut : Cut) (shut : ℕ) where
  -- ---- filling goes on until no attempt begins

  full : (d : Desk) → t.pending ≤ length d.pending → next_wait t cut shut d ≡ None
  full d many =
      ap (λ (b : Bool). option_and_then (λ root. fresh t cut d root (offered (offers_of cut d.gone) root.txid shut)) (cond b (option_and_then (next_attempt t cut d) (free_txid t cut d)) None))
      (le-ltb (length d.pending) t.pending many)

  pub fills_up : (places : ℕ) (d : Desk) → t.pending ≤ length d.pending + places → next_wait t cut shut (filled t cut shut places d).desk ≡ None
  fills_up zero d many = full d (omega arith)
  fills_up (suc places) d many = by (next_wait t cut shut d) refl (λ w more. fills_up places (begun t cut w d) more)
    where
      by : (o : Option Wait) → next_wait t cut shut d ≡ o
          → ((w : Wait) → t.pending ≤ length (begun t cut w d).pending + places → next_wait t cut shut (filled t cut shut places (begun t cut w d)).desk ≡ None)
          → next_wait t cut shut (fill_more t cut (filled t cut shut places) d o).desk ≡ None
      by None none later = none
      by (Some w) some later = later w (let l = length-append d.pending (w ∷ []) in omega arith)

  -- a turn that did not stop ends where no attempt begins
  pub turn_fills : (d : Desk) (verdict : Option Verdict) (ticks : ℕ) → (turned t cut verdict ticks shut d).desk.exhausted ≡ None → next_wait t cut shut (turned t cut verdict ticks shut d).desk ≡ None
  turn_fills d verdict ticks =
      all_turned t cut verdict ticks shut d [] (λ e ended. Unit {0}) (λ e ended new. e.exhausted ≡ None → next_wait t cut shut e ≡ None) tt (λ e ended goes going. tt)
      (λ e ended txid is going none. absurd (none_some txid (sym none ∙ is))) (λ e ended none going still_none. fills_up t.pending (ordered t cut e) (omega arith))

-- ---- where no attempt begins

module _ (t : Topology) (cut : Cut) (valid : IsValid t) (start : IsStart cut) (d : Desk) (fates : List Attempt) (going : IsGoing t cut d fates) (none : d.exhausted ≡ None) (stuck : next_wait t cut 0 d ≡ None)
    (free : tally (d.committed + 1) d.pending ≡ 0) (off : has_txid (d.committed + 1) d.pending ≡ false) where
  within : (w : Wait) → IsBegun t cut d.tries d.committed d.tick w × (w.root.txid ≢ d.committed + 1) → (d.committed + 2 ≤ w.root.txid) × (w.root.txid < d.committed + 2 + (t.pending - 1))
  within w both =
      let l = both.0.later in
      let n = both.0.near in
      let o = both.1 in
      let p = valid.pending.0 in
      (omega arith, omega arith)

  room : length d.pending < t.pending
  room =
      let few = few_within d.pending going.holds.one (d.committed + 2) (t.pending - 1)
      (each-weaker (λ (w : Wait). IsBegun t cut d.tries d.committed d.tick w × (w.root.txid ≢ d.committed + 1)) (λ (w : Wait). (d.committed + 2 ≤ w.root.txid) × (w.root.txid < d.committed + 2 + (t.pending - 1))) within d.pending
      (each-both (IsBegun t cut d.tries d.committed d.tick) (λ (w : Wait). w.root.txid ≢ d.committed + 1) d.pending going.holds.waits (others (d.committed + 1) d.pending free))) in
      let p = valid.pending.0 in omega (arith, few, p)

  -- the lowest one would be next
  would_be : d.committed + 1 ≤ last_txid → free_txid t cut d ≡ Some (d.committed + 1)
  would_be small = by (min (length d.pending + 1) (last_txid - d.committed)) refl
    where
      by : (n : ℕ) → min (length d.pending + 1) (last_txid - d.committed) ≡ n
          → find (λ (k : ℕ). not (has_txid k d.pending)) (range_with_len (d.committed + 1) n) ≡ Some (d.committed + 1)
      by zero none = absurd (omega (arith, none, small))
      by (suc n) is = ap (λ (b : Bool). cond (not b) (Some (d.committed + 1)) (find (λ (k : ℕ). not (has_txid k d.pending)) (range_with_len (d.committed + 1 + 1) n))) off

  few_begun : (tried (d.committed + 1) d.tries).begun < last_attempt
  few_begun =
      let b = going.holds.begun (d.committed + 1) in
      let n = numbers_split d.committed (d.committed + 1) fates going.holds.told.past (omega arith) in
      let f = going.most (d.committed + 1) in
      let x = going.few_drops (d.committed + 1) in
      let y = near_few t.pending (d.committed + 1) t.attempts fates going.most in
      let z = product t.pending t.attempts valid.pending.1 valid.attempts.1 in
      let a = valid.attempts.1 in
      omega (arith, b, n, f, x, y, z, a, free)
    where
      product : (a b : ℕ) → a ≤ 64 → b ≤ 100 → a * b ≤ 6400
      product a b few_a few_b = let x = mul-le-mul_right b few_a in omega (arith, x, few_b)

  abbrev lowest : Root
  lowest = record { txid = d.committed + 1; attempt = (tried (d.committed + 1) d.tries).begun + 1 }

  root_there : d.committed + 1 ≤ last_txid → next_root t cut d ≡ Some lowest
  root_there small =
      ap (λ (b : Bool). cond b (option_and_then (next_attempt t cut d) (free_txid t cut d)) None) (lt-ltb (length d.pending) t.pending room)
      ∙ ap (option_and_then (next_attempt t cut d)) (would_be small)
      ∙ ap (λ (b : Bool). cond b (Some lowest) None) (lt-ltb (tried (d.committed + 1) d.tries).begun last_attempt few_begun)

  nothing_offered : d.committed + 1 ≤ last_txid → (ns : List ℕ) → offered (offers_of cut d.gone) (d.committed + 1) 0 ≡ ns → 1 ≤ length ns → ⊥
  nothing_offered small [] is some = omega arith
  nothing_offered small (n ∷ ns) is some =
      some_none (record { root = lowest; spans = _; start = d.tick; settled = None })
      (sym (ap (option_and_then (λ root. fresh t cut d root (offered (offers_of cut d.gone) root.txid 0))) (root_there small) ∙ ap (fresh t cut d lowest) is) ∙ stuck)

  -- without partitions
  module _ (no_partitions : cut.partitions ≡ 0) where
    there_then : d.committed + 1 ≤ batch_count (length cut.gone) cut.size → ⊥
    there_then there =
        nothing_offered (let few = least (length cut.gone) cut.size (length cut.gone) start.some (many_enough (length cut.gone) cut.size start.some) in let l = start.last in omega (arith, there, few, l))
        (batch_numbers (length cut.records) cut.size (d.committed + 1))
        (ap (λ (b : Bool). cond b (batch_numbers (length cut.records) cut.size (d.committed + 1)) (first_free cut.size cut.partitions 0 d.gone)) (eq-eqb cut.partitions 0 no_partitions))
        (subst (λ (k : ℕ). 1 ≤ length (batch_numbers k cut.size (d.committed + 1))) start.marks
        (let batch = one_batch (length cut.gone) cut.size (d.committed + 1) start.some (omega arith) there in
        let same = ap length (runs_records 0 (batch_numbers (length cut.gone) cut.size (d.committed + 1)) (batch_rises (length cut.gone) cut.size (d.committed + 1))) in
        let one = batch.some in omega (arith, same, one)))

    none_pending : (ws : List Wait) → AllByRecursion (IsBegun t cut d.tries d.committed d.tick) ws → ws ≡ []
    none_pending [] all = refl
    none_pending (w ∷ ws) all =
        let numbered = (all.0.batch.numbered no_partitions).0 in
        let later = all.0.later in
        absurd (there_then (omega (arith, numbered, later)))

    all_gone : d.pending ≡ [] → left_in d.gone ≡ 0
    all_gone empty =
        elim (cases_lt d.committed (batch_count (length cut.gone) cut.size)) [
          | inl more ↦ absurd (there_then (omega (arith, more)))
          | inr enough ↦
              all_batches_taken cut.gone d.gone cut.size cut.start (length (committed_txids fates)) start.some (start.batches no_partitions) taken
              (let c = going.holds.told.commits in omega (arith, c, enough))
        ]
      where
        txids : txids_taken t cut start d.tick d.committed d.tries d.gone d.pending fates going.holds ≡ range_with_len (cut.start + 1) (length (committed_txids fates))
        txids = ap (λ (ws : List Wait). committed_txids fates ++ map (λ (w : Wait). w.root.txid) ws) empty ∙ append-nil (committed_txids fates) ∙ going.holds.told.in_order

        taken : AreTaken cut.gone d.gone cut.size (map (batch_spans (length cut.gone) cut.size) (range_with_len (cut.start + 1) (length (committed_txids fates))))
        taken =
            subst (AreTaken cut.gone d.gone cut.size)
            (taken_numbered t cut start d.tick d.committed d.tries d.gone d.pending fates going.holds no_partitions ∙ ap (map (batch_spans (length cut.gone) cut.size)) txids) going.holds.taken

  -- with partitions
  module _ (partitions : 0 < cut.partitions) where
    no_row : (ws : List Wait) → d.pending ≡ ws → ws ≡ []
    no_row [] is = refl
    no_row (w ∷ ws) is =
        let row = subst (λ (vs : List Wait). AreInRow (d.committed + 1) vs) is (going.row partitions) in
        let one = own-itself (d.committed + 1) w.root.txid row.0 in
        let none_of = subst (λ (vs : List Wait). tally (d.committed + 1) vs ≡ 0) is free in
        absurd (omega (arith, one, none_of))

    none_left : left_in d.gone ≡ 0
    none_left =
        elim (cases_lt 0 (left_in d.gone)) [
          | inl left ↦ absurd
              (nothing_offered (small_then left) (first_free cut.size cut.partitions 0 d.gone)
              (ap (λ (b : Bool). cond b (batch_numbers (length cut.records) cut.size (d.committed + 1)) (first_free cut.size cut.partitions 0 d.gone)) (positive cut.partitions partitions))
              (some_offered cut.size cut.partitions d.gone start.some left))
          | inr none_more ↦ omega (arith, none_more)
        ]
      where
        small_then : 0 < left_in d.gone → d.committed + 1 ≤ last_txid
        small_then left =
            let few = taken_few cut.gone d.gone cut.size (committed_batches fates ++ map (λ (w : Wait). w.spans) d.pending) going.holds.taken in
            let parts = length-append (committed_batches fates) (map (λ (w : Wait). w.spans) d.pending) in
            let batches = length-map (committed fates) (λ (a : Attempt). a.spans) in
            let txids = length-map (committed fates) (λ (a : Attempt). a.root.txid) in
            let commits = going.holds.told.commits in
            let last = start.last in
            omega (arith, left, few, parts, batches, txids, commits, last)

        positive : (n : ℕ) → 0 < n → (n == 0) ≡ false
        positive zero less = absurd (omega arith)
        positive (suc n) less = grind (arith, nat_tests)

  pub is_over : is_finished t cut d ≡ true
  is_over = by cut.partitions refl
    where
      both : left_in d.gone ≡ 0 → d.pending ≡ [] → is_finished t cut d ≡ true
      both left empty = rw (eq-eqb (left_in d.gone) 0 left, eq-eqb (length d.pending) 0 (ap length empty)) refl

      by : (n : ℕ) → cut.partitions ≡ n → is_finished t cut d ≡ true
      by zero is = let empty = none_pending is d.pending going.holds.waits in both (all_gone is empty) empty
      by (suc n) is = let some : 0 < cut.partitions = omega (arith, is) in both (none_left some) (no_row some d.pending refl)

-- ---- a turn

module _ (t : Topology) (cut : Cut) (valid : IsValid t) (start : IsStart cut) where
  after_fill : (e : Desk) (ended : List Attempt) → e.exhausted ≡ None → IsGoing t cut e ended → HasLowest t cut (filled t cut 0 t.pending (ordered t cut e)).desk
  after_fill e ended still_none going none more = by (has_txid ((filled t cut 0 t.pending (ordered t cut e)).desk.committed + 1) (filled t cut 0 t.pending (ordered t cut e)).desk.pending) refl
    where
      both : IsGoing t cut (filled t cut 0 t.pending (ordered t cut e)).desk ended × ((filled t cut 0 t.pending (ordered t cut e)).desk.exhausted ≡ None)
      both = all_begun t cut 0 (λ g new. IsGoing t cut g ended × (g.exhausted ≡ None)) (begins t cut valid start 0 ended) t.pending (ordered t cut e) [] (going_out t cut e ended (ordered t cut e).out going, still_none)

      never : false ≡ true → ⊥
      never e = cc

      by : (b : Bool) → has_txid ((filled t cut 0 t.pending (ordered t cut e)).desk.committed + 1) (filled t cut 0 t.pending (ordered t cut e)).desk.pending ≡ b → has_txid ((filled t cut 0 t.pending (ordered t cut e)).desk.committed + 1) (filled t cut 0 t.pending (ordered t cut e)).desk.pending ≡ true
      by true on = on
      by false off =
          absurd (never (sym more ∙ is_over t cut valid start (filled t cut 0 t.pending (ordered t cut e)).desk ended both.0 both.1 (fills_up t cut 0 t.pending (ordered t cut e) (omega arith)) (has-none ((filled t cut 0 t.pending (ordered t cut e)).desk.committed + 1) (filled t cut 0 t.pending (ordered t cut e)).desk.pending (both.0.holds.one ((filled t cut 0 t.pending (ordered t cut e)).desk.committed + 1)) off) off))

  pub lowest_after : (d : Desk) (fates : List Attempt) → d.exhausted ≡ None → IsGoing t cut d fates → (verdict : Option Verdict) (ticks : ℕ) → HasLowest t cut (turned t cut verdict ticks 0 d).desk
  lowest_after d fates none going verdict ticks =
      all_turned t cut verdict ticks 0 d fates (IsGoing t cut) (λ e ended new. HasLowest t cut e) (going_heard t cut d fates going none verdict) (λ e ended goes g. going_tick t cut e ended g (no_stop t cut e goes))
      (λ e ended txid is still now. absurd (none_some txid (sym now ∙ is))) after_fill
