-- An attempt begins.
use Rattle.std.proofs.Common.{◌≡◌, ◌≢◌, inl, inr, ℕ, zero, suc, ◌+◌, ◌-◌, min, ◌<◌, ◌≤◌, ◌==◌, not, nat_lt, Bool, true, false, cond, Option, None, Some, List, [], ◌∷◌, ◌++◌, length, map, filter, refl, sym, ap, ap₂, subst, ◌∙◌, arith, eqb-true}
use Rattle.std.specs.List.{AllByRecursion, range_with_len}
use Rattle.std.specs.Option.{option_and_then}
use Rattle.std.proofs.lemmas.Bool.{cases_lt, ltb-true, not-true}
use Rattle.std.proofs.lemmas.Bool.Decides.{nat_tests}
use Rattle.std.proofs.lemmas.List.{append_assoc, map-append}
use Rattle.tuple_account.proofs.counted_items.Each.{each-append, each-back, each-weaker}
use Rattle.tuple_account.specs.storm_values.declared.value.Root.{Root}
use Rattle.tuple_account.specs.topology_plan.Topology.{Topology}
use Rattle.commit_turns.specs.declared.wait.Wait.{Wait}
use Rattle.commit_turns.specs.Desks.{has_txid}
use Rattle.record_spans.specs.declared.span.Span.{Span}
use Rattle.record_spans.specs.Spans.{stands_in}
use Rattle.record_offers.specs.Offers.{batch_count, batch_numbers, first_free, is_gone, offered}
use Rattle.record_offers.proofs.BatchLemmas.{no_batch}
use Rattle.taken_records.specs.Taken.{AreTaken, IsBatch, StayFronts, batch_spans, one_if, runs_of, times_in}
use Rattle.taken_records.proofs.Batching.{batch_has, other_batch_left}
use Rattle.taken_records.proofs.Fronting.{offered_left, stay_taken}
use Rattle.taken_records.proofs.Running.{free_is_batch, one_batch, stands_within}
use Rattle.taken_records.specs.Cuts.{Cut, IsStart, offers_of}
use Rattle.attempt_fates.specs.declared.fates.Attempt.{Attempt}
use Rattle.attempt_fates.specs.Fates.{HasBatch, committed_batches, committed_txids, is_committed}
use Rattle.attempt_fates.specs.Fates.{committed as committed_of}
use Rattle.commit_turns.specs.Desks.{Desk}
use Rattle.replay_pending.specs.InFlight.{tried}
use Rattle.commit_turns.specs.Kept.{batches_taken}
use Rattle.commit_turns.specs.Turns.{begun, free_txid, fresh, last_attempt, last_txid, next_attempt, next_root, next_wait}
use Rattle.commit_turns.proofs.Counting.{few_before}
use Rattle.commit_turns.proofs.Going.{IsGoing, IsTimely}
use Rattle.commit_turns.proofs.Holding.{Holds, IsBegun, holds_begun, spans_of}
use Rattle.commit_turns.proofs.Lists.{found, range_above, range_below, range_place}
use Rattle.commit_turns.proofs.Rows.{row_push, row_tally}
use Rattle.commit_turns.proofs.Tallies.{has-none, others, tally}

none_some : {X : Type 0} (x : X) → None ≡ Some x → ⊥
none_some x e = cc

same_some : {X : Type 0} (x y : X) → Some x ≡ Some y → x ≡ y
same_some x y e = cc

-- ---- the root that begins next

module _ (t : Topology) (cut : Cut) (d : Desk) (few : (txid : ℕ) → tally txid d.pending ≤ 1) where
  pub record IsNextRoot (root : Root) : Type 0 where
    pub room : length d.pending < t.pending
    pub free : tally root.txid d.pending ≡ 0
    pub number : root.attempt ≡ (tried root.txid d.tries).begun + 1
    pub after : d.committed < root.txid
    pub near : root.txid ≤ d.committed + 1 + length d.pending

  record IsFree (txid : ℕ) : Type 0 where
    free : tally txid d.pending ≡ 0
    after : d.committed < txid
    near : txid ≤ d.committed + 1 + length d.pending

  free_of : (txid : ℕ) → free_txid t cut d ≡ Some txid → IsFree txid
  free_of txid is =
      let many = min (length d.pending + 1) (last_txid - d.committed) in
      let f = found (λ (k : ℕ). not (has_txid k d.pending)) (range_with_len (d.committed + 1) many) txid is in
      let above = (each-back (λ (k : ℕ). d.committed + 1 ≤ k) f.before (txid ∷ f.behind) (subst (AllByRecursion (λ (k : ℕ). d.committed + 1 ≤ k)) f.split (range_above (d.committed + 1) many))).0 in
      record {
        free = has-none txid d.pending (few txid) (not-true (has_txid txid d.pending) f.passes);
        after = omega (arith, above);
        near = (let p = range_place (d.committed + 1) many f.before f.behind txid f.split in let l = few_before d.pending f.before f.missed (d.committed + 1) many (txid ∷ f.behind) f.split in omega (arith, p, l));
      }

  next_of : (root : Root) (txid : ℕ) → IsFree txid → length d.pending < t.pending → next_attempt t cut d txid ≡ Some root → IsNextRoot root
  next_of root txid is room some = by (nat_lt (tried txid d.tries).begun last_attempt) some
    where
      by : (b : Bool) → cond b (Some (record { txid = txid; attempt = (tried txid d.tries).begun + 1 })) None ≡ Some root → IsNextRoot root
      by true e =
          subst IsNextRoot (same_some (record { txid = txid; attempt = (tried txid d.tries).begun + 1 }) root e)
          (record { room = room; free = is.free; number = refl; after = is.after; near = is.near })
      by false e = absurd (none_some root e)

  pub next_root_is : (root : Root) → next_root t cut d ≡ Some root → IsNextRoot root
  next_root_is root some = by (nat_lt (length d.pending) t.pending) refl some
    where
      at : length d.pending < t.pending → (o : Option ℕ) → free_txid t cut d ≡ o → option_and_then (next_attempt t cut d) o ≡ Some root → IsNextRoot root
      at room None is e = absurd (none_some root e)
      at room (Some txid) is e = next_of root txid (free_of txid is) room e

      by : (b : Bool) → nat_lt (length d.pending) t.pending ≡ b → cond b (option_and_then (next_attempt t cut d) (free_txid t cut d)) None ≡ Some root → IsNextRoot root
      by true on e = at (ltb-true (length d.pending) t.pending on) (free_txid t cut d) refl e
      by false off e = absurd (none_some root e)

  -- the attempt that begins next
  pub record IsNextWait (shut : ℕ) (w : Wait) : Type 0 where
    pub root : IsNextRoot w.root
    pub some : 1 ≤ length (offered (offers_of cut d.gone) w.root.txid shut)
    pub spans : w.spans ≡ runs_of (offered (offers_of cut d.gone) w.root.txid shut)
    pub now : w.start ≡ d.tick
    pub timed : w.settled ≡ None

  pub next_wait_is : (shut : ℕ) (w : Wait) → next_wait t cut shut d ≡ Some w → IsNextWait shut w
  next_wait_is shut w some = by (next_root t cut d) refl some
    where
      with_numbers : (root : Root) → IsNextRoot root → (ns : List ℕ) → offered (offers_of cut d.gone) root.txid shut ≡ ns → fresh t cut d root ns ≡ Some w → IsNextWait shut w
      with_numbers root is [] none e = absurd (none_some w e)
      with_numbers root is (n ∷ ns) numbers e =
          subst (IsNextWait shut) (same_some (record { root = root; spans = runs_of (n ∷ ns); start = d.tick; settled = None }) w e)
          (record {
            root = is;
            some = subst (λ (ms : List ℕ). 1 ≤ length ms) (sym numbers) (omega arith);
            spans = ap runs_of (sym numbers);
            now = refl;
            timed = refl;
          })

      by : (o : Option Root) → next_root t cut d ≡ o → option_and_then (λ root. fresh t cut d root (offered (offers_of cut d.gone) root.txid shut)) o ≡ Some w → IsNextWait shut w
      by None none e = absurd (none_some w e)
      by (Some root) is e = with_numbers root (next_root_is root is) (offered (offers_of cut d.gone) root.txid shut) refl e

-- an attempt that begins is timed
pub next_wait_settled : (t : Topology) (cut : Cut) (d : Desk) (shut : ℕ) (w : Wait) → next_wait t cut shut d ≡ Some w → w.settled ≡ None
next_wait_settled t cut d shut w some = by (next_root t cut d) some
  where
    with_numbers : (root : Root) (ns : List ℕ) → fresh t cut d root ns ≡ Some w → w.settled ≡ None
    with_numbers root [] e = absurd (none_some w e)
    with_numbers root (n ∷ ns) e = sym (ap (λ (v : Wait). v.settled) (same_some (record { root = root; spans = runs_of (n ∷ ns); start = d.tick; settled = None }) w e))

    by : (o : Option Root) → option_and_then (λ root. fresh t cut d root (offered (offers_of cut d.gone) root.txid shut)) o ≡ Some w → w.settled ≡ None
    by None e = absurd (none_some w e)
    by (Some root) e = with_numbers root (offered (offers_of cut d.gone) root.txid shut) e

-- ---- its records

-- batches without partitions are those of their transactions
module _ (cut : Cut) (none : cut.partitions ≡ 0) where
  pub waits_numbered : (ws : List Wait) → AllByRecursion (λ (w : Wait). HasBatch cut w.root.txid w.spans) ws
      → map spans_of ws ≡ map (batch_spans (length cut.gone) cut.size) (map (λ (w : Wait). w.root.txid) ws)
  waits_numbered [] all = refl
  waits_numbered (w ∷ ws) all = ap₂ (λ x xs. x ∷ xs) (all.0.numbered none).1 (waits_numbered ws all.1)

  pub fates_numbered : (fates : List Attempt) → AllByRecursion (λ (a : Attempt). HasBatch cut a.root.txid a.spans) fates
      → map (λ (a : Attempt). a.spans) fates ≡ map (batch_spans (length cut.gone) cut.size) (map (λ (a : Attempt). a.root.txid) fates)
  fates_numbered [] all = refl
  fates_numbered (a ∷ fates) all = ap₂ (λ x xs. x ∷ xs) (all.0.numbered none).1 (fates_numbered fates all.1)

pub each_filtered : (Q : Attempt → Type 0) (p : Attempt → Bool) (fates : List Attempt) → AllByRecursion Q fates → AllByRecursion (λ (a : Attempt). Q a × (p a ≡ true)) (filter p fates)
each_filtered Q p [] all = tt
each_filtered Q p (a ∷ fates) all = by (p a) refl (each_filtered Q p fates all.1)
  where
    by : (b : Bool) → p a ≡ b → AllByRecursion (λ (x : Attempt). Q x × (p x ≡ true)) (filter p fates) → AllByRecursion (λ (x : Attempt). Q x × (p x ≡ true)) (cond b (a ∷ filter p fates) (filter p fates))
    by true on rest = ((all.0, on), rest)
    by false off rest = rest

module _ (t : Topology) (cut : Cut) (start : IsStart cut) (tick committed : ℕ) (d_tries : _) (gone : List Bool) (pending : List Wait) (fates : List Attempt)
    (h : Holds t cut tick committed d_tries gone pending fates) where
  -- the transactions of what was taken
  abbrev pub txids_taken : List ℕ
  txids_taken = map (λ (a : Attempt). a.root.txid) (committed_of fates) ++ map (λ (w : Wait). w.root.txid) pending

  pub taken_numbered : cut.partitions ≡ 0 → committed_batches fates ++ map spans_of pending ≡ map (batch_spans (length cut.gone) cut.size) txids_taken
  taken_numbered none =
      ap₂ (λ xs ys. xs ++ ys)
      (fates_numbered cut none (committed_of fates) (each-weaker (λ (a : Attempt). HasBatch cut a.root.txid a.spans × (is_committed a.end ≡ true)) (λ (a : Attempt). HasBatch cut a.root.txid a.spans) (λ a both. both.0) (committed_of fates)
      (each_filtered (λ (a : Attempt). HasBatch cut a.root.txid a.spans) (λ (a : Attempt). is_committed a.end) fates h.told.batches)))
      (waits_numbered cut none pending (each-weaker (IsBegun t cut d_tries committed tick) (λ (w : Wait). HasBatch cut w.root.txid w.spans) (λ w is. is.batch) pending h.waits))
      ∙ sym (map-append (batch_spans (length cut.gone) cut.size) (map (λ (a : Attempt). a.root.txid) (committed_of fates)) (map (λ (w : Wait). w.root.txid) pending))

  -- they are others than a free one
  txids_others : (txid : ℕ) → committed < txid → tally txid pending ≡ 0 → AllByRecursion (λ (k : ℕ). (1 ≤ k) × (k ≢ txid)) txids_taken
  txids_others txid after free =
      each-append (λ (k : ℕ). (1 ≤ k) × (k ≢ txid)) (map (λ (a : Attempt). a.root.txid) (committed_of fates)) (map (λ (w : Wait). w.root.txid) pending)
      in_commits (in_pending pending (both_waits pending h.waits (others txid pending free)))
    where
      in_range : (xs : List ℕ) → AllByRecursion (λ (k : ℕ). cut.start + 1 ≤ k) xs → AllByRecursion (λ (k : ℕ). k ≤ committed) xs → AllByRecursion (λ (k : ℕ). (1 ≤ k) × (k ≢ txid)) xs
      in_range [] low high = tt
      in_range (k ∷ xs) low high = let l = low.0 in let m = high.0 in ((omega (arith, l), λ same. omega (arith, m, after, same)), in_range xs low.1 high.1)

      in_commits : AllByRecursion (λ (k : ℕ). (1 ≤ k) × (k ≢ txid)) (committed_txids fates)
      in_commits =
          subst (AllByRecursion (λ (k : ℕ). (1 ≤ k) × (k ≢ txid))) (sym h.told.in_order)
          (in_range (range_with_len (cut.start + 1) (length (committed_txids fates))) (range_above (cut.start + 1) (length (committed_txids fates)))
          (range_below (cut.start + 1) (length (committed_txids fates)) committed (let c = h.told.commits in omega (arith, c))))

      both_waits : (ws : List Wait) → AllByRecursion (IsBegun t cut d_tries committed tick) ws → AllByRecursion (λ (w : Wait). w.root.txid ≢ txid) ws
          → AllByRecursion (λ (w : Wait). (committed < w.root.txid) × (w.root.txid ≢ txid)) ws
      both_waits [] one two = tt
      both_waits (w ∷ ws) one two = ((one.0.later, two.0), both_waits ws one.1 two.1)

      in_pending : (ws : List Wait) → AllByRecursion (λ (w : Wait). (committed < w.root.txid) × (w.root.txid ≢ txid)) ws → AllByRecursion (λ (k : ℕ). (1 ≤ k) × (k ≢ txid)) (map (λ (w : Wait). w.root.txid) ws)
      in_pending [] all = tt
      in_pending (w ∷ ws) all = let low = all.0.0 in ((omega (arith, low), all.0.1), in_pending ws all.1)

  -- what was not gone at a begin was not gone at the start
  pub fresh_then : (n : ℕ) → 1 ≤ n → n ≤ length cut.gone → is_gone gone n ≡ false → is_gone cut.gone n ≡ false
  fresh_then n first last left = no (is_gone cut.gone n) (h.taken.once n first last ∙ refl)
    where
      no : (b : Bool) → one_if (is_gone gone n) ≡ one_if b + times_in (committed_batches fates ++ map spans_of pending) n → b ≡ false
      no true is = let z : one_if (is_gone gone n) ≡ 0 = ap one_if left in absurd (omega (arith, is, z))
      no false is = refl

  module _ (shut : ℕ) (root : Root) (after : committed < root.txid) (free : tally root.txid pending ≡ 0) (some : 1 ≤ length (offered (offers_of cut gone) root.txid shut)) where
    spans_now : List Span
    spans_now = runs_of (offered (offers_of cut gone) root.txid shut)

    abbrev Has : List ℕ → Type 0
    Has numbers = (HasBatch cut root.txid (runs_of numbers)) × ((n : ℕ) → stands_in (runs_of numbers) n ≡ true → is_gone gone n ≡ false)

    batch_there : cut.partitions ≡ 0 → 1 ≤ length (batch_numbers (length cut.records) cut.size root.txid) → Has (batch_numbers (length cut.records) cut.size root.txid)
    batch_there none one = subst (λ (k : ℕ). Has (batch_numbers k cut.size root.txid)) start.marks (with_length (length cut.gone) refl (subst (λ (k : ℕ). 1 ≤ length (batch_numbers k cut.size root.txid)) (sym start.marks) one))
      where
        with_length : (k : ℕ) → k ≡ length cut.gone → 1 ≤ length (batch_numbers k cut.size root.txid) → Has (batch_numbers (length cut.gone) cut.size root.txid)
        with_length k same some_numbers =
            let there : root.txid ≤ batch_count (length cut.gone) cut.size = known (subst (λ (j : ℕ). 1 ≤ length (batch_numbers j cut.size root.txid)) same some_numbers) in
            let first : 1 ≤ root.txid = omega (arith, after) in
            let left = λ (n : ℕ) (is : stands_in (batch_spans (length cut.gone) cut.size root.txid) n ≡ true).
            other_batch_left cut.gone gone cut.size cut.start root.txid n txids_taken (start.batches none)
            (subst (AreTaken cut.gone gone cut.size) (taken_numbered none) h.taken) (let c = h.told.commits in omega (arith, c, after)) (txids_others root.txid after free) is in (
              record {
                later = (let c = h.told.commits in omega (arith, c, after));
                batch = one_batch (length cut.gone) cut.size root.txid start.some first there;
                fresh = λ n is. let has = batch_has (length cut.gone) cut.size root.txid n first is in
                    let low = has.0 in let within = has.2 in fresh_then n (omega (arith, low)) within (left n is);
                numbered = λ no_partitions. (there, refl);
              },
              left,
            )
          where
            known : 1 ≤ length (batch_numbers (length cut.gone) cut.size root.txid) → root.txid ≤ batch_count (length cut.gone) cut.size
            known one_there =
                elim (cases_lt (batch_count (length cut.gone) cut.size) root.txid) [
                  | inl past ↦ let empty = ap length (no_batch (length cut.gone) cut.size root.txid start.some (inr past)) in absurd (omega (arith, one_there, empty))
                  | inr within ↦ within
                ]

    offered_there : 0 < cut.partitions → 1 ≤ length (first_free cut.size cut.partitions shut gone) → Has (first_free cut.size cut.partitions shut gone)
    offered_there partitions one =
        let left = offered_left cut.size cut.partitions shut gone in
        let marks = h.taken.marks in
        let batch = free_is_batch cut.size cut.partitions shut gone one in (
          record {
            later = (let c = h.told.commits in omega (arith, c, after));
            batch = subst (λ (k : ℕ). IsBatch k cut.size (runs_of (first_free cut.size cut.partitions shut gone))) marks batch;
            fresh = λ n is. let in_input = stands_within (length gone) cut.size (runs_of (first_free cut.size cut.partitions shut gone)) n batch is in
                let low = in_input.0 in let high = in_input.1 in fresh_then n low (omega (arith, high, marks)) (left n is);
            numbered = λ no_partitions. absurd (omega (arith, partitions, no_partitions));
          },
          left,
        )

    pub has_offered : Has (offered (offers_of cut gone) root.txid shut)
    has_offered = by (cut.partitions == 0) refl some
      where
        positive : (n : ℕ) → (n == 0) ≡ false → 0 < n
        positive zero off = absurd (zero_is off)
          where
            zero_is : (0 == 0) ≡ false → ⊥
            zero_is e = cc
        positive (suc n) off = omega arith

        by : (b : Bool) → (cut.partitions == 0) ≡ b → 1 ≤ length (cond b (batch_numbers (length cut.records) cut.size root.txid) (first_free cut.size cut.partitions shut gone))
            → Has (cond b (batch_numbers (length cut.records) cut.size root.txid) (first_free cut.size cut.partitions shut gone))
        by true on one = batch_there (eqb-true cut.partitions 0 on) one
        by false off one = offered_there (positive cut.partitions off) one

-- ---- an attempt begins

module _ (t : Topology) (cut : Cut) (start : IsStart cut) (some_buckets : 1 ≤ t.buckets) (shut : ℕ) (d : Desk) (fates : List Attempt) (going : IsGoing t cut d fates) (none : d.exhausted ≡ None) (w : Wait)
    (is : IsNextWait t cut d going.holds.one shut w) where
  abbrev numbers : List ℕ
  numbers = offered (offers_of cut d.gone) w.root.txid shut

  has : HasBatch cut w.root.txid (runs_of numbers) × ((n : ℕ) → stands_in (runs_of numbers) n ≡ true → is_gone d.gone n ≡ false)
  has = has_offered t cut start d.tick d.committed d.tries d.gone d.pending fates going.holds shut w.root is.root.after is.root.free is.some

  here : 0 < cut.partitions → w.root.txid ≡ d.committed + 1 + length d.pending
  here partitions =
      let near = is.root.near in
      let after = is.root.after in
      elim (cases_lt w.root.txid (d.committed + 1 + length d.pending)) [
        | inl less ↦ let one = row_tally (d.committed + 1) w.root.txid d.pending (going.row partitions) (omega (arith, after)) less in let free = is.root.free in absurd (omega (arith, one, free))
        | inr not_less ↦ omega (arith, near, not_less)
      ]

  fronts_now : 0 < cut.partitions → StayFronts cut.partitions (length cut.gone) (is_gone cut.gone) (committed_batches fates ++ map spans_of (d.pending ++ w ∷ []))
  fronts_now partitions =
      subst (StayFronts cut.partitions (length cut.gone) (is_gone cut.gone)) joined
      (stay_taken cut.size cut.partitions shut cut.gone d.gone (batches_taken d fates) going.holds.taken (going.fronts partitions))
    where
      same : numbers ≡ first_free cut.size cut.partitions shut d.gone
      same = ap (λ (b : Bool). cond b (batch_numbers (length cut.records) cut.size w.root.txid) (first_free cut.size cut.partitions shut d.gone)) (off cut.partitions partitions)
        where
          off : (n : ℕ) → 0 < n → (n == 0) ≡ false
          off zero less = absurd (omega arith)
          off (suc n) less = grind (arith, nat_tests)

      joined : batches_taken d fates ++ runs_of (first_free cut.size cut.partitions shut d.gone) ∷ [] ≡ committed_batches fates ++ map spans_of (d.pending ++ w ∷ [])
      joined =
          ap (λ (x : List Span). batches_taken d fates ++ x ∷ []) (ap runs_of (sym same) ∙ sym is.spans)
          ∙ append_assoc (committed_batches fates) (map spans_of d.pending) (w.spans ∷ [])
          ∙ ap (λ xs. committed_batches fates ++ xs) (sym (map-append spans_of d.pending (w ∷ [])))

  pub going_begun : IsGoing t cut (begun t cut w d) fates
  going_begun = record {
    holds = holds_begun t cut d.tick d.committed d.tries d.gone d.pending fates w going.holds is.root.free is.root.number is.root.room is.root.after
        (let n = is.root.near in let r = is.root.room in omega (arith, n, r))
        (subst (HasBatch cut w.root.txid) (sym is.spans) has.0)
        (λ n in_it. has.1 n (ap (λ xs. stands_in xs n) (sym is.spans) ∙ in_it))
        is.now is.timed;
    timely = each-append (IsTimely t.buckets d.tick) d.pending (w ∷ []) going.timely ((λ unsettled. let n = is.now in omega (arith, n, some_buckets)), tt);
    follow = going.follow;
    fronts = fronts_now;
    row = λ partitions. row_push (d.committed + 1) d.pending w (going.row partitions) (here partitions);
    few_drops = going.few_drops;
    most = going.most;
    goes_on = going.goes_on;
    ran_out = going.ran_out;
  }
