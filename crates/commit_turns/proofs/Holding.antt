-- What holds of the coordinator while a turn goes on, and each small step of it.
use Rattle.std.proofs.Common.{◌≡◌, ◌≢◌, inl, inr, ℕ, ◌+◌, ◌<◌, ◌≤◌, ◌==◌, ◌&&◌, Bool, true, false, cond, None, Some, List, [], ◌∷◌, ◌++◌, length, map, refl, sym, ap, subst, ◌∙◌, arith}
use Rattle.std.specs.Prelude.{IsTrue}
use Rattle.std.specs.List.{AllByRecursion}
use Rattle.std.proofs.lemmas.Bool.{cases_eq}
use Rattle.std.proofs.lemmas.List.{append-nil, append_assoc, length-append, map-append}
use Rattle.tuple_account.proofs.counted_items.Each.{each-append, each-front, each-back, each-weaker, each-both}
use Rattle.tuple_account.proofs.counted_items.Weighing.{weigh-append}
use Rattle.tuple_account.specs.storm_values.declared.value.Root.{Root}
use Rattle.tuple_account.specs.topology_plan.Topology.{Topology}
use Rattle.tuple_account.specs.tree_model.Lists.{IsClosed}
use Rattle.tuple_account.specs.tree_model.declared.messages.AckMsg.{AckMsg}
use Rattle.record_spans.specs.declared.span.Span.{Span}
use Rattle.record_spans.specs.Spans.{stands_in}
use Rattle.record_offers.specs.Offers.{is_gone}
use Rattle.taken_records.specs.Taken.{AreTaken, marked}
use Rattle.taken_records.proofs.Taking.{one_back, one_moved, one_taken}
use Rattle.commit_turns.specs.declared.wait.Wait.{Wait}
use Rattle.commit_turns.proofs.Lists.{kept_push}
use Rattle.commit_turns.proofs.Tallies.{own, own-few, own-itself, own-other, tally, tally-split, others, others-beside}
use Rattle.taken_records.specs.Cuts.{Cut}
use Rattle.attempt_fates.specs.declared.fates.Attempt.{Attempt}
use Rattle.attempt_fates.specs.declared.fates.End.{End}
use Rattle.attempt_fates.specs.Fates.{HasBatch, aborts_of, attempt_numbers, committed_batches, is_abort, is_committed, is_failed_commit}
use Rattle.commit_turns.specs.Desks.{ended_at}
use Rattle.replay_pending.specs.InFlight.{Tries, tried, with_begun, with_aborted}
use Rattle.commit_turns.proofs.Tallying.{begun-aborted, aborted-begun, aborted-aborted, tried-other, tried-own}
use Rattle.commit_turns.proofs.Telling.{Told, count_push, aborts_push, one_more, told_push, told_tick}

abbrev pub spans_of : Wait → List Span
spans_of w = w.spans

-- a pending attempt, whether it is late or not
pub record IsBegun (t : Topology) (cut : Cut) (tries : Tries) (committed tick : ℕ) (w : Wait) : Type 0 where
  pub number : w.root.attempt ≡ (tried w.root.txid tries).begun
  pub later : committed < w.root.txid
  pub near : w.root.txid ≤ committed + t.pending
  pub batch : HasBatch cut w.root.txid w.spans
  pub starts : w.start ≤ tick
  pub closed : (list : List AckMsg) → w.settled ≡ Some list → IsClosed list

-- What is kept beside the fates: attempts that were begun ended or are pending, one of a transaction at a time, and each
-- record is taken once at most.
pub record Holds (t : Topology) (cut : Cut) (tick committed : ℕ) (tries : Tries) (gone : List Bool) (pending : List Wait) (fates : List Attempt) : Type 0 where
  pub told : Told cut committed tick fates
  pub begun : (txid : ℕ) → (tried txid tries).begun ≡ length (attempt_numbers txid fates) + tally txid pending
  pub aborted : (txid : ℕ) → (tried txid tries).aborted ≡ aborts_of txid fates
  pub one : (txid : ℕ) → tally txid pending ≤ 1
  pub waits : AllByRecursion (IsBegun t cut tries committed tick) pending
  pub few : length pending ≤ t.pending
  pub taken : AreTaken cut.gone gone cut.size (committed_batches fates ++ map spans_of pending)

length-split : (before behind : List Wait) (w : Wait) → length (before ++ w ∷ behind) ≡ length (before ++ behind) + 1
length-split before behind w =
    let e = length-append before (w ∷ behind) in
    let f = length-append before behind in omega arith

none_some : {X : Type 0} (x : X) → None ≡ Some x → ⊥
none_some x e = cc

same_some : {X : Type 0} (x y : X) → Some x ≡ Some y → x ≡ y
same_some x y e = cc

pub batches_push : (fates : List Attempt) (a : Attempt) (b : Bool) → is_committed a.end ≡ b → committed_batches (fates ++ a ∷ []) ≡ committed_batches fates ++ cond b (a.spans ∷ []) []
batches_push fates a b is = kept_push (λ (x : Attempt). is_committed x.end) (λ (x : Attempt). x.spans) fates a ∙ ap (λ (c : Bool). committed_batches fates ++ cond c (a.spans ∷ []) []) is

map_split : (before behind : List Wait) (w : Wait) → map spans_of (before ++ w ∷ behind) ≡ map spans_of before ++ w.spans ∷ map spans_of behind
map_split before behind w = map-append spans_of before (w ∷ behind)

fewer_begun : (t : Topology) (cut : Cut) (tries more : Tries) (committed tick : ℕ) (ws : List Wait) → ((txid : ℕ) → (tried txid more).begun ≡ (tried txid tries).begun)
    → AllByRecursion (IsBegun t cut tries committed tick) ws → AllByRecursion (IsBegun t cut more committed tick) ws
fewer_begun t cut tries more committed tick ws same all =
    each-weaker (IsBegun t cut tries committed tick) (IsBegun t cut more committed tick)
    (λ w is. record { number = is.number ∙ sym (same w.root.txid); later = is.later; near = is.near; batch = is.batch; starts = is.starts; closed = is.closed }) ws all

module _ (t : Topology) (cut : Cut) (tick committed : ℕ) (tries : Tries) (gone : List Bool) (fates : List Attempt) (before behind : List Wait) (w : Wait)
    (h : Holds t cut tick committed tries gone (before ++ w ∷ behind) fates) where
  pub among : IsBegun t cut tries committed tick w
  among = (each-back (IsBegun t cut tries committed tick) before (w ∷ behind) h.waits).0

  beside : AllByRecursion (IsBegun t cut tries committed tick) (before ++ behind)
  beside =
      each-append (IsBegun t cut tries committed tick) before behind (each-front (IsBegun t cut tries committed tick) before (w ∷ behind) h.waits)
      (each-back (IsBegun t cut tries committed tick) before (w ∷ behind) h.waits).1

  -- it is the next one of its transaction that ends
  pub next : w.root.attempt ≡ length (attempt_numbers w.root.txid fates) + 1
  next =
      let n = among.number in
      let e = h.begun w.root.txid in
      let o = h.one w.root.txid in
      let s = tally-split w.root.txid before behind w in
      let i = own-itself w.root.txid w.root.txid refl in omega arith

  -- an attempt is settled with a closed list
  pub holds_settled : (list : List AckMsg) → IsClosed list → Holds t cut tick committed tries gone (before ++ record w { settled = Some list } ∷ behind) fates
  holds_settled list closed = record {
    told = h.told;
    begun = λ txid. (let e = h.begun txid in let s = same txid in omega arith);
    aborted = h.aborted;
    one = λ txid. (let o = h.one txid in let s = same txid in omega arith);
    waits = each-append (IsBegun t cut tries committed tick) before (record w { settled = Some list } ∷ behind) (each-front (IsBegun t cut tries committed tick) before (w ∷ behind) h.waits)
        (now, (each-back (IsBegun t cut tries committed tick) before (w ∷ behind) h.waits).1);
    few = (let f = h.few in let x = length-split before behind w in let y = length-split before behind (record w { settled = Some list }) in omega arith);
    taken = subst (λ xs. AreTaken cut.gone gone cut.size (committed_batches fates ++ xs)) (map_split before behind w ∙ sym (map_split before behind (record w { settled = Some list }))) h.taken;
  }
    where
      same : (txid : ℕ) → tally txid (before ++ record w { settled = Some list } ∷ behind) ≡ tally txid (before ++ w ∷ behind)
      same txid =
          let x = tally-split txid before behind w in
          let y = tally-split txid before behind (record w { settled = Some list }) in omega arith

      now : IsBegun t cut tries committed tick (record w { settled = Some list })
      now = record {
        number = among.number;
        later = among.later;
        near = among.near;
        batch = among.batch;
        starts = among.starts;
        closed = λ other is. subst IsClosed (same_some list other is) closed;
      }

  module _ (how : End) where
    told_one : (b : Bool) → is_committed how ≡ b → (b ≡ true → w.root.txid ≡ committed + 1) → (IsTrue (is_failed_commit how) → w.root.txid ≡ committed + 1)
        → Told cut (one_more b committed) tick (fates ++ ended_at tick how w ∷ [])
    told_one b is by_turn failed = told_push cut committed tick fates h.told (ended_at tick how w) among.batch among.starts refl next among.later b is by_turn failed

    begun_one : (txid : ℕ) → (tried txid tries).begun ≡ length (attempt_numbers txid (fates ++ ended_at tick how w ∷ [])) + tally txid (before ++ behind)
    begun_one txid =
        let e = h.begun txid in
        let c = count_push txid fates (ended_at tick how w) in
        let s = tally-split txid before behind w in omega arith

    one_less : (txid : ℕ) → tally txid (before ++ behind) ≤ 1
    one_less txid = let o = h.one txid in let s = tally-split txid before behind w in omega arith

    fewer : length (before ++ behind) ≤ t.pending
    fewer = let f = h.few in let l = length-split before behind w in omega arith

    split_taken : AreTaken cut.gone gone cut.size ((committed_batches fates ++ map spans_of before) ++ w.spans ∷ map spans_of behind)
    split_taken =
        subst (AreTaken cut.gone gone cut.size)
        (ap (λ xs. committed_batches fates ++ xs) (map_split before behind w) ∙ sym (append_assoc (committed_batches fates) (map spans_of before) (w.spans ∷ map spans_of behind)))
        h.taken

    joined_map : (xs : List (List Span)) → (xs ++ map spans_of before) ++ map spans_of behind ≡ xs ++ map spans_of (before ++ behind)
    joined_map xs = append_assoc xs (map spans_of before) (map spans_of behind) ∙ ap (λ ys. xs ++ ys) (sym (map-append spans_of before behind))

    back_taken : is_committed how ≡ false → AreTaken cut.gone (marked false w.spans gone) cut.size (committed_batches (fates ++ ended_at tick how w ∷ []) ++ map spans_of (before ++ behind))
    back_taken is =
        subst (AreTaken cut.gone (marked false w.spans gone) cut.size)
        (joined_map (committed_batches fates) ∙ ap (λ xs. xs ++ map spans_of (before ++ behind)) (sym (batches_push fates (ended_at tick how w) false is ∙ append-nil (committed_batches fates))))
        (one_back cut.gone gone cut.size (committed_batches fates ++ map spans_of before) (map spans_of behind) w.spans split_taken)

    aborts_one : (b : Bool) → is_abort how ≡ b → (txid : ℕ) → aborts_of txid (fates ++ ended_at tick how w ∷ []) ≡ aborts_of txid fates + cond ((w.root.txid == txid) && b) 1 0
    aborts_one b is txid = aborts_push txid fates (ended_at tick how w) ∙ ap (λ (c : Bool). aborts_of txid fates + cond ((w.root.txid == txid) && c) 1 0) is

    -- an attempt falls
    pub holds_abort : is_committed how ≡ false → is_abort how ≡ true → (IsTrue (is_failed_commit how) → w.root.txid ≡ committed + 1)
        → Holds t cut tick committed (with_aborted w.root.txid tries) (marked false w.spans gone) (before ++ behind) (fates ++ ended_at tick how w ∷ [])
    holds_abort is fell failed = record {
      told = told_one false is (λ on. absurd (elsewhere on)) failed;
      begun = λ txid. begun-aborted tries w.root.txid txid ∙ begun_one txid;
      aborted = λ txid. (let a = aborted-aborted tries w.root.txid txid in let b = aborts_one true fell txid in let c = same (w.root.txid == txid) in let e = h.aborted txid in omega arith);
      one = one_less;
      waits = fewer_begun t cut tries (with_aborted w.root.txid tries) committed tick (before ++ behind) (begun-aborted tries w.root.txid) beside;
      few = fewer;
      taken = back_taken is;
    }
      where
        elsewhere : false ≡ true → ⊥
        elsewhere e = cc

        same : (b : Bool) → cond {A = ℕ} (b && true) 1 0 ≡ cond {A = ℕ} b 1 0
        same true = refl
        same false = refl

    -- an attempt is dropped
    pub holds_drop : is_committed how ≡ false → is_abort how ≡ false → (IsTrue (is_failed_commit how) → ⊥)
        → Holds t cut tick committed tries (marked false w.spans gone) (before ++ behind) (fates ++ ended_at tick how w ∷ [])
    holds_drop is fell never = record {
      told = told_one false is (λ on. absurd (elsewhere on)) (λ failed. absurd (never failed));
      begun = begun_one;
      aborted = λ txid. (let b = aborts_one false fell txid in let c = none (w.root.txid == txid) in let e = h.aborted txid in omega arith);
      one = one_less;
      waits = beside;
      few = fewer;
      taken = back_taken is;
    }
      where
        elsewhere : false ≡ true → ⊥
        elsewhere e = cc

        none : (b : Bool) → cond {A = ℕ} (b && false) 1 0 ≡ 0
        none true = refl
        none false = refl

    -- the attempt of the next transaction is committed
    pub holds_commit : is_committed how ≡ true → is_abort how ≡ false → w.root.txid ≡ committed + 1
        → Holds t cut tick (committed + 1) tries gone (before ++ behind) (fates ++ ended_at tick how w ∷ [])
    holds_commit is fell turn = record {
      told = told_one true is (λ on. turn) (λ failed. turn);
      begun = begun_one;
      aborted = λ txid. (let b = aborts_one false fell txid in let c = none (w.root.txid == txid) in let e = h.aborted txid in omega arith);
      one = one_less;
      waits = each-weaker (λ (v : Wait). IsBegun t cut tries committed tick v × (v.root.txid ≢ w.root.txid)) (IsBegun t cut tries (committed + 1) tick) still_later (before ++ behind)
          (each-both (IsBegun t cut tries committed tick) (λ (v : Wait). v.root.txid ≢ w.root.txid) (before ++ behind) beside (others-beside before behind w h.one));
      few = fewer;
      taken = subst (AreTaken cut.gone gone cut.size)
          (ap (λ xs. (committed_batches fates ++ w.spans ∷ []) ++ xs) (sym (map-append spans_of before behind))
          ∙ ap (λ xs. xs ++ map spans_of (before ++ behind)) (sym (batches_push fates (ended_at tick how w) true is)))
          (one_moved cut.gone gone cut.size (committed_batches fates) (map spans_of before) (map spans_of behind) w.spans
          (subst (λ xs. AreTaken cut.gone gone cut.size (committed_batches fates ++ xs)) (map_split before behind w) h.taken));
    }
      where
        none : (b : Bool) → cond {A = ℕ} (b && false) 1 0 ≡ 0
        none true = refl
        none false = refl

        still_later : (v : Wait) → IsBegun t cut tries committed tick v × (v.root.txid ≢ w.root.txid) → IsBegun t cut tries (committed + 1) tick v
        still_later v both = record {
          number = both.0.number;
          later = (let l = both.0.later in let o : v.root.txid ≢ committed + 1 = (λ same. both.1 (same ∙ sym turn)) in omega arith);
          near = (let n = both.0.near in omega arith);
          batch = both.0.batch;
          starts = both.0.starts;
          closed = both.0.closed;
        }

-- one more tick is counted
pub holds_tick : (t : Topology) (cut : Cut) (tick committed : ℕ) (tries : Tries) (gone : List Bool) (pending : List Wait) (fates : List Attempt)
    → Holds t cut tick committed tries gone pending fates → Holds t cut (tick + 1) committed tries gone pending fates
holds_tick t cut tick committed tries gone pending fates h = record {
  told = told_tick cut committed tick fates h.told;
  begun = h.begun;
  aborted = h.aborted;
  one = h.one;
  waits = each-weaker (IsBegun t cut tries committed tick) (IsBegun t cut tries committed (tick + 1))
      (λ w is. record { number = is.number; later = is.later; near = is.near; batch = is.batch; starts = (let s = is.starts in omega arith); closed = is.closed }) pending h.waits;
  few = h.few;
  taken = h.taken;
}

module _ (t : Topology) (cut : Cut) (tick committed : ℕ) (tries : Tries) (gone : List Bool) (pending : List Wait) (fates : List Attempt) (fresh : Wait)
    (h : Holds t cut tick committed tries gone pending fates) (free : tally fresh.root.txid pending ≡ 0)
    (next_one : fresh.root.attempt ≡ (tried fresh.root.txid tries).begun + 1) (room : length pending < t.pending) (after : committed < fresh.root.txid)
    (near : fresh.root.txid ≤ committed + t.pending) (batch : HasBatch cut fresh.root.txid fresh.spans) (left : (n : ℕ) → stands_in fresh.spans n ≡ true → is_gone gone n ≡ false)
    (now : fresh.start ≡ tick) (timed : fresh.settled ≡ None) where
  abbrev root : Root
  root = fresh.root

  abbrev counts : Tries
  counts = with_begun root.txid root.attempt tries

  tally_fresh : (txid : ℕ) → tally txid (pending ++ fresh ∷ []) ≡ tally txid pending + own txid root.txid
  tally_fresh txid = let e = weigh-append (λ (v : Wait). own txid v.root.txid) pending (fresh ∷ []) in omega arith

  begun_own : (txid : ℕ) → root.txid ≡ txid → (tried txid counts).begun ≡ root.attempt
  begun_own txid same = ap (λ x. x.begun) (tried-own tries root.txid txid (record { begun = root.attempt; aborted = (tried root.txid tries).aborted }) same)

  begun_other : (txid : ℕ) → root.txid ≢ txid → (tried txid counts).begun ≡ (tried txid tries).begun
  begun_other txid differ = ap (λ x. x.begun) (tried-other tries root.txid txid (record { begun = root.attempt; aborted = (tried root.txid tries).aborted }) differ)

  begun_more : (txid : ℕ) → (tried txid counts).begun ≡ length (attempt_numbers txid fates) + tally txid (pending ++ fresh ∷ [])
  begun_more txid =
      let e = h.begun txid in
      let p = tally_fresh txid in
      elim (cases_eq root.txid txid) [
        | inl on ↦
            let c = begun_own txid on in
            let o = own-itself txid root.txid on in
            let n : root.attempt ≡ (tried txid tries).begun + 1 = subst (λ (k : ℕ). root.attempt ≡ (tried k tries).begun + 1) on next_one in
            let f : tally txid pending ≡ 0 = subst (λ (k : ℕ). tally k pending ≡ 0) on free in omega arith
        | inr off ↦
            let c = begun_other txid off in
            let o = own-other txid root.txid off in omega arith
      ]

  one_more_pending : (txid : ℕ) → tally txid (pending ++ fresh ∷ []) ≤ 1
  one_more_pending txid =
      let e = h.one txid in
      let p = tally_fresh txid in
      elim (cases_eq root.txid txid) [
        | inl on ↦
            let o = own-few txid root.txid in
            let f : tally txid pending ≡ 0 = subst (λ (k : ℕ). tally k pending ≡ 0) on free in omega arith
        | inr off ↦ let o = own-other txid root.txid off in omega arith
      ]

  stays : (v : Wait) → IsBegun t cut tries committed tick v × (v.root.txid ≢ root.txid) → IsBegun t cut counts committed tick v
  stays v both = record {
    number = both.0.number ∙ sym (begun_other v.root.txid (λ same. both.1 (sym same)));
    later = both.0.later;
    near = both.0.near;
    batch = both.0.batch;
    starts = both.0.starts;
    closed = both.0.closed;
  }

  first : IsBegun t cut counts committed tick fresh
  first = record {
    number = sym (begun_own root.txid refl);
    later = after;
    near = near;
    batch = batch;
    starts = omega arith;
    closed = λ list is. absurd (none_some list (sym timed ∙ is));
  }

  -- an attempt begins
  pub holds_begun : Holds t cut tick committed counts (marked true fresh.spans gone) (pending ++ fresh ∷ []) fates
  holds_begun = record {
    told = h.told;
    begun = begun_more;
    aborted = λ txid. aborted-begun tries root.txid root.attempt txid ∙ h.aborted txid;
    one = one_more_pending;
    waits = each-append (IsBegun t cut counts committed tick) pending (fresh ∷ [])
        (each-weaker (λ (v : Wait). IsBegun t cut tries committed tick v × (v.root.txid ≢ root.txid)) (IsBegun t cut counts committed tick) stays pending
        (each-both (IsBegun t cut tries committed tick) (λ (v : Wait). v.root.txid ≢ root.txid) pending h.waits (others root.txid pending free)))
        (first, tt);
    few = (let l = length-append pending (fresh ∷ []) in omega arith);
    taken = subst (AreTaken cut.gone (marked true fresh.spans gone) cut.size)
        (append_assoc (committed_batches fates) (map spans_of pending) (fresh.spans ∷ []) ∙ ap (λ xs. committed_batches fates ++ xs) (sym (map-append spans_of pending (fresh ∷ []))))
        (one_taken cut.gone gone cut.size (committed_batches fates ++ map spans_of pending) [] fresh.spans
        (subst (AreTaken cut.gone gone cut.size) (sym (append-nil (committed_batches fates ++ map spans_of pending))) h.taken) batch.batch left);
  }
