-- Whether a record is left uncommitted, and what the coordinator's answer says of the fates.
use Rattle.std.proofs.Common.{◌≡◌, ℕ, zero, suc, ◌+◌, ◌-◌, ◌<◌, ◌≤◌, Bool, true, false, cond, List, [], ◌∷◌, length, map, filter, Some, slice_index_or, subst, sym, ap, ◌∙◌, arith, refl, inl, inr, eq-eqb, true≢false}
use Rattle.std.specs.Prelude.{nat_le}
use Rattle.std.specs.List.{AllByRecursion, range_with_len}
use Rattle.std.proofs.lemmas.Bool.Decides.{nat_tests}
use Rattle.std.proofs.lemmas.Bool.{cases_lt}
use Rattle.std.proofs.lemmas.List.{length-map}
use Rattle.event_worlds.proofs.counted_items.Each.{each-weaker}
use Rattle.event_worlds.proofs.taken_records.Leaving.{some_mark_left}
use Rattle.event_worlds.proofs.taken_records.Running.{stands_within}
use Rattle.event_worlds.proofs.taken_records.Taking.{once_at_most, times_append}
use Rattle.event_worlds.specs.attempt_fates.declared.fates.Attempt.{Attempt}
use Rattle.event_worlds.specs.attempt_fates.Fates.{HasBatch, IsOnce, IsWhole, aborts_of, committed, committed_batches, committed_txids, is_committed}
use Rattle.batch_commits.specs.Standing.{batches_in}
use Rattle.event_worlds.specs.bolt_ops.RowOp.{Custom}
use Rattle.event_worlds.specs.commit_turns.declared.wait.Wait.{Wait}
use Rattle.event_worlds.specs.commit_turns.Desks.{Desk}
use Rattle.event_worlds.specs.commit_turns.Kept.{IsKept, IsWaiting, batches_taken, pending_batches}
use Rattle.event_worlds.specs.commit_turns.Turns.{is_finished}
use Rattle.event_worlds.specs.record_offers.Offers.{is_gone, left_in}
use Rattle.event_worlds.specs.record_spans.declared.span.Span.{Span}
use Rattle.event_worlds.specs.record_spans.Spans.{stands_in}
use Rattle.event_worlds.specs.taken_records.Cuts.{Cut, IsStart}
use Rattle.event_worlds.specs.taken_records.Taken.{IsBatch, one_if, times_in}
use Rattle.event_worlds.specs.topology_plan.Topology.{Topology}
use Rattle.schedule_core.specs.Laws.{WorldLaws}
use Rattle.schedule_core.specs.Runs.{IsLeft, IsUnfinished, committed_count}
use Rattle.storm_stores.specs.CellMaps.{CellMap}

-- more ticks may have been handed out
pub once-later : (cut : Cut) (a b : ℕ) (fates : List Attempt) → IsOnce cut a fates → a ≤ b → IsOnce cut b fates
once-later cut a b fates once later = record {
  in_order = once.in_order;
  numbered = once.numbered;
  last_committed = once.last_committed;
  batches = once.batches;
  apart = once.apart;
  fronts = once.fronts;
  rises = once.rises;
  finishes = once.finishes;
  handed_out = each-weaker (λ (x : Attempt). x.finish ≤ a) (λ (x : Attempt). x.finish ≤ b) (λ x low. omega (arith, later, low)) fates once.handed_out;
}

pub whole-later : (cut : Cut) (a b : ℕ) (fates : List Attempt) → IsWhole cut a fates → a ≤ b → IsWhole cut b fates
whole-later cut a b fates whole later = record { once = once-later cut a b fates whole.once later; all_records = whole.all_records }

-- ---- a record that is left

no_mark : (b : Bool) → one_if b ≡ 0 → b ≡ false
no_mark true none = absurd (omega (arith, none))
no_mark false none = refl

-- a batch has a record
some_record : (records size : ℕ) (spans : List Span) → IsBatch records size spans → (n : ℕ) × (stands_in spans n ≡ true)
some_record records size [] batch = absurd (let some = batch.some in omega (arith, some))
some_record records size (span ∷ spans) batch =
    let least : nat_le span.first span.first ≡ true = grind (arith, nat_tests) in
    let most : nat_le span.first span.last ≡ true = (let long = batch.apart.1 in grind (arith, nat_tests, long)) in
    (span.first, rw (least, most) refl)

-- what holds of each holds of each that is kept
each_kept : {X : Type 0} (P : X → Type 0) (p : X → Bool) (xs : List X) → AllByRecursion P xs → AllByRecursion P (filter p xs)
each_kept P p [] all = tt
each_kept {X} P p (x ∷ xs) all = by (p x) (each_kept P p xs all.1)
  where
    by : (b : Bool) → AllByRecursion P (filter p xs) → AllByRecursion P (cond b (x ∷ filter p xs) (filter p xs))
    by true rest = (all.0, rest)
    by false rest = rest

module _ (t : Topology) (cut : Cut) (d : Desk) (fates : List Attempt) (kept : IsKept t cut d fates) where
  -- a record that is not gone
  left_over : 0 < left_in d.gone → (n : ℕ) × IsLeft cut fates n
  left_over some =
      let one = some_mark_left d.gone some in
      let i = one.0 in
      let within = one.1 in
      let marks = kept.taken.marks in
      let at : i + 1 - 1 ≡ i = omega arith in
      let off : is_gone d.gone (i + 1) ≡ false = ap (λ k. slice_index_or d.gone k true) at ∙ one.2 in
      let last : i + 1 ≤ length cut.gone = omega (arith, within, marks) in
      let equal = kept.taken.once (i + 1) (omega arith) last in
      let none = ap one_if off in
      let both = times_append (committed_batches fates) (pending_batches d) (i + 1) in (
        i + 1,
        record {
          first = omega arith;
          last = last;
          fresh = no_mark (is_gone cut.gone (i + 1)) (omega (arith, equal, none, both));
          in_none = omega (arith, equal, none, both);
        },
      )

  -- a record of an attempt that is pending
  left_pending : (w : Wait) (ws : List Wait) → d.pending ≡ w ∷ ws → (n : ℕ) × IsLeft cut fates n
  left_pending w ws is =
      let waits : IsWaiting t cut d w = (subst (λ (xs : List Wait). AllByRecursion (IsWaiting t cut d) xs) is kept.waits).0 in
      let one = some_record (length cut.gone) cut.size w.spans waits.batch.batch in
      let n = one.0 in
      let within = stands_within (length cut.gone) cut.size w.spans n waits.batch.batch one.1 in
      let once = once_at_most cut.gone d.gone cut.size (batches_taken d fates) n kept.taken within.0 within.1 in
      let both = times_append (committed_batches fates) (pending_batches d) n in
      let here = ap one_if one.1 in
      let pending : times_in (pending_batches d) n ≡ one_if (stands_in w.spans n) + times_in (map (λ (v : Wait). v.spans) ws) n = ap (λ (xs : List Wait). times_in (map (λ (v : Wait). v.spans) xs) n) is in (
        n,
        record { first = within.0; last = within.1; fresh = waits.batch.fresh n one.1; in_none = omega (arith, once, both, here, pending) },
      )

  some_left : is_finished t cut d ≡ false → (n : ℕ) × IsLeft cut fates n
  some_left unfinished =
      elim (cases_lt 0 (left_in d.gone)) [
        | inl some ↦ left_over some
        | inr none ↦ by d.pending refl (omega (arith, none))
      ]
    where
      by : (ws : List Wait) → d.pending ≡ ws → left_in d.gone ≡ 0 → (n : ℕ) × IsLeft cut fates n
      by [] is none =
          let over : is_finished t cut d ≡ true = rw (eq-eqb (left_in d.gone) 0 none, eq-eqb (length d.pending) 0 (ap length is)) refl in
          absurd (true≢false (sym over ∙ unfinished))
      by (w ∷ ws) is none = left_pending w ws is

  -- without partitions no more batches are committed than there are
  few_committed : IsStart cut → cut.partitions ≡ 0 → d.committed ≤ batches_in cut
  few_committed start none = by (length (committed_txids fates)) refl
    where
      txids_there : (xs : List Attempt) → AllByRecursion (λ (a : Attempt). HasBatch cut a.root.txid a.spans) xs → AllByRecursion (λ (k : ℕ). k ≤ batches_in cut) (map (λ (a : Attempt). a.root.txid) xs)
      txids_there [] all = tt
      txids_there (x ∷ xs) all = ((all.0.numbered none).0, txids_there xs all.1)

      last_there : (from n : ℕ) → AllByRecursion (λ (k : ℕ). k ≤ batches_in cut) (range_with_len from (suc n)) → from + n ≤ batches_in cut
      last_there from zero all = let a = all.0 in omega (arith, a)
      last_there from (suc n) all = let r = last_there (from + 1) n all.1 in omega (arith, r)

      by : (n : ℕ) → length (committed_txids fates) ≡ n → d.committed ≤ batches_in cut
      by zero is = let c = kept.commits in let e = start.early none in omega (arith, c, e, is)
      by (suc n) is =
          let c = kept.commits in
          let l = last_there (cut.start + 1) n (subst (λ (k : ℕ). AllByRecursion (λ (j : ℕ). j ≤ batches_in cut) (range_with_len (cut.start + 1) k)) is
          (subst (AllByRecursion (λ (j : ℕ). j ≤ batches_in cut)) kept.once.in_order
          (txids_there (committed fates) (each_kept (λ (a : Attempt). HasBatch cut a.root.txid a.spans) (λ (a : Attempt). is_committed a.end) fates kept.once.batches)))) in
          omega (arith, c, l, is)

-- ---- answers

-- What a desk says of the fates of a run with so many ticks: which transaction ran out of attempts,
-- that no record is left uncommitted, or that some is.
pub record AnswersFor (t : Topology) (cut : Cut) (d : Desk) (ticks : ℕ) (fates : List Attempt)
    : Type 0 where
  pub ran_out : (txid : ℕ) → d.exhausted ≡ Some txid
      → (aborts_of txid fates ≡ t.attempts) × (cut.start + committed_count fates < txid)
  pub whole : is_finished t cut d ≡ true → IsWhole cut ticks fates
  pub unfinished : is_finished t cut d ≡ false → IsUnfinished cut (length (committed fates)) fates

-- what a desk says holds, where it is kept with the fates
pub answers-from : {S : Type 0} (holds : S → CellMap → Type 0) (count : S → ℕ) (t : Topology) (custom : Custom) (cut : Cut) → WorldLaws holds count t custom cut → IsStart cut → (d : Desk) (ticks : ℕ) (fates : List Attempt)
    → IsKept t cut d fates → d.tick ≤ ticks → AnswersFor t cut d ticks fates
answers-from holds count t custom cut laws start d ticks fates kept later = record {
  ran_out = λ txid is. let out = kept.ran_out txid is in (out.0, subst (λ (k : ℕ). k < txid) kept.commits out.1);
  whole = λ done. whole-later cut d.tick ticks fates (laws.whole d fates kept done) later;
  unfinished = λ left. record {
    committed = length-map (committed fates) (λ (a : Attempt). a.root.txid);
    some_left = some_left t cut d fates kept left;
    more_batches = λ none.
        let few = few_committed t cut d fates kept start none in
        let last = laws.at_last_batch d fates start kept none in
        let other : d.committed ≡ batches_in cut → ⊥ = λ all. true≢false (sym (last.1 all) ∙ left) in
        let all = kept.commits in
        let same = length-map (committed fates) (λ (a : Attempt). a.root.txid) in omega (arith, few, other, all, same);
  };
}
