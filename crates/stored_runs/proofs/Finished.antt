-- Where nothing is lost a run of enough rounds answers that every batch is committed.
use Rattle.std.proofs.Common.{◌≡◌, ◌≤◌, ◌<◌, ◌-◌, ◌^◌, ◌⊎◌, ◌==◌, ◌&&◌, inl, inr, ℕ, zero, suc, Bool, true, false, cond, List, [], ◌∷◌, ◌++◌, All, length, filter, sum, Option, None, Some, is_some, Result, Ok, Err, refl, sym, ap, subst, ◌∙◌, arith, eqb-true, true≢false}
use Rattle.std.specs.List.{AllByRecursion, cons_option}
use Rattle.std.proofs.lemmas.Bool.{cases_lt}
use Rattle.std.proofs.lemmas.List.Elements.{All-from_recursion, All-weaker, recursion_from_All}
use Rattle.event_worlds.specs.attempt_fates.declared.fates.Attempt.{Attempt}
use Rattle.event_worlds.specs.attempt_fates.declared.fates.End.{End}
use Rattle.event_worlds.specs.attempt_fates.declared.fates.End.TheVariants as end
use Rattle.event_worlds.specs.attempt_fates.Fates.{HasBatch, aborts_of, committed, is_abort, is_failed_commit}
use Rattle.batch_commits.specs.Standing.{batches_in, failed_commits}
use Rattle.event_worlds.specs.bolt_ops.RowOp.{Custom, IsCustom}
use Rattle.event_worlds.specs.commit_order.declared.stop.Stop.{Stop}
use Rattle.event_worlds.specs.commit_turns.Desks.{Desk}
use Rattle.event_worlds.specs.commit_turns.Kept.{IsKept}
use Rattle.event_worlds.specs.commit_turns.Outcomes.{IsOutcome}
use Rattle.event_worlds.specs.commit_turns.Turns.{is_finished}
use Rattle.event_worlds.proofs.counted_items.Each.{each-front}
use Rattle.event_worlds.specs.Accounted.{IsInput}
use Rattle.event_worlds.specs.Rounds.{CanFinish, DoesNotCoincide, HasRounds, rounds_needed, ticks_in}
use Rattle.event_worlds.specs.Worlds.{Known, Step, World, first_known, is_over, outcome_by, outcomes_of, run}
use Rattle.schedule_core.specs.declared.ended.Ended.{Ended}
use Rattle.schedule_core.specs.declared.ended.Ended.TheVariants as ended
use Rattle.schedule_core.specs.Runs.{HasRoundsOf, ended as ended_of, first_answers}
use Rattle.schedule_core.specs.Schedules.{IsOfWorld, answer_by, answer_of}
use Rattle.event_worlds.specs.state_parts.declared.answer.CommitOutcome.{CommitOutcome}
use Rattle.event_worlds.specs.state_parts.declared.answer.CommitOutcome.TheVariants.{Done}
use Rattle.event_worlds.specs.state_parts.Makers.{RoseBySum}
use Rattle.event_worlds.specs.storm_values.Counts.{Rose}
use Rattle.stored_runs.proofs.Prefixes.{Front, front_of, grows-run, over-finished, run-both, run-over, sum_of_first}
use Rattle.stored_runs.specs.Laws.{WorldLaws}
use Rattle.event_worlds.specs.topology_plan.Topology.{Topology}
use Rattle.event_worlds.specs.taken_records.Cuts.{Cut, IsStart}
use Rattle.world_progress.specs.Lasting.{NoneAborted}
use Rattle.world_progress.specs.Rounding.{ShutsNone}

-- ---- no commit failed

-- a count that did not rise was not raised
pub not_raised : (more before after : ℕ) → RoseBySum more before after → before ≤ 2 ^ 64 - 1
    → (Rose before after → ⊥) → more ≡ 0
not_raised zero before after by ends none = refl
not_raised (suc n) before after (inl rose) ends none = absurd (none (inl (omega arith)))
not_raised (suc n) before after (inr end) ends none = at (cases_lt before after)
  where
    at : (before < after) ⊎ (after ≤ before) → suc n ≡ 0
    at (inl less) = absurd (none (inl less))
    at (inr most) = absurd (none (inr (omega arith)))

done_each : (fates : List Attempt) → failed_commits fates ≡ 0
    → AllByRecursion (λ (how : CommitOutcome). how ≡ Done) (outcomes_of fates)
done_each [] none = tt
done_each (a ∷ fates) none = by (λ few. done_each fates few) a.end none
  where
    by : (failed_commits fates ≡ 0
        → AllByRecursion (λ (how : CommitOutcome). how ≡ Done) (outcomes_of fates)) → (e : End)
        → length
        (cond (is_failed_commit e) (a ∷ filter (λ (x : Attempt). is_failed_commit x.end) fates)
        (filter (λ (x : Attempt). is_failed_commit x.end) fates))
        ≡ 0
        → AllByRecursion (λ (how : CommitOutcome). how ≡ Done)
        (cons_option (outcome_by e) (outcomes_of fates))
    by rest (end.Committed list) few = (refl, rest few)
    by rest (end.Failed path) few = rest few
    by rest end.TimedOut few = rest few
    by rest (end.Coincided list) few = rest few
    by rest (end.CommitFailed c p before after) few = absurd (omega arith)
    by rest (end.Dropped root) few = rest few

-- where no commit failed all outcomes are done
are_done : (fates : List Attempt) → failed_commits fates ≡ 0
    → All (λ (how : CommitOutcome). how ≡ Done) (outcomes_of fates)
are_done fates none =
    All-from_recursion (λ (how : CommitOutcome). how ≡ Done) (outcomes_of fates)
    (done_each fates none)

-- ---- no transaction ran out of attempts

-- where no attempt aborts none of a transaction does
no_abort : (txid : ℕ) (fates : List Attempt)
    → AllByRecursion (λ (a : Attempt). is_abort a.end ≡ false) fates → aborts_of txid fates ≡ 0
no_abort txid [] none = refl
no_abort txid (a ∷ fates) none =
    by (a.root.txid == txid) (is_abort a.end) none.0 ∙ no_abort txid fates none.1
  where
    by : (b c : Bool) → c ≡ false
        → length
        (cond (b && c) (a ∷ filter (λ (x : Attempt). (x.root.txid == txid) && is_abort x.end) fates)
        (filter (λ (x : Attempt). (x.root.txid == txid) && is_abort x.end) fates))
        ≡ aborts_of txid fates
    by true true is = absurd (true≢false is)
    by true false is = refl
    by false c is = refl

-- without partitions a transaction of which an attempt aborted is that of a batch that is there
of_batch : (cut : Cut) (txid : ℕ) (fates : List Attempt) → cut.partitions ≡ 0
    → AllByRecursion (λ (a : Attempt). HasBatch cut a.root.txid a.spans) fates
    → 1 ≤ aborts_of txid fates → txid ≤ batches_in cut
of_batch cut txid [] none each some = absurd (omega (arith, some))
of_batch cut txid (a ∷ fates) none each some =
    by (of_batch cut txid fates none each.1) (a.root.txid == txid) (is_abort a.end) refl some
  where
    by : (1 ≤ aborts_of txid fates → txid ≤ batches_in cut) → (b c : Bool)
        → (a.root.txid == txid) ≡ b
        → 1 ≤ length
        (cond (b && c) (a ∷ filter (λ (x : Attempt). (x.root.txid == txid) && is_abort x.end) fates)
        (filter (λ (x : Attempt). (x.root.txid == txid) && is_abort x.end) fates))
        → txid ≤ batches_in cut
    by rest true true is more =
        subst (λ (n : ℕ). n ≤ batches_in cut) (eqb-true a.root.txid txid is)
        (each.0.numbered none).0
    by rest true false is more = rest more
    by rest false c is more = rest more

-- where no record is left uncommitted no transaction ran out of attempts
not_exhausted : (t : Topology) (custom : Custom) (cut : Cut) (d : Desk) (fates : List Attempt)
    → WorldLaws t custom cut → IsStart cut → IsKept t cut d fates → NoneAborted cut fates
    → 1 ≤ t.attempts → is_finished t cut d ≡ true → (txid : ℕ) → d.exhausted ≡ Some txid → ⊥
not_exhausted t custom cut d fates laws start kept none_abort some done txid is =
    by (cases_lt 0 cut.partitions)
  where
    out : (aborts_of txid fates ≡ t.attempts) × (d.committed < txid)
    out = kept.ran_out txid is

    by : (0 < cut.partitions) ⊎ (cut.partitions ≤ 0) → ⊥
    by (inl more) =
        let all = out.0 in
        let none = no_abort txid fates
        (recursion_from_All (λ (a : Attempt). is_abort a.end ≡ false) fates (none_abort more)) in
        omega (arith, all, none, some)
    by (inr fewer) =
        let none : cut.partitions ≡ 0 = omega (arith, fewer) in
        let last : d.committed ≡ batches_in cut = (laws.at_last_batch d fates start kept none).0 done in
        let all = out.0 in
        let there = of_batch cut txid fates none kept.once.batches (omega (arith, all, some)) in
        let few = out.1 in omega (arith, last, there, few)

-- so it answers that all is committed
finished_answer : (t : Topology) (custom : Custom) (cut : Cut) (w : World)
    → WorldLaws t custom cut → IsStart cut → IsKept t cut w.desk w.fates
    → NoneAborted cut w.fates → 1 ≤ t.attempts → is_finished t cut w.desk ≡ true
    → answer_of t cut w ≡ Ok ended.All
finished_answer t custom cut w laws start kept none_abort some done =
    by w.desk.exhausted (is_finished t cut w.desk)
    (not_exhausted t custom cut w.desk w.fates laws start kept none_abort some done) done
  where
    by : (o : Option ℕ) (b : Bool) → ((txid : ℕ) → o ≡ Some txid → ⊥) → b ≡ true
        → answer_by o b (length (committed w.fates)) ≡ Ok ended.All
    by (Some txid) b none is = absurd (none txid refl)
    by None b none is = ap (λ (c : Bool). answer_by None c (length (committed w.fates))) is

-- ---- when all is over

-- a run of rounds that a world answers is over
over_answer : (t : Topology) (cut : Cut) (w : World) (done : Result (Unit {0}) Stop)
    → ended_of done ≡ answer_of t cut w → is_over t cut w ≡ true
over_answer t cut w done is = by w.desk.exhausted (is_finished t cut w.desk) is
  where
    no_end : (r : Result (Unit {0}) Stop) (k : ℕ) → ended_of r ≡ Ok (ended.Unfinished k) → ⊥
    no_end (Ok all) k same = cc
    no_end (Err e) k same = cc

    by : (o : Option ℕ) (b : Bool) → ended_of done ≡ answer_by o b (length (committed w.fates))
        → cond (is_some o) true b ≡ true
    by (Some txid) b same = refl
    by None true same = refl
    by None false same = absurd (no_end done (length (committed w.fates)) same)

module _ (t : Topology) (custom : Custom) (cut : Cut) (laws : WorldLaws t custom cut)
    (input : IsInput t cut) (keeps : IsCustom custom) (can : CanFinish t) (words : ℕ → ℕ → ℕ)
    (fates : List Attempt) (no_failure : failed_commits fates ≡ 0)
    (apart : All DoesNotCoincide fates) where
  abbrev after : List Step → Known
  after steps = run t custom cut words (outcomes_of fates) steps (first_known t cut words)

  good : All (IsOutcome t) (outcomes_of fates)
  good =
      All-weaker (λ (how : CommitOutcome). how ≡ Done) (IsOutcome t)
      (λ how is. subst (IsOutcome t) (sym is) tt) (outcomes_of fates) (are_done fates no_failure)

  kept_after : (steps : List Step) → IsKept t cut (after steps).world.desk (after steps).world.fates
  kept_after steps =
      (laws.led words (outcomes_of fates) steps (first_known t cut words) input keeps good
      (laws.first words input)).1.kept

  -- the answer where the world after these steps has committed all
  from_finished : (steps : List Step) (answer : Result Ended Stop)
      → IsOfWorld t custom cut words steps answer fates
      → NoneAborted cut (after steps).world.fates
      → is_finished t cut (after steps).world.desk ≡ true → answer ≡ Ok ended.All
  from_finished steps answer is none_abort done =
      is.answer_is
      ∙ finished_answer t custom cut (after steps).world laws input.start (kept_after steps)
      none_abort input.valid.attempts.0 done

  -- a schedule with enough rounds
  pub given_all : (steps : List Step) (answer : Result Ended Stop)
      → IsOfWorld t custom cut words steps answer fates
      → HasRounds t (rounds_needed t custom cut) steps → ticks_in steps < t.buckets
      → (0 < cut.partitions → All ShutsNone steps) → answer ≡ Ok ended.All
  given_all steps answer is rounds few opened =
      from_finished steps answer is
      (laws.none_abort words (outcomes_of fates) steps input keeps can (are_done fates no_failure)
      few (subst (All DoesNotCoincide) is.fates_are apart))
      (laws.rounds words (outcomes_of fates) steps input keeps can (are_done fates no_failure)
      (subst (All DoesNotCoincide) is.fates_are apart) rounds few opened)

  -- a run of rounds of which the first are enough
  pub rounds_all : (steps : List Step) (answers shuts to_come : List ℕ)
      (done : Result (Unit {0}) Stop)
      → IsOfWorld t custom cut words steps (ended_of done) fates → HasRoundsOf t answers shuts steps
      → All ShutsNone steps → answers ≡ first_answers (length answers) to_come
      → sum (first_answers (rounds_needed t custom cut) to_come) < t.buckets
      → ended_of done ≡ Ok ended.All
  rounds_all steps answers shuts to_come done is has opened are few =
      from_finished steps (ended_of done) is
      (subst (λ (k : Known). NoneAborted cut k.world.fates) (sym same)
      (laws.none_abort words (outcomes_of fates) f.front input keeps can
      (are_done fates no_failure) few_ticks first_apart))
      (subst (λ (k : Known). is_finished t cut k.world.desk ≡ true) (sym same) finished)
    where
      f : Front t (rounds_needed t custom cut) answers steps
      f = front_of t (rounds_needed t custom cut) answers shuts steps has

      over : is_over t cut (after steps).world ≡ true
      over = over_answer t cut (after steps).world done is.answer_is

      -- nothing changed in the rounds that were added
      longer : after (f.front ++ f.rest) ≡ after steps
      longer =
          ap after (sym f.same)
          ∙ run-both t custom cut words (outcomes_of fates) steps f.more (first_known t cut words)
          ∙ run-over t custom cut words (outcomes_of fates) f.more (after steps) over

      split : after (f.front ++ f.rest)
          ≡ run t custom cut words (outcomes_of fates) f.rest (after f.front)
      split = run-both t custom cut words (outcomes_of fates) f.front f.rest (first_known t cut words)

      first_apart : All DoesNotCoincide (after f.front).world.fates
      first_apart =
          let grows = grows-run t custom cut words (outcomes_of fates) f.rest (after f.front) in
          let all : (after f.front).world.fates ++ grows.more ≡ fates =
          sym grows.added ∙ ap (λ (k : Known). k.world.fates) (sym split ∙ longer)
          ∙ sym is.fates_are in
          All-from_recursion DoesNotCoincide (after f.front).world.fates
          (each-front DoesNotCoincide (after f.front).world.fates grows.more
          (recursion_from_All DoesNotCoincide ((after f.front).world.fates ++ grows.more)
          (subst (All DoesNotCoincide) (sym all) apart)))

      few_ticks : ticks_in f.front < t.buckets
      few_ticks =
          let sums = sum_of_first to_come answers (rounds_needed t custom cut) are in
          let own = f.ticks in omega arith

      finished : is_finished t cut (after f.front).world.desk ≡ true
      finished =
          laws.rounds words (outcomes_of fates) f.front input keeps can
          (are_done fates no_failure) first_apart f.rounds few_ticks
          (λ some. All-from_recursion ShutsNone f.front
          (f.shut_none (recursion_from_All ShutsNone steps opened)))

      same : after steps ≡ after f.front
      same =
          sym longer ∙ split
          ∙ run-over t custom cut words (outcomes_of fates) f.rest (after f.front)
          (over-finished t cut (after f.front).world finished)
