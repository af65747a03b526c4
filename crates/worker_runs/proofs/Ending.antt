-- What a run of workers comes to at its end.
use Rattle.std.proofs.Common.{◌≡◌, ◌≤◌, ◌<◌, ◌==◌, ◌&&◌, inl, inr, ℕ, ◌-◌, ◌^◌, Bool, true, false, cond, List, [], ◌∷◌, ◌++◌, All, length, map, filter, fold, min, sum, Option, None, Some, is_some, Result, Ok, Err, refl, sym, ap, subst, ◌∙◌, append-nil, eqb-true, true≢false, length-append, arith}
use Rattle.std.specs.Prelude.{OnErr, OnOk}
use Rattle.std.specs.List.{AllByRecursion, cons_option}
use Rattle.std.specs.Result.{IsErrAnd}
use Rattle.std.proofs.lemmas.Bool.{cases_lt}
use Rattle.std.proofs.lemmas.List.Elements.{All-from_recursion, recursion_from_All}
use Rattle.std.proofs.Math.Nat.{min-le_left}
use Rattle.event_worlds.specs.attempt_fates.declared.fates.Attempt.{Attempt}
use Rattle.event_worlds.specs.attempt_fates.declared.fates.End.{End}
use Rattle.event_worlds.specs.attempt_fates.declared.fates.End.TheVariants as end
use Rattle.event_worlds.specs.attempt_fates.Fates.{HasBatch, IsOnce, aborts_of, committed, committed_batches, is_abort, is_failed_commit}
use Rattle.worker_rounds.specs.batch_commits.Standing.{PartsStand, batches_in, failed_commits}
use Rattle.event_worlds.specs.bolt_ops.RowOp.{Custom, IsCustom}
use Rattle.worker_stretches.specs.box_account.Taken.{TookTrue}
use Rattle.worker_stretches.specs.box_account.Telling.{BoxesTell}
use Rattle.worker_stretches.specs.box_rows.declared.mail.Mail.{Mail}
use Rattle.worker_stretches.specs.box_rows.FirstRow.{first_views}
use Rattle.worker_stretches.specs.box_rows.FitRows.{IsFitRow}
use Rattle.event_worlds.specs.commit_order.declared.stop.Stop.{Stop}
use Rattle.event_worlds.specs.commit_order.declared.stop.Stop.TheVariants as stop
use Rattle.event_worlds.specs.commit_turns.Desks.{Desk}
use Rattle.event_worlds.specs.commit_turns.Kept.{IsKept}
use Rattle.event_worlds.specs.commit_turns.Turns.{is_finished, last_tick}
use Rattle.worker_stretches.proofs.event_engine.GoesLemmas.{gives-parts}
use Rattle.worker_stretches.proofs.event_engine.WorldLemmas.{words_begin}
use Rattle.worker_stretches.specs.event_engine.declared.engine.Engine.{Engine}
use Rattle.worker_stretches.specs.event_engine.Engines.{Goes, HasOutcomes, IsReady, cut_in, has_ended, shape, topology_in}
use Rattle.worker_stretches.specs.event_engine.Starts.{IsStarted}
use Rattle.event_worlds.specs.Accounted.{AreCaused, IsInput}
use Rattle.event_worlds.specs.Added.{first_history}
use Rattle.event_worlds.specs.Rounds.{CanFinish, DoesNotCoincide, rounds_needed, ticks_in}
use Rattle.event_worlds.specs.Worlds.{Known, Step, first_counts, is_over, outcome_by, outcomes_of}
use Rattle.pulse_board.specs.declared.seat.Board.{Board}
use Rattle.pulse_board.specs.declared.seat.BoardSeat.{BoardSeat}
use Rattle.pulse_board.specs.Seats.{book_of}
use Rattle.worker_rounds.proofs.schedule_core.Going.{leads-drives}
use Rattle.worker_rounds.proofs.schedule_core.Rounding.{ticks-gone}
use Rattle.worker_rounds.proofs.schedule_core.Telling.{broken_come, come_caused, come_low, come_tells, left_stands, short_come, tells_not_begun, unfollowed_come}
use Rattle.worker_rounds.proofs.schedule_core.TicksOfRuns.{ticks-of-rounds}
use Rattle.worker_rounds.specs.schedule_core.declared.ended.Ended.{Ended}
use Rattle.worker_rounds.specs.schedule_core.declared.ended.Ended.TheVariants as ending
use Rattle.worker_rounds.specs.schedule_core.Driving.{AreKept, Drives, HasCome, LeadsOn}
use Rattle.worker_rounds.specs.schedule_core.Following.{StandLess}
use Rattle.worker_rounds.specs.schedule_core.Laws.{Laws, WorldLaws}
use Rattle.worker_rounds.specs.schedule_core.Rounding.{end_by}
use Rattle.worker_rounds.specs.schedule_core.Runs.{RunTells, ended, first_answers, ticks_between}
use Rattle.worker_rounds.specs.schedule_core.Schedules.{HadMemory, answer_by, answer_of}
use Rattle.worker_rounds.specs.schedule_core.declared.fault.RunFault.{RunFault}
use Rattle.worker_rounds.specs.schedule_core.declared.fault.RunFault.TheVariants as fault
use Rattle.event_worlds.specs.state_parts.declared.answer.CommitOutcome.{CommitOutcome}
use Rattle.event_worlds.specs.state_parts.declared.answer.CommitOutcome.TheVariants.{Done}
use Rattle.event_worlds.specs.state_parts.declared.parts.StatePart.{StatePart}
use Rattle.event_worlds.specs.state_parts.PartPlans.{AreParts}
use Rattle.event_worlds.specs.storm_ids.declared.ids.Ids.{Ghosts}
use Rattle.storm_stores.specs.CellMaps.{CellMap}
use Rattle.storm_ticks.specs.Ticking.{handed_on}
use Rattle.task_queues.specs.declared.pass.Mailbox.{Mailbox}
use Rattle.task_queues.specs.declared.pass.Pass.{Pass}
use Rattle.task_queues.specs.Passes.{view_of}
use Rattle.event_worlds.specs.topology_plan.Topology.{Topology}
use Rattle.event_worlds.specs.record_spans.declared.span.Span.{Span}
use Rattle.event_worlds.specs.taken_records.Cuts.{Cut}
use Rattle.worker_rounds.proofs.Going.{first-outcomes, gives-next}
use Rattle.worker_rounds.proofs.Rounds.{ticks-of-round}
use Rattle.worker_rounds.specs.Running.{IsGathered, IsOffered, LedFrom, RunsOn, WasStopped, round_by}
use Rattle.worker_runs.proofs.Few.{lasts-here}
use Rattle.worker_runs.proofs.Handed.{answered-all, answered-most, sum-more, ticks-below}
use Rattle.worker_runs.proofs.Looping.{NoneShut}
use Rattle.worker_runs.proofs.Starting.{CameBy, came-runs, came-some, came-then, came-told, good-now, offered-start, open-start, stands-start, stood-start}
use Rattle.worker_runs.specs.Going.{IsAllBack, RanOn}
use Rattle.worker_runs.specs.Laws.{RunLaws}
use Rattle.worker_runs.specs.WorkerRuns.{DrewEach, NothingRanOut, WorkersCome}
use Rattle.worker_stretches.specs.Parts.{IsWholeSeat}
use Rattle.worker_stretches.specs.Standing.{beside_it}
use Rattle.worker_rounds.specs.worker_turns.Carrying.{AreEmpty}
use Rattle.worker_stretches.specs.world_progress.Lasting.{NoneAborted}

-- ---- ticks of a round

-- the first steps of a round have no more ticks than it
ticks-of-first : (t : Topology) (shut n : ℕ) (steps rest : List Step) → round_by t shut n ≡ steps ++ rest → ticks_in steps ≤ n
ticks-of-first t shut n steps rest are =
    let whole = ticks-of-round t shut n in
    let both = ap ticks_in are in
    let parts = ticks-of-rounds steps rest in omega arith

-- ---- where no commit failed

done-each : (fates : List Attempt) → failed_commits fates ≡ 0 → AllByRecursion (λ (how : CommitOutcome). how ≡ Done) (outcomes_of fates)
done-each [] none = tt
done-each (a ∷ fates) none = by (λ few. done-each fates few) a.end none
  where
    by : (failed_commits fates ≡ 0 → AllByRecursion (λ (how : CommitOutcome). how ≡ Done) (outcomes_of fates)) → (e : End)
        → length (cond (is_failed_commit e) (a ∷ filter (λ (x : Attempt). is_failed_commit x.end) fates) (filter (λ (x : Attempt). is_failed_commit x.end) fates)) ≡ 0
        → AllByRecursion (λ (how : CommitOutcome). how ≡ Done) (cons_option (outcome_by e) (outcomes_of fates))
    by rest (end.Committed list) few = (refl, rest few)
    by rest (end.Failed path) few = rest few
    by rest end.TimedOut few = rest few
    by rest (end.Coincided list) few = rest few
    by rest (end.CommitFailed c p before after) few = absurd (omega arith)
    by rest (end.Dropped other) few = rest few

-- all outcomes are done
are-done : (fates : List Attempt) → failed_commits fates ≡ 0 → All (λ (how : CommitOutcome). how ≡ Done) (outcomes_of fates)
are-done fates none = All-from_recursion (λ (how : CommitOutcome). how ≡ Done) (outcomes_of fates) (done-each fates none)

-- the attempts of a transaction that aborted
abbrev aborting : ℕ → List Attempt → List Attempt
aborting txid fates = filter (λ (x : Attempt). (x.root.txid == txid) && is_abort x.end) fates

-- without partitions a transaction with an attempt is of a batch that is there
of-batch : (cut : Cut) (txid : ℕ) (fates : List Attempt) → AllByRecursion (λ (a : Attempt). HasBatch cut a.root.txid a.spans) fates → cut.partitions ≡ 0 → 1 ≤ aborts_of txid fates → txid ≤ batches_in cut
of-batch cut txid [] each plain some = absurd (omega arith)
of-batch cut txid (a ∷ fates) each plain some = by (of-batch cut txid fates each.1 plain) (a.root.txid == txid) (is_abort a.end) refl some
  where
    by : (1 ≤ length (aborting txid fates) → txid ≤ batches_in cut) → (b c : Bool) → (a.root.txid == txid) ≡ b → 1 ≤ length (cond (b && c) (a ∷ (aborting txid fates)) (aborting txid fates)) → txid ≤ batches_in cut
    by rest true c is more =
        let same : a.root.txid ≡ txid = eqb-true a.root.txid txid is in
        let there = (each.0.numbered plain).0 in omega arith
    by rest false c is more = rest more

-- where no attempt aborted none of a transaction did
none-of : (txid : ℕ) (fates : List Attempt) → AllByRecursion (λ (a : Attempt). is_abort a.end ≡ false) fates → aborts_of txid fates ≡ 0
none-of txid [] each = refl
none-of txid (a ∷ fates) each = by (a.root.txid == txid) (is_abort a.end) each.0 (none-of txid fates each.1)
  where
    by : (b c : Bool) → c ≡ false → length (aborting txid fates) ≡ 0 → length (cond (b && c) (a ∷ (aborting txid fates)) (aborting txid fates)) ≡ 0
    by b true is rest = absurd (true≢false is)
    by true false is rest = rest
    by false false is rest = rest

-- where no record is left uncommitted, and with partitions no attempt aborted, no transaction ran out
-- of attempts
not-exhausted : {S : Type 0} (holds : S → CellMap → Type 0) (count : S → ℕ) (t : Topology) (custom : Custom) (cut : Cut) (laws : WorldLaws holds count t custom cut) (input : IsInput t cut) (d : Desk) (fates : List Attempt) → IsKept t cut d fates → NoneAborted cut fates → is_finished t cut d ≡ true
    → (txid : ℕ) → d.exhausted ≡ Some txid → ⊥
not-exhausted holds count t custom cut laws input d fates kept none done txid is =
    let out = kept.ran_out txid is in
    let many = out.0 in
    let later = out.1 in
    let some = input.valid.attempts.0 in
    elim (cases_lt 0 cut.partitions) [
      | inl parted ↦ (let e = none-of txid fates (recursion_from_All (λ (a : Attempt). is_abort a.end ≡ false) fates (none parted)) in absurd (omega arith))
      | inr plain ↦ (let whole : cut.partitions ≡ 0 = omega arith in
          let all = (laws.at_last_batch d fates input.start kept whole).0 done in
          let there = of-batch cut txid fates kept.once.batches whole (omega arith) in absurd (omega arith))
    ]

-- so it answers that all is committed
finished-answer : (t : Topology) (cut : Cut) (d : Desk) (n : ℕ) → ((txid : ℕ) → d.exhausted ≡ Some txid → ⊥) → is_finished t cut d ≡ true → answer_by d.exhausted (is_finished t cut d) n ≡ Ok ending.All
finished-answer t cut d n none done = by d.exhausted (is_finished t cut d) none done
  where
    by : (o : Option ℕ) (b : Bool) → ((txid : ℕ) → o ≡ Some txid → ⊥) → b ≡ true → answer_by o b n ≡ Ok ending.All
    by (Some txid) b none is = absurd (none txid refl)
    by None b none is = ap (λ (c : Bool). answer_by None c n) is

-- what did not run out of attempts
not-out : (answer : Result (Unit {0}) Stop) (end_is : Result Ended Stop) → end_is ≡ ended answer → ((txid : ℕ) → end_is ≡ Err (stop.Exhausted txid) → ⊥) → NothingRanOut answer
not-out (Ok ok) end_is same none = tt
not-out (Err (stop.Exhausted txid)) end_is same none = none txid same
not-out (Err (stop.BadCell key)) end_is same none = tt
not-out (Err (stop.Follow txid)) end_is same none = tt
not-out (Err stop.Memory) end_is same none = tt

-- no world answers a fault of a follower
no-follow : (o : Option ℕ) (b : Bool) (n txid : ℕ) → answer_by o b n ≡ Err (stop.Follow txid) → ⊥
no-follow (Some k) b n txid is = cc
no-follow None true n txid is = cc
no-follow None false n txid is = cc

-- the fates before the last one
same-earlier : (xs ys : List Attempt) (a b : Attempt) → xs ++ a ∷ [] ≡ ys ++ b ∷ [] → xs ≡ ys
same-earlier [] [] a b is = refl
same-earlier [] (y ∷ ys) a b is = absurd (let l = ap length is in let m = length-append ys (b ∷ []) in omega arith)
same-earlier (x ∷ xs) [] a b is = absurd (let l = ap length is in let m = length-append xs (a ∷ []) in omega arith)
same-earlier (x ∷ xs) (y ∷ ys) a b is =
    let first : x ≡ y = (let e : x ∷ (xs ++ a ∷ []) ≡ y ∷ (ys ++ b ∷ []) = is in cc) in
    let rest : xs ++ a ∷ [] ≡ ys ++ b ∷ [] = (let e : x ∷ (xs ++ a ∷ []) ≡ y ∷ (ys ++ b ∷ []) = is in cc) in
    λ i. first i ∷ same-earlier xs ys a b rest i

-- what had memory did not want any
had-it : (done : Result (Unit {0}) RunFault) (end_is : Result Ended Stop) → HadMemory (end_by done end_is) → done ≡ Err fault.Memory → ⊥
had-it (Ok ok) end_is had is = let e : Ok ok ≡ Err fault.Memory = is in cc
had-it (Err (fault.BadCell key)) end_is had is = let e : Err (fault.BadCell key) ≡ Err fault.Memory = is in cc
had-it (Err (fault.Follow txid)) end_is had is = let e : Err (fault.Follow txid) ≡ Err fault.Memory = is in cc
had-it (Err fault.Memory) end_is had is = had

-- a count that has not come to its end
same-count : (tick drawn sums : ℕ) → tick ≡ min drawn (2 ^ 64 - 1) → tick ≡ min sums (2 ^ 64 - 1) → sums < 2 ^ 64 - 1 → drawn ≡ sums
same-count tick drawn sums one two few = omega arith

-- ---- the whole

-- an engine ran on, and what ran came to this
pub record RunEnded {I S T V : Type 0} {g : Ghosts I} (tells : I → (ℕ → ℕ) → ℕ → Type 0) (holds : S → CellMap → Type 0) (count : S → ℕ) (handed : T → ℕ) (ticking : T → List ℕ → Type 0) (availing : V → List ℕ → Type 0) (custom : Custom) (avail later : V) (boxes : List (Mailbox Mail)) (board : Board) (before after : T) (old : Engine I g)
    (row : List (Pass Mail)) (was : List (StatePart S)) (done : Result (Unit {0}) RunFault) (e : Engine I g) (now_row : List (Pass Mail)) (seat : BoardSeat) (is : List (StatePart S)) (t : Topology) (cut : Cut) : Type 0 where
  pub ran : RanOn tells holds count handed ticking t custom cut (NoneShut availing t avail) availing done old e row now_row was is before after avail later
  pub gathered : OnOk done (IsGathered t cut boxes board e now_row seat)
  pub over : OnOk done (has_ended e ≡ true)
  pub back : WasStopped done → IsAllBack t boxes board now_row seat (ticks_between (handed before) (handed after))
  pub once : OnErr done (IsOnce cut last_tick e.fates)
  pub kept : AreKept holds was is

module _ {I S T V : Type 0} {g : Ghosts I} (told : (ℕ → ℕ → ℕ) → Type 0) (tells : I → (ℕ → ℕ) → ℕ → Type 0) (holds : S → CellMap → Type 0) (count : S → ℕ) (handed : T → ℕ) (ticking : T → List ℕ → Type 0) (availing : V → List ℕ → Type 0) (t : Topology) (custom : Custom) (cut : Cut)
    (run_laws : RunLaws t custom cut) (laws : WorldLaws holds count t custom cut) (steps : Laws count t custom cut) (input : IsInput t cut) (keeps : IsCustom custom) (avail later : V)
    (boxes : List (Mailbox Mail)) (board : Board) (e0 : Engine I g) (started : IsStarted told tells t cut e0) (row : List (Pass Mail)) (first : map view_of row ≡ first_views t) (was : List (StatePart S)) (planned : AreParts t was) (before after : T)
    (e : Engine I g) (now_row : List (Pass Mail)) (seat : BoardSeat) (is : List (StatePart S)) where
  abbrev DidEnd : Result (Unit {0}) RunFault → Type 0
  DidEnd done = RunEnded tells holds count handed ticking availing custom avail later boxes board before after e0 row was done e now_row seat is t cut

  abbrev answer_at : Result Ended Stop
  answer_at = answer_of (topology_in e) (cut_in e) (shape e)

  abbrev ticks_at : ℕ
  ticks_at = ticks_between (handed before) (handed after)

  -- ---- what a run has come to

  abbrev Came : Engine I g → List (StatePart S) → Type 0
  Came at parts = CameBy told tells t cut e0 started holds count custom run_laws steps input keeps row first was planned at parts

  by_runs : (n : ℕ) (mid : Engine I g) (mid_row : List (Pass Mail)) (q : List (StatePart S)) → RunsOn tells holds count t custom cut (NoneShut availing t avail) n e0 mid row mid_row was q → AreEmpty mid_row → Came mid q
  by_runs n mid mid_row q runs empty = came-runs told tells t cut e0 started holds count custom run_laws steps input keeps row first was planned (NoneShut availing t avail) n mid mid_row q runs empty

  on_then : (mid at : Engine I g) (q r : List (StatePart S)) → Came mid q → LeadsOn tells holds count t custom cut mid at q r → Came at r
  on_then mid at q r came on = came-then told tells t cut e0 started holds count custom run_laws steps input keeps row first was planned mid at q r came on

  some_words : (at : Engine I g) (r : List (StatePart S)) → Came at r → (words : ℕ → ℕ → ℕ) × HasCome holds count t custom cut words at was r
  some_words at r came = came-some told tells t cut e0 started holds count custom run_laws steps input keeps row first was planned at r came

  told_words : (at : Engine I g) (r : List (StatePart S)) → Came at r → (words : ℕ → ℕ → ℕ) → told words → HasCome holds count t custom cut words at was r
  told_words at r came words are = came-told told tells t cut e0 started holds count custom run_laws steps input keeps row first was planned at r came words are

  -- ---- what is told

  -- of the answer, the fates and the parts, also by words that sources told
  pub record Told (answer : Result Ended Stop) : Type 0 where
    pub tells_so : RunTells holds count t custom cut (ticks_between (handed before) (handed after)) answer e.fates was is
    pub drawn : (words : ℕ → ℕ → ℕ) → told words → HadMemory answer → AreCaused t custom cut (ticks_between (handed before) (handed after)) words e.fates

  answer_is : IsReady t cut e → answer_at ≡ answer_of t cut (shape e)
  answer_is ready =
      ap (λ (u : Topology). answer_of u (cut_in e) (shape e)) ready.seated.of_topology
      ∙ ap (λ (k : Cut). answer_of t k (shape e)) ready.seated.of_cut

  -- no more ticks than were answered are no more than were handed out
  allows : (answers : List ℕ) → handed after ≡ fold handed_on (handed before) answers → (shape e).tick ≤ sum answers → (n : ℕ) → n ≤ (shape e).tick → n ≤ last_tick → n ≤ ticks_at
  allows answers is most n low last = answered-most answers (handed before) (handed after) is n (omega arith) last

  told_ok : DidEnd (Ok tt) → Told answer_at
  told_ok ended_so =
      let went = ended_so.ran.went in
      let came = by_runs went.rounds e now_row is went.runs ended_so.gathered.empty in
      let one = some_words e is came in
      let all = allows ended_so.ran.answers ended_so.ran.asked.handed_out (let a = min-le_left (sum ended_so.ran.answers) (2 ^ 64 - 1) in let b = went.ticked in omega arith) in
      let low = come_low holds count t custom cut laws input one.0 e was is one.1 ticks_at all in record {
        tells_so =
            subst (λ (r : Result Ended Stop). RunTells holds count t custom cut ticks_at r e.fates was is) (sym (answer_is ended_so.gathered.ready))
            (come_tells holds count t custom cut laws input one.0 e was is one.1 ticks_at low ended_so.kept);
        drawn = λ words are had. come_caused holds count t custom cut laws input words e was is (told_words e is came words are) ticks_at low;
      }

  -- the ticks of rounds, and of the first steps of one more
  most_ticks : (last shut : ℕ) (answers : List ℕ) (mid : Engine I g) (whole rest : List Step) → mid.tick ≡ min (sum answers) (2 ^ 64 - 1) → round_by t shut last ≡ whole ++ rest → Goes tells t custom cut whole mid e → (shape e).tick ≤ sum (answers ++ last ∷ [])
  most_ticks last shut answers mid whole rest ticked are goes =
      let gone = ticks-gone tells t custom cut whole mid e goes in
      let few = ticks-of-first t shut last whole rest are in
      let sums = sum-more answers last in
      let a = min-le_left (sum answers) (2 ^ 64 - 1) in omega arith

  told_bad : (key : List ℕ) → DidEnd (Err (fault.BadCell key)) → Told (Err (stop.BadCell key))
  told_bad key ended_so =
      let b = ended_so.ran.bad key refl in
      let br = b.broken.breaks in
      let on = leads-drives tells holds count t custom cut steps.accounted br.steps b.mid e b.between br.between br.drives in
      let came = on_then b.mid e b.between br.between (by_runs b.went.rounds b.mid b.mid_row b.between b.went.runs b.empty) on in
      let one = some_words e br.between came in
      let most : (shape e).tick ≤ sum ended_so.ran.answers =
      subst (λ (xs : List ℕ). (shape e).tick ≤ sum xs) (sym b.answers_are) (most_ticks b.last b.shut b.first b.mid br.steps br.rest b.went.ticked br.first br.drives.goes) in
      let low = come_low holds count t custom cut laws input one.0 e was br.between one.1 ticks_at (allows ended_so.ran.answers ended_so.ran.asked.handed_out most) in record {
        tells_so = broken_come holds count t custom cut laws input one.0 e e.fates was br.between is one.1 br.leaves refl ticks_at key low ended_so.kept (b.went.runs.bad key br.bad);
        drawn = λ words are had. come_caused holds count t custom cut laws input words e was br.between (told_words e br.between came words are) ticks_at low;
      }

  told_failed : (txid : ℕ) → DidEnd (Err (fault.Follow txid)) → Told (Err (stop.Follow txid))
  told_failed txid ended_so =
      let b = ended_so.ran.failed txid refl in
      let stops = b.stopped.stops in
      let on = leads-drives tells holds count t custom cut steps.accounted stops.steps b.mid e b.between is stops.drives in
      let came = on_then b.mid e b.between is (by_runs b.went.rounds b.mid b.mid_row b.between b.went.runs b.empty) on in
      let one = some_words e is came in
      let most : (shape e).tick ≤ sum ended_so.ran.answers =
      subst (λ (xs : List ℕ). (shape e).tick ≤ sum xs) (sym b.answers_are) (most_ticks b.last b.shut b.first b.mid stops.steps stops.rest b.went.ticked stops.first stops.drives.goes) in
      let low = come_low holds count t custom cut laws input one.0 e was is one.1 ticks_at (allows ended_so.ran.answers ended_so.ran.asked.handed_out most) in record {
        tells_so = unfollowed_come holds count t custom cut laws input one.0 e was is one.1 ticks_at txid low ended_so.kept stops.ends;
        drawn = λ words are had. come_caused holds count t custom cut laws input words e was is (told_words e is came words are) ticks_at low;
      }

  told_short : DidEnd (Err fault.Memory) → Told (Err stop.Memory)
  told_short ended_so =
      let s = ended_so.ran.short refl in
      let came = on_then s.mid s.out.mid s.between s.out.between (by_runs s.rounds s.mid s.mid_row s.between s.runs s.empty) s.out.leads in
      let one = some_words s.out.mid s.out.between came in record {
        tells_so = short_come holds count t custom cut laws input one.0 s.out.mid e.fates was s.out.between is one.1 s.out.leaves ticks_at ended_so.once ended_so.kept;
        drawn = λ words are had. absurd had;
      }

  told_end : (done : Result (Unit {0}) RunFault) → DidEnd done → Told (end_by done answer_at)
  told_end (Ok ok) ended_so = told_ok ended_so
  told_end (Err (fault.BadCell key)) ended_so = told_bad key ended_so
  told_end (Err (fault.Follow txid)) ended_so = told_failed txid ended_so
  told_end (Err fault.Memory) ended_so = told_short ended_so

  -- what was offered
  offered_by : (done : Result (Unit {0}) RunFault) (ended_so : DidEnd done) → HadMemory (end_by done answer_at) → 0 < t.partitions → All (λ (a : Attempt). IsOffered t.partitions ended_so.ran.shuts a.spans) e.fates
  offered_by done ended_so had some =
      let all = ended_so.ran.offered (had-it done answer_at had) input some (offered-start told tells t cut e0 started t.partitions) in
      All-from_recursion (λ (a : Attempt). IsOffered t.partitions ended_so.ran.shuts a.spans) e.fates all.ends

  -- what the whole came to
  pub comes-end : (done : Result (Unit {0}) RunFault) → DidEnd done → (answer : Result (Unit {0}) Stop) → end_by done answer_at ≡ ended answer → WorkersCome told (ticking before) (availing avail) holds count t custom cut (handed before) (handed after) answer e.fates was is
  comes-end done ended_so answer same =
      let all = subst Told same (told_end done ended_so) in record {
        answers = ended_so.ran.answers;
        handed_out = ended_so.ran.asked.handed_out;
        asked = ended_so.ran.asked.first;
        shuts = ended_so.ran.shuts;
        as_often = ended_so.ran.as_often;
        asked_shut = ended_so.ran.asked_shut.first;
        offered = λ had some. offered_by done ended_so (subst HadMemory (sym same) had) some;
        tells = all.tells_so;
        drawn = all.drawn;
      }

  -- ---- where parts stand where a follower failed

  less_failed : (txid : ℕ) → DidEnd (Err (fault.Follow txid)) → StandLess holds t custom cut e.fates was is
  less_failed txid ended_so =
      let b = ended_so.ran.failed txid refl in
      let ends_so = b.stopped.stops.ends in
      let less = b.stopped.stops.less in
      let on = leads-drives tells holds count t custom cut steps.accounted less.steps b.mid less.mid b.between less.between less.drives in
      let came = on_then b.mid less.mid b.between less.between (by_runs b.went.rounds b.mid b.mid_row b.between b.went.runs b.empty) on in
      let one = some_words less.mid less.between came in
      let stands = left_stands holds count t custom cut laws input one.0 less.mid ends_so.earlier was less.between is one.1 less.leaves in
      λ earlier last added before are stand.
      subst (λ (fs : List Attempt). PartsStand holds t custom cut (before ++ committed_batches fs) is) (same-earlier ends_so.earlier earlier ends_so.last last (sym ends_so.added ∙ added))
      (stands before are (subst (λ (bs : List (List Span)). PartsStand holds t custom cut bs was) (sym (append-nil before)) stand))

  less_by : (done : Result (Unit {0}) RunFault) → DidEnd done → (txid : ℕ) → end_by done answer_at ≡ Err (stop.Follow txid) → StandLess holds t custom cut e.fates was is
  less_by (Ok ok) ended_so txid out = absurd (no-follow (shape e).desk.exhausted (is_finished (topology_in e) (cut_in e) (shape e).desk) (length (committed e.fates)) txid out)
  less_by (Err (fault.BadCell key)) ended_so txid out = absurd (let e : Err (stop.BadCell key) ≡ Err (stop.Follow txid) = out in cc)
  less_by (Err (fault.Follow own)) ended_so txid out = less_failed own ended_so
  less_by (Err fault.Memory) ended_so txid out = absurd (let e : Err stop.Memory ≡ Err (stop.Follow txid) = out in cc)

  -- ---- what boxes tell

  books_ok : DidEnd (Ok tt) → BoxesTell t custom cut now_row e.fates
  books_ok ended_so =
      let took = run_laws.took boxes now_row ended_so.gathered.fit in
      let runs = ended_so.ran.went.runs in
      let all = words_begin told tells t cut e0 started runs.goes.given in
      let outcomes = outcomes_of e.fates in
      let has : HasOutcomes outcomes e.fates = record { rest = []; first = sym (append-nil outcomes) } in
      let good = good-now told tells t cut e0 started holds count custom run_laws steps input keeps row first was planned (NoneShut availing t avail) ended_so.ran.went.rounds e now_row is runs in
      let stands = stands-start told tells t cut e0 started holds count custom run_laws steps input keeps row first was planned all.0 outcomes all.1 in
      let later = runs.goes.on all.0 (first_counts t all.0) outcomes all.2 has input keeps good (first_history t all.0) stands in
      run_laws.boxes all.0 (beside_it now_row []) later.history (record { world = shape e; counts = later.now }) now_row later.stands.led later.stands.through took later.stands.heard

  -- rounds went to an engine, and then first steps of one more
  books_led : (n : ℕ) (mid : Engine I g) (mid_row : List (Pass Mail)) (q r : List (StatePart S)) (whole : List Step) → RunsOn tells holds count t custom cut (NoneShut availing t avail) n e0 mid row mid_row was q → (drives : Drives tells holds count t custom cut whole mid e q r)
      → LedFrom t custom cut drives.goes.given mid e mid_row → now_row ≡ mid_row → IsFitRow t boxes now_row → BoxesTell t custom cut now_row e.fates
  books_led n mid mid_row q r whole runs drives stood same fit =
      let took = run_laws.took boxes now_row fit in
      let all = words_begin told tells t cut e0 started (λ s. runs.goes.given s ++ drives.goes.given s) in
      let parts = gives-parts all.0 (first_counts t all.0) runs.goes.given drives.goes.given all.2 in
      let outcomes = outcomes_of e.fates in
      let has : HasOutcomes outcomes e.fates = record { rest = []; first = sym (append-nil outcomes) } in
      let good_mid = good-now told tells t cut e0 started holds count custom run_laws steps input keeps row first was planned (NoneShut availing t avail) n mid mid_row q runs in
      let good = drives.outcomes (runs.plans ∙ planned) good_mid in
      let stands = stands-start told tells t cut e0 started holds count custom run_laws steps input keeps row first was planned all.0 outcomes all.1 in
      let later = runs.goes.on all.0 (first_counts t all.0) outcomes parts.0 (first-outcomes outcomes mid.fates drives.goes.more e.fates drives.goes.added has) input keeps good (first_history t all.0) stands in
      let reach = stood all.0 later.now outcomes (gives-next all.0 (first_counts t all.0) later.now runs.goes.given drives.goes.given later.counted parts.1) has input keeps good later.history later.stands in
      subst (λ (r : List (Pass Mail)). BoxesTell t custom cut r e.fates) (sym same)
      (run_laws.boxes all.0 (beside_it mid_row []) reach.history (record { world = shape e; counts = reach.counts }) mid_row reach.led reach.through (subst (TookTrue t) same took) reach.heard)

  books_by : (done : Result (Unit {0}) RunFault) → DidEnd done → HadMemory (end_by done answer_at) → BoxesTell t custom cut now_row e.fates
  books_by (Ok ok) ended_so had = books_ok ended_so
  books_by (Err (fault.BadCell key)) ended_so had =
      let b = ended_so.ran.bad key refl in
      let br = b.broken.breaks in books_led b.went.rounds b.mid b.mid_row b.between br.between br.steps b.went.runs br.drives b.broken.stood b.same (ended_so.back tt).row_is
  books_by (Err (fault.Follow txid)) ended_so had =
      let b = ended_so.ran.failed txid refl in
      let stops = b.stopped.stops in books_led b.went.rounds b.mid b.mid_row b.between is stops.steps b.went.runs stops.drives b.stopped.stood b.same (ended_so.back tt).row_is
  books_by (Err fault.Memory) ended_so had = absurd had

  pub books-end : (done : Result (Unit {0}) RunFault) → DidEnd done → (answer : Result (Unit {0}) Stop) → end_by done answer_at ≡ ended answer → HadMemory (ended answer) → BoxesTell t custom cut now_row e.fates
  books-end done ended_so answer same had = books_by done ended_so (subst HadMemory (sym same) had)

  -- the row is one of all boxes
  row_by : (done : Result (Unit {0}) RunFault) → DidEnd done → HadMemory (end_by done answer_at) → IsFitRow t boxes now_row
  row_by (Ok ok) ended_so had = ended_so.gathered.fit
  row_by (Err (fault.BadCell key)) ended_so had = (ended_so.back tt).row_is
  row_by (Err (fault.Follow txid)) ended_so had = (ended_so.back tt).row_is
  row_by (Err fault.Memory) ended_so had = absurd had

  -- ---- where nothing is in the way

  module _ (to_come : List ℕ) (tells_so : ticking before to_come) (shut_none : NoneShut availing t avail) (can : CanFinish t) (apart : All DoesNotCoincide e.fates) (no_failure : failed_commits e.fates ≡ 0) (low : sum (first_answers (rounds_needed t custom cut) to_come) < t.buckets) where
    finished_ok : DidEnd (Ok tt) → answer_at ≡ Ok ending.All
    finished_ok ended_so =
        let went = ended_so.ran.went in
        let runs = went.runs in
        let ready = ended_so.gathered.ready in
        let all = words_begin told tells t cut e0 started runs.goes.given in
        let outcomes = outcomes_of e.fates in
        let has : HasOutcomes outcomes e.fates = record { rest = []; first = sym (append-nil outcomes) } in
        let good = good-now told tells t cut e0 started holds count custom run_laws steps input keeps row first was planned (NoneShut availing t avail) went.rounds e now_row is runs in
        let stands = stands-start told tells t cut e0 started holds count custom run_laws steps input keeps row first was planned all.0 outcomes all.1 in
        let stood = stood-start told tells t cut e0 started holds count custom run_laws steps input keeps row first was planned (NoneShut availing t avail) went.rounds e now_row is runs all.0 outcomes all.1 all.2 has good in
        let later = runs.goes.on all.0 (first_counts t all.0) outcomes all.2 has input keeps good (first_history t all.0) stands in
        let k : Known = record { world = shape e; counts = later.now } in
        let done_all = are-done e.fates no_failure in
        let most = went.few to_come tells_so low can shut_none (open-start told tells t cut e0 started) apart outcomes done_all stood in
        let below = ticks-below e.tick went.rounds (rounds_needed t custom cut) t.buckets ended_so.ran.answers to_come went.ticked went.many (ended_so.ran.asked.first to_come tells_so) most low in
        let lasting = lasts-here t custom cut all.0 outcomes now_row later.history k ended_so.gathered.empty later.stands done_all below in
        let over : is_over t cut (shape e) ≡ true =
        sym (ap (λ (u : Topology). is_over u (cut_in e) (shape e)) ready.seated.of_topology ∙ ap (λ (c : Cut). is_over t c (shape e)) ready.seated.of_cut) ∙ ended_so.over in
        let finished = run_laws.finished all.0 later.history k input can lasting below apart over in
        let aborted = run_laws.none_aborts all.0 later.history k input can lasting below apart in
        answer_is ready ∙ finished-answer t cut (shape e).desk (length (committed e.fates)) (not-exhausted holds count t custom cut laws input (shape e).desk e.fates ready.kept aborted finished) finished

    finishes_by : (done : Result (Unit {0}) RunFault) → DidEnd done → (txid : ℕ) → end_by done answer_at ≡ Err (stop.Exhausted txid) → ⊥
    finishes_by (Ok ok) ended_so txid out = let all = finished_ok ended_so in cc
    finishes_by (Err (fault.BadCell key)) ended_so txid out = let e : Err (stop.BadCell key) ≡ Err (stop.Exhausted txid) = out in cc
    finishes_by (Err (fault.Follow own)) ended_so txid out = let e : Err (stop.Follow own) ≡ Err (stop.Exhausted txid) = out in cc
    finishes_by (Err fault.Memory) ended_so txid out = let e : Err stop.Memory ≡ Err (stop.Exhausted txid) = out in cc

    pub finishes-end : (done : Result (Unit {0}) RunFault) → DidEnd done → (answer : Result (Unit {0}) Stop) → end_by done answer_at ≡ ended answer → NothingRanOut answer
    finishes-end done ended_so answer same = not-out answer (end_by done answer_at) same (finishes_by done ended_so)

  -- ---- the board

  seat_by : (done : Result (Unit {0}) RunFault) → DidEnd done → HadMemory (end_by done answer_at) → IsWholeSeat board seat × DrewEach ticks_at seat
  seat_by (Ok ok) ended_so had = (
    ended_so.gathered.whole,
    λ few.
        let sums = answered-all ended_so.ran.answers (handed before) (handed after) ended_so.ran.asked.handed_out few in
        same-count e.tick (length (book_of seat).drawn) (sum ended_so.ran.answers) ended_so.gathered.in_time ended_so.ran.went.ticked (omega arith) ∙ sums,
  )
  seat_by (Err (fault.BadCell key)) ended_so had = let b = ended_so.back tt in (b.seat_is, b.drawn)
  seat_by (Err (fault.Follow txid)) ended_so had = let b = ended_so.back tt in (b.seat_is, b.drawn)
  seat_by (Err fault.Memory) ended_so had = absurd had

  pub seat-end : (done : Result (Unit {0}) RunFault) → DidEnd done → (answer : Result (Unit {0}) Stop) → end_by done answer_at ≡ ended answer → HadMemory (ended answer) → IsWholeSeat board seat × DrewEach ticks_at seat
  seat-end done ended_so answer same had = seat_by done ended_so (subst HadMemory (sym same) had)

  -- ---- all of it

  -- what a run of workers promises
  pub record Ends (answer : Result (Unit {0}) Stop) (fates : List Attempt) : Type 0 where
    pub comes : WorkersCome told (ticking before) (availing avail) holds count t custom cut (handed before) (handed after) answer fates was is
    pub finishes : (to_come : List ℕ) → ticking before to_come → NoneShut availing t avail → CanFinish t → All DoesNotCoincide fates → failed_commits fates ≡ 0 → sum (first_answers (rounds_needed t custom cut) to_come) < t.buckets → NothingRanOut answer
    pub row_is : HadMemory (ended answer) → IsFitRow t boxes now_row
    pub books : HadMemory (ended answer) → BoxesTell t custom cut now_row fates
    pub seat_is : HadMemory (ended answer) → IsWholeSeat board seat
    pub ticked : HadMemory (ended answer) → DrewEach (ticks_between (handed before) (handed after)) seat
    pub less : (txid : ℕ) → answer ≡ Err (stop.Follow txid) → StandLess holds t custom cut fates was is

  pub ends : (done : Result (Unit {0}) RunFault) → DidEnd done → (answer : Result (Unit {0}) Stop) → end_by done answer_at ≡ ended answer → (fates : List Attempt) → fates ≡ e.fates → Ends answer fates
  ends done so answer same fates are =
      subst (λ (fs : List Attempt). Ends answer fs) (sym are) (record {
        comes = comes-end done so answer same;
        finishes = λ to_come tells_so shut_none can apart no_failure low. finishes-end to_come tells_so shut_none can apart no_failure low done so answer same;
        row_is = λ had. row_by done so (subst HadMemory (sym same) had);
        books = λ had. books-end done so answer same had;
        seat_is = λ had. (seat-end done so answer same had).0;
        ticked = λ had. (seat-end done so answer same had).1;
        less = λ txid failed. less_by done so txid (same ∙ ap ended failed);
      })

-- memory was wanted before anything was done
pub comes-not-begun : {S : Type 0} (told : (ℕ → ℕ → ℕ) → Type 0) (ticking availing : List ℕ → Type 0) (holds : S → CellMap → Type 0) (count : S → ℕ) (t : Topology) (custom : Custom) (cut : Cut) (laws : WorldLaws holds count t custom cut) (before : ℕ) (fates : List Attempt) (parts : List (StatePart S))
    → IsInput t cut → fates ≡ [] → WorkersCome told ticking availing holds count t custom cut before before (Err stop.Memory) fates parts parts
comes-not-begun told ticking availing holds count t custom cut laws before fates parts input none = record {
  answers = [];
  handed_out = refl;
  asked = λ to_come is. refl;
  shuts = [];
  as_often = refl;
  asked_shut = λ to_come is. refl;
  offered = λ had some. absurd had;
  tells = tells_not_begun holds count t custom cut laws (ticks_between before before) fates parts input none;
  drawn = λ words are had. absurd had;
}

-- ---- the two ends

-- where all is over and nothing stopped the run, all is committed
whole-by : (o : Option ℕ) (b : Bool) (n : ℕ) (how : Ended) → cond (is_some o) true b ≡ true → answer_by o b n ≡ Ok how → answer_by o b n ≡ Ok ending.All
whole-by (Some txid) b n how over is = absurd (let e : Err (stop.Exhausted txid) ≡ Ok how = is in cc)
whole-by None true n how over is = refl
whole-by None false n how over is = absurd (true≢false (sym over))

pub whole-end : {I : Type 0} {g : Ghosts I} (done : Result (Unit {0}) RunFault) (e : Engine I g) (end_is : Result Ended Stop) (how : Ended) → OnOk done (has_ended e ≡ true) → end_is ≡ end_by done (answer_of (topology_in e) (cut_in e) (shape e)) → end_is ≡ Ok how → end_by done (answer_of (topology_in e) (cut_in e) (shape e)) ≡ ended (Ok tt)
whole-end (Ok ok) e end_is how over is whole = whole-by (shape e).desk.exhausted (is_finished (topology_in e) (cut_in e) (shape e).desk) (length (committed e.fates)) how over (sym is ∙ whole)
whole-end (Err (fault.BadCell key)) e end_is how over is whole = absurd (let a : end_is ≡ Err (stop.BadCell key) = is in let b = whole in cc)
whole-end (Err (fault.Follow txid)) e end_is how over is whole = absurd (let a : end_is ≡ Err (stop.Follow txid) = is in let b = whole in cc)
whole-end (Err fault.Memory) e end_is how over is whole = absurd (let a : end_is ≡ Err stop.Memory = is in let b = whole in cc)

-- an error is handed on
pub stopped-end : (end_is made : Result Ended Stop) (answer : Result (Unit {0}) Stop) (error : Stop) → IsErrAnd answer (λ e. e ≡ error) → end_is ≡ made → end_is ≡ Err error → made ≡ ended answer
stopped-end end_is made (Ok ok) error exits is same = absurd exits
stopped-end end_is made (Err e) error exits is same = sym is ∙ same ∙ ap (λ (x : Stop). Err x) (sym exits)
