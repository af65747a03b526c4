-- What a check, a `plain`, a run and a replay come to, from what their parts came to.
use Rattle.std.proofs.Common.{◌≡◌, ◌⊎◌, ◌<◌, ℕ, List, [], All, Option, Some, None, Result, Ok, Err, IfOk, String, string_bytes, inl, inr, sym, subst, sum}
use Rattle.event_worlds.specs.bolt_ops.RowOp.{Custom}
use Rattle.event_worlds.specs.attempt_fates.declared.fates.Attempt.{Attempt}
use Rattle.event_worlds.specs.Rounds.{HasRounds, rounds_needed}
use Rattle.storm_resume.specs.schedule_core.Runs.{first_answers}
use Rattle.storm_resume.specs.schedule_core.Schedules.{all_steps}
use Rattle.schedule_reader.specs.declared.event.Event.{Event}
use Rattle.storm_resume.specs.storm_answers.declared.status.Status.{Status}
use Rattle.storm_resume.specs.storm_answers.declared.status.Status.TheVariants as status
use Rattle.storm_resume.specs.storm_answers.declared.early_end.EarlyEnd.{EarlyEnd}
use Rattle.storm_resume.specs.storm_answers.declared.early_end.EarlyEnd.TheVariants.{Memory}
use Rattle.storm_program.specs.Check.{CheckComes, check_promise}
use Rattle.storm_resume.specs.storm_answers.Files.{AreAccepted, FilesCome}
use Rattle.storm_resume.specs.storm_answers.steps.Ended.{IsRoundsEnd, WorkStops}
use Rattle.storm_resume.specs.storm_answers.steps.Reading.{TopologyComes}
use Rattle.storm_resume.specs.storm_answers.Ends.{Ends}
use Rattle.storm_program.specs.Load.{LoadComes, load_promise}
use Rattle.storm_resume.specs.storm_answers.Outside.{Fetched, RunUse, ShelfUse, SinkUse, TicksUse}
use Rattle.storm_program.specs.Plain.{PlainComes, plain_promise}
use Rattle.storm_program.specs.Replay.{IsReplayReport, ReplayComes, ReplayEndsSo, ReplayMustCommitAll, ticks_of_schedule}
use Rattle.storm_resume.specs.storm_answers.Reports.{EndsSo, IsReport, cut_by}
use Rattle.storm_resume.specs.storm_answers.Runs.{IsNotBegun, IsShort, IsUnhindered, ticks_of_run}
use Rattle.storm_program.specs.Run.{MustCommitAll, RunComes}
use Rattle.storm_resume.specs.storm_answers.Schedules.{AllFilesCome, AreAllAccepted}
use Rattle.storm_program.specs.Storm.{ComesOfWords, IsNotStarted, WordsCome, command_promise, promise}
use Rattle.storm_resume.specs.storm_answers.Texts.{usage}
use Rattle.storm_program.specs.Track.{TrackComes, track_promise}
use Rattle.storm_words.specs.Words.{Command, check, plain, load, track, fold_over}
use Rattle.storm_resume.specs.storm_answers.steps.Stops.{IsWritten}
use Rattle.storm_resume.proofs.storm_answers.EndLemmas.{Ends-weaker, ends_memory, ends_written}
use Rattle.event_worlds.specs.storm_values.declared.value.Value.{Value}
use Rattle.event_worlds.specs.storm_values.Lines.{records_of}
use Rattle.storm_resume.specs.stored_runs.Makers.{IsUntouched}
use Rattle.event_worlds.specs.topology_plan.Topology.{Topology}
use Rattle.world_progress.specs.Rounding.{ShutsNone}
-- what a topology comes to that is not accepted comes of a check
use Rattle.storm_resume.proofs.storm_answers.FileCauses.{same_events, same_plan, same_records}

pub check_of_topology : (shelf : ShelfUse) (topology : List ℕ) (s : Status) (text : List ℕ) → TopologyComes shelf topology s text → CheckComes shelf topology s text
check_of_topology shelf topology status.Done text comes = absurd comes
check_of_topology shelf topology _ text comes = comes

-- what files come to that are not accepted comes of a `plain`
pub plain_of_files : (custom : Custom) (shelf : ShelfUse) (topology input : List ℕ) (s : Status) (text : List ℕ) → FilesCome shelf topology input s text → PlainComes custom shelf topology input s text
plain_of_files custom shelf topology input status.Done text comes = absurd comes
plain_of_files custom shelf topology input _ text comes = comes

-- and of a tracking
pub track_of_files : (custom : Custom) (shelf : ShelfUse) (topology input : List ℕ) (s : Status) (text : List ℕ) → FilesCome shelf topology input s text → TrackComes custom shelf topology input s text
track_of_files custom shelf topology input status.Done text comes = absurd comes
track_of_files custom shelf topology input _ text comes = comes

-- ---- runs

module _ (custom : Custom) (shelf : ShelfUse) (base : RunUse) (ticks : TicksUse) (topology input : List ℕ) (fates : List Attempt) where
  -- what files come to that are not accepted comes of a run that was not begun
  pub run_of_files : IsNotBegun base fates → (s : Status) (text : List ℕ) → FilesCome shelf topology input s text → RunComes custom shelf base ticks topology input fates s text
  run_of_files idle status.Memory text comes = inl (comes, idle)
  run_of_files idle status.Topology text comes = (comes, idle)
  run_of_files idle status.Input text comes = (comes, idle)
  run_of_files idle status.ReadFault text comes = (comes, idle)
  run_of_files idle _ text comes = absurd comes

  -- what a run of accepted files comes to that made its report
  pub done_of_report : (plan : Topology) (records : List (List Value)) → Fetched 2 shelf → AreAccepted shelf.holds topology input plan records → {A : Type 0} (result : Result (String A) EarlyEnd) → IfOk result (λ text. IsReport custom plan records base (ticks_of_run ticks) fates (string_bytes text))
      → IfOk result (λ text. RunComes custom shelf base ticks topology input fates status.Done (string_bytes text))
  done_of_report plan records twice accepted (Ok text) report = (twice, record { plan = plan; records = records; accepted = accepted; comes = report })
  done_of_report plan records twice accepted (Err stop) report = tt

  -- what it comes to that made no report
  pub run_of_work : (plan : Topology) (records : List (List Value)) → Fetched 2 shelf → AreAccepted shelf.holds topology input plan records → (s : Status) (text : List ℕ)
      → WorkStops (λ ending said. IsRoundsEnd ending × EndsSo custom plan records base (ticks_of_run ticks) fates ending said) (IsNotBegun base fates ⊎ IsShort custom plan records base fates) s text → RunComes custom shelf base ticks topology input fates s text
  run_of_work plan records twice accepted status.Memory text (inl idle) = inl (inr twice, idle)
  run_of_work plan records twice accepted status.Memory text (inr short) = inr (twice, record { plan = plan; records = records; accepted = accepted; comes = short })
  run_of_work plan records twice accepted status.Exhausted text comes = (comes.0, (twice, record { plan = plan; records = records; accepted = accepted; comes = comes.1.1 }))
  run_of_work plan records twice accepted status.Unfinished text comes = absurd comes.1.0
  run_of_work plan records twice accepted status.StoreFault text comes = (twice, record { plan = plan; records = records; accepted = accepted; comes = comes.1 })
  run_of_work plan records twice accepted status.BadCell text comes = (comes.0, (twice, record { plan = plan; records = records; accepted = accepted; comes = comes.1.1 }))
  run_of_work plan records twice accepted _ text comes = absurd comes

  -- where it must commit all, nothing is in the way of what was accepted
  pub record GoesThrough (availing : List ℕ → Type 0) (plan : Topology) (records : List (List Value)) : Type 0 where
    pub to_come : List ℕ
    pub told : ticks.to_come to_come
    pub all_open : 0 < plan.partitions → availing []
    pub free : IsUnhindered plan base.stores fates
    pub few : sum (first_answers (rounds_needed plan custom (cut_by plan records)) to_come) < plan.buckets

  pub goes_through : (availing : List ℕ → Type 0) (plan : Topology) (records : List (List Value)) → AreAccepted shelf.holds topology input plan records → MustCommitAll custom shelf base ticks availing topology input fates → GoesThrough availing plan records
  goes_through availing plan records accepted must =
      let of_plan : plan ≡ must.plan = same_plan shelf.holds topology must.plan plan must.tells_plan accepted.topology_file in
      let of_records : records ≡ records_of must.tells_input.bytes = same_records shelf.holds topology input must.plan plan must.tells_plan accepted.topology_file records must.tells_input accepted.input_file in
      record {
        to_come = must.to_come;
        told = must.told;
        all_open = subst (λ (p : Topology). 0 < p.partitions → availing []) (sym of_plan) must.all_open;
        free = subst (λ (p : Topology). IsUnhindered p base.stores fates) (sym of_plan) must.free;
        few =
            subst (λ (p : Topology). sum (first_answers (rounds_needed p custom (cut_by p records)) must.to_come) < p.buckets) (sym of_plan)
            (subst (λ (rs : List (List Value)). sum (first_answers (rounds_needed must.plan custom (cut_by must.plan rs)) must.to_come) < must.plan.buckets) (sym of_records) must.few_ticks);
      }

-- ---- replays

module _ (custom : Custom) (shelf : ShelfUse) (base : RunUse) (topology input schedule : List ℕ) (fates : List Attempt) where
  pub replay_of_files : IsNotBegun base fates → (s : Status) (text : List ℕ) → AllFilesCome shelf topology input schedule s text → ReplayComes custom shelf base topology input schedule fates s text
  replay_of_files idle status.Memory text comes = inl (comes, idle)
  replay_of_files idle status.Topology text comes = (comes, idle)
  replay_of_files idle status.Input text comes = (comes, idle)
  replay_of_files idle status.ReadFault text comes = (comes, idle)
  replay_of_files idle status.Schedule text comes = (comes, idle)
  replay_of_files idle _ text comes = absurd comes

  pub done_of_replay : (plan : Topology) (records : List (List Value)) (events : List Event) → Fetched 3 shelf → AreAllAccepted shelf.holds topology input schedule plan records events → {A : Type 0} (result : Result (String A) EarlyEnd) → IfOk result (λ text. IsReplayReport custom plan records events base fates (string_bytes text))
      → IfOk result (λ text. ReplayComes custom shelf base topology input schedule fates status.Done (string_bytes text))
  done_of_replay plan records events thrice accepted (Ok text) report = (thrice, record { plan = plan; records = records; events = events; accepted = accepted; comes = report })
  done_of_replay plan records events thrice accepted (Err stop) report = tt

  pub replay_of_work : (plan : Topology) (records : List (List Value)) (events : List Event) → Fetched 3 shelf → AreAllAccepted shelf.holds topology input schedule plan records events → (s : Status) (text : List ℕ)
      → WorkStops (ReplayEndsSo custom plan records events base fates) (IsNotBegun base fates ⊎ IsShort custom plan records base fates) s text → ReplayComes custom shelf base topology input schedule fates s text
  replay_of_work plan records events thrice accepted status.Memory text (inl idle) = inl (inr thrice, idle)
  replay_of_work plan records events thrice accepted status.Memory text (inr short) = inr (thrice, record { plan = plan; records = records; events = events; accepted = accepted; comes = short })
  replay_of_work plan records events thrice accepted status.Exhausted text comes = (comes.0, (thrice, record { plan = plan; records = records; events = events; accepted = accepted; comes = comes.1 }))
  replay_of_work plan records events thrice accepted status.Unfinished text comes = (comes.0, (thrice, record { plan = plan; records = records; events = events; accepted = accepted; comes = comes.1 }))
  replay_of_work plan records events thrice accepted status.StoreFault text comes = (thrice, record { plan = plan; records = records; events = events; accepted = accepted; comes = comes })
  replay_of_work plan records events thrice accepted status.BadCell text comes = (comes.0, (thrice, record { plan = plan; records = records; events = events; accepted = accepted; comes = comes.1 }))
  replay_of_work plan records events thrice accepted _ text comes = absurd comes

  pub record ReplayGoesThrough (plan : Topology) (records : List (List Value)) (events : List Event) : Type 0 where
    pub free : IsUnhindered plan base.stores fates
    pub rounds : HasRounds plan (rounds_needed plan custom (cut_by plan records)) (all_steps plan events)
    pub few : ticks_of_schedule plan events < plan.buckets
    pub shuts_none : 0 < plan.partitions → All ShutsNone (all_steps plan events)

  pub replay_goes_through : (plan : Topology) (records : List (List Value)) (events : List Event) → AreAllAccepted shelf.holds topology input schedule plan records events → ReplayMustCommitAll custom shelf base topology input schedule fates → ReplayGoesThrough plan records events
  replay_goes_through plan records events accepted must =
      let files = accepted.files in
      let of_plan : plan ≡ must.plan = same_plan shelf.holds topology must.plan plan must.tells_plan files.topology_file in
      let of_records : records ≡ records_of must.tells_input.bytes = same_records shelf.holds topology input must.plan plan must.tells_plan files.topology_file records must.tells_input files.input_file in
      let of_events : events ≡ must.events = same_events shelf.holds topology input must.plan plan must.tells_plan files.topology_file schedule events must.events must.tells_events accepted.schedule_file in
      record {
        free = subst (λ (p : Topology). IsUnhindered p base.stores fates) (sym of_plan) must.free;
        rounds =
            subst (λ (p : Topology). HasRounds p (rounds_needed p custom (cut_by p records)) (all_steps p events)) (sym of_plan)
            (subst (λ (rs : List (List Value)). HasRounds must.plan (rounds_needed must.plan custom (cut_by must.plan rs)) (all_steps must.plan events)) (sym of_records)
            (subst (λ (es : List Event). HasRounds must.plan (rounds_needed must.plan custom (cut_by must.plan (records_of must.tells_input.bytes))) (all_steps must.plan es)) (sym of_events) must.rounds));
        few =
            subst (λ (p : Topology). ticks_of_schedule p events < p.buckets) (sym of_plan)
            (subst (λ (es : List Event). ticks_of_schedule must.plan es < must.plan.buckets) (sym of_events) must.few_ticks);
        shuts_none =
            subst (λ (p : Topology). 0 < p.partitions → All ShutsNone (all_steps p events)) (sym of_plan)
            (subst (λ (es : List Event). 0 < must.plan.partitions → All ShutsNone (all_steps must.plan es)) (sym of_events) must.shuts_none);
      }

-- ---- the call by words

-- what a command comes to of its own, the call comes to
of_own : (shelf : ShelfUse) (base : RunUse) (fates : List Attempt) (Comes : Status → List ℕ → Type 0) (s : Status) (text : List ℕ) → Comes s text → ComesOfWords shelf base fates Comes s text
of_own shelf base fates Comes status.Memory text comes = inl comes
of_own shelf base fates Comes _ text comes = comes

module _ (custom : Custom) (shelf : ShelfUse) (sink : SinkUse) (base : RunUse) (ticks : TicksUse) (availing : List ℕ → Type 0) (fates : List Attempt) (said : Option Command) (answer : Status) where
  -- an end of the command that the words give is one of the call
  pub ends_own : (given : Option Command) → said ≡ given → Ends (command_promise custom shelf sink base ticks availing fates given).comes sink answer → Ends (promise custom shelf sink base ticks availing fates said).comes sink answer
  ends_own given is ends =
      let Own : Status → List ℕ → Type 0 = (command_promise custom shelf sink base ticks availing fates given).comes in
      subst (λ c. Ends (promise custom shelf sink base ticks availing fates c).comes sink answer) (sym is)
      (Ends-weaker Own (ComesOfWords shelf base fates Own) sink answer (of_own shelf base fates Own) ends)

  pub ends_check : (topology : List ℕ) → said ≡ Some (check topology) → fates ≡ [] → IsUntouched base.stores → Ends (CheckComes shelf topology) sink answer → Ends (promise custom shelf sink base ticks availing fates said).comes sink answer
  ends_check topology is none idle ends =
      ends_own (Some (check topology)) is
      (Ends-weaker (CheckComes shelf topology) (check_promise shelf base.stores fates topology).comes sink answer (λ s text comes. (comes, none, idle)) ends)

  pub ends_plain : (topology input : List ℕ) → said ≡ Some (plain topology input) → fates ≡ [] → IsUntouched base.stores → Ends (PlainComes custom shelf topology input) sink answer → Ends (promise custom shelf sink base ticks availing fates said).comes sink answer
  ends_plain topology input is none idle ends =
      ends_own (Some (plain topology input)) is
      (Ends-weaker (PlainComes custom shelf topology input) (plain_promise custom shelf base.stores fates topology input).comes sink answer (λ s text comes. (comes, none, idle)) ends)

  -- a fold comes to what `plain` does
  pub ends_fold : (topology input : List ℕ) (workers : ℕ) → said ≡ Some (fold_over topology input workers) → fates ≡ [] → IsUntouched base.stores → Ends (PlainComes custom shelf topology input) sink answer → Ends (promise custom shelf sink base ticks availing fates said).comes sink answer
  ends_fold topology input workers is none idle ends =
      ends_own (Some (fold_over topology input workers)) is
      (Ends-weaker (PlainComes custom shelf topology input) (plain_promise custom shelf base.stores fates topology input).comes sink answer (λ s text comes. (comes, none, idle)) ends)

  pub ends_track : (topology input : List ℕ) (workers : ℕ) → said ≡ Some (track topology input workers) → fates ≡ [] → IsUntouched base.stores → Ends (TrackComes custom shelf topology input) sink answer → Ends (promise custom shelf sink base ticks availing fates said).comes sink answer
  ends_track topology input workers is none idle ends =
      ends_own (Some (track topology input workers)) is
      (Ends-weaker (TrackComes custom shelf topology input) (track_promise custom shelf base.stores fates topology input).comes sink answer (λ s text comes. (comes, none, idle)) ends)

  pub ends_load : (count seed : ℕ) → said ≡ Some (load count seed) → shelf.fetches_after ≡ shelf.fetches_before → Ends (LoadComes custom base count seed fates) sink answer → Ends (promise custom shelf sink base ticks availing fates said).comes sink answer
  ends_load count seed is still ends =
      ends_own (Some (load count seed)) is
      (Ends-weaker (LoadComes custom base count seed fates) (load_promise custom shelf sink base fates count seed).comes sink answer (λ s text comes. (still, comes)) ends)

  -- words that are no command come to the usage line
  pub ends_words : (text : List ℕ) → said ≡ None → IsNotBegun base fates → shelf.fetches_after ≡ shelf.fetches_before → text ≡ usage → IsWritten status.Words text sink answer → Ends (promise custom shelf sink base ticks availing fates said).comes sink answer
  ends_words text none idle still line written =
      ends_own None none (ends_written (WordsCome shelf base fates) sink status.Words answer text tt (still, line, idle) written)

-- want of memory for the words comes before all else
pub ends_short : (custom : Custom) (shelf : ShelfUse) (sink : SinkUse) (base : RunUse) (ticks : TicksUse) (availing : List ℕ → Type 0) (fates : List Attempt) (said : Option Command) → IsNotStarted shelf base fates → sink.taken_after ≡ sink.taken_before → Ends (promise custom shelf sink base ticks availing fates said).comes sink status.Memory
ends_short custom shelf sink base ticks availing fates said idle nothing =
    ends_memory (promise custom shelf sink base ticks availing fates said).comes sink (inr idle) nothing
