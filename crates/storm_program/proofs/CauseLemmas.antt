-- Files that a shelf tells rule out every answer but the one that they call for.
use Rattle.std.proofs.Common.{◌≡◌, ◌⊎◌, ℕ, List, refl, inl, inr}
use Rattle.event_worlds.specs.storm_values.declared.value.Value.{Value}
use Rattle.event_worlds.specs.bolt_ops.RowOp.{Custom}
use Rattle.schedule_reader.specs.declared.event.Event.{Event}
use Rattle.event_worlds.specs.topology_plan.Topology.{Topology}
use Rattle.event_worlds.specs.attempt_fates.declared.fates.Attempt.{Attempt}
use Rattle.storm_resume.specs.storm_answers.declared.status.Status.{Status}
use Rattle.storm_resume.specs.storm_answers.declared.status.Status.TheVariants as status
use Rattle.storm_program.specs.Check.{CheckComes, CheckCalls}
use Rattle.storm_resume.specs.storm_answers.Ends.{AnswersCall, HasText, Ends, IsEndOfWork, TakesThePlace, IsAnswered}
use Rattle.storm_resume.specs.storm_answers.Files.{FilesCome, TellsPlan, TellsTopologyFault, TellsInput, TellsInputFault}
use Rattle.storm_resume.specs.storm_answers.Outside.{RunUse, ShelfUse, SinkUse, ShelfFailed, TicksUse}
use Rattle.storm_program.specs.Plain.{PlainComes, PlainCalls}
use Rattle.storm_program.specs.Replay.{ReplayComes, ReplayCalls}
use Rattle.storm_program.specs.Run.{RunComes, RunCalls}
use Rattle.storm_program.specs.Track.{TrackCalls, TrackComes}
use Rattle.storm_resume.specs.storm_answers.Schedules.{AllFilesCall, AllFilesCome, AreAllAccepted, TellsEvents, TellsScheduleFault}
use Rattle.storm_resume.proofs.storm_answers.EndLemmas.{answered_by_ends}
use Rattle.storm_resume.proofs.storm_answers.FileCauses.{FilesCame, files_agree, never_accepted, never_bad, never_bad_schedule, never_good, never_good_schedule, never_refused, read_fault_rose}

-- ---- the commands

module _ (shelf : ShelfUse) (sink : SinkUse) (topology : List ℕ) where
  check_done : (plan : Topology) → TellsPlan shelf.holds topology plan → (s : Status) (text : List ℕ) → HasText s → CheckComes shelf topology s text → IsEndOfWork s ⊎ TakesThePlace shelf sink s
  check_done plan tells status.Done text has comes = inl tt
  check_done plan tells status.Topology text has comes = absurd (never_refused shelf.holds topology plan text tells comes.1)
  check_done plan tells status.ReadFault text has comes = inr comes.1.rose
  check_done plan tells status.Memory text has comes = absurd has
  check_done plan tells _ text has comes = absurd comes

  check_refused : TellsTopologyFault shelf.holds topology → (s : Status) (text : List ℕ) → HasText s → CheckComes shelf topology s text → (s ≡ status.Topology) ⊎ TakesThePlace shelf sink s
  check_refused fault status.Done text has comes = absurd (never_accepted shelf.holds topology comes.1.plan fault comes.1.accepted)
  check_refused fault status.Topology text has comes = inl refl
  check_refused fault status.ReadFault text has comes = inr comes.1.rose
  check_refused fault status.Memory text has comes = absurd has
  check_refused fault _ text has comes = absurd comes

  check_agrees : (s called : Status) (text : List ℕ) → HasText s → CheckComes shelf topology s text → CheckCalls shelf.holds topology called → AnswersCall called s ⊎ TakesThePlace shelf sink s
  check_agrees s status.Done text has comes calls = check_done calls.0 calls.1 s text has comes
  check_agrees s status.Topology text has comes calls = check_refused calls s text has comes
  check_agrees s _ text has comes calls = absurd calls

  pub check_answered : (s : Status) → Ends (CheckComes shelf topology) sink s → IsAnswered (CheckCalls shelf.holds topology) shelf sink s
  check_answered s = answered_by_ends (CheckComes shelf topology) (CheckCalls shelf.holds topology) shelf sink s check_agrees

plain_came : (custom : Custom) (shelf : ShelfUse) (topology input : List ℕ) (s : Status) (text : List ℕ) → HasText s → PlainComes custom shelf topology input s text → FilesCame shelf topology input s text
plain_came custom shelf topology input status.Done text has comes = (tt, (comes.1.plan, comes.1.records, comes.1.accepted))
plain_came custom shelf topology input status.Memory text has comes = tt
plain_came custom shelf topology input status.Topology text has comes = comes
plain_came custom shelf topology input status.Input text has comes = comes
plain_came custom shelf topology input status.ReadFault text has comes = comes
plain_came custom shelf topology input _ text has comes = absurd comes

pub plain_answered : (custom : Custom) (shelf : ShelfUse) (sink : SinkUse) (topology input : List ℕ) (s : Status) → Ends (PlainComes custom shelf topology input) sink s → IsAnswered (PlainCalls shelf.holds topology input) shelf sink s
plain_answered custom shelf sink topology input s =
    answered_by_ends (PlainComes custom shelf topology input) (PlainCalls shelf.holds topology input) shelf sink s (λ t called text has comes calls. files_agree shelf sink topology input t called text has (plain_came custom shelf topology input t text has comes) calls)

track_came : (custom : Custom) (shelf : ShelfUse) (topology input : List ℕ) (s : Status) (text : List ℕ) → HasText s → TrackComes custom shelf topology input s text → FilesCame shelf topology input s text
track_came custom shelf topology input status.Done text has comes = (tt, (comes.1.plan, comes.1.records, comes.1.accepted))
track_came custom shelf topology input status.Memory text has comes = tt
track_came custom shelf topology input status.Topology text has comes = comes
track_came custom shelf topology input status.Input text has comes = comes
track_came custom shelf topology input status.ReadFault text has comes = comes
track_came custom shelf topology input _ text has comes = absurd comes

pub track_answered : (custom : Custom) (shelf : ShelfUse) (sink : SinkUse) (topology input : List ℕ) (s : Status) → Ends (TrackComes custom shelf topology input) sink s → IsAnswered (TrackCalls shelf.holds topology input) shelf sink s
track_answered custom shelf sink topology input s =
    answered_by_ends (TrackComes custom shelf topology input) (TrackCalls shelf.holds topology input) shelf sink s (λ t called text has comes calls. files_agree shelf sink topology input t called text has (track_came custom shelf topology input t text has comes) calls)

run_came : (custom : Custom) (shelf : ShelfUse) (base : RunUse) (ticks : TicksUse) (topology input : List ℕ) (fates : List Attempt) (s : Status) (text : List ℕ) → HasText s → RunComes custom shelf base ticks topology input fates s text → FilesCame shelf topology input s text
run_came custom shelf base ticks topology input fates status.Done text has comes = (tt, (comes.1.plan, comes.1.records, comes.1.accepted))
run_came custom shelf base ticks topology input fates status.Memory text has comes = tt
run_came custom shelf base ticks topology input fates status.Topology text has comes = comes.0
run_came custom shelf base ticks topology input fates status.Input text has comes = comes.0
run_came custom shelf base ticks topology input fates status.ReadFault text has comes = comes.0
run_came custom shelf base ticks topology input fates status.Exhausted text has comes = (tt, (comes.1.1.plan, comes.1.1.records, comes.1.1.accepted))
run_came custom shelf base ticks topology input fates status.StoreFault text has comes = (tt, (comes.1.plan, comes.1.records, comes.1.accepted))
run_came custom shelf base ticks topology input fates status.BadCell text has comes = (tt, (comes.1.1.plan, comes.1.1.records, comes.1.1.accepted))
run_came custom shelf base ticks topology input fates _ text has comes = absurd comes

pub run_answered : (custom : Custom) (shelf : ShelfUse) (sink : SinkUse) (base : RunUse) (ticks : TicksUse) (topology input : List ℕ) (fates : List Attempt) (s : Status) → Ends (RunComes custom shelf base ticks topology input fates) sink s → IsAnswered (RunCalls shelf.holds topology input) shelf sink s
run_answered custom shelf sink base ticks topology input fates s =
    answered_by_ends (RunComes custom shelf base ticks topology input fates) (RunCalls shelf.holds topology input) shelf sink s
    (λ t called text has comes calls. files_agree shelf sink topology input t called text has (run_came custom shelf base ticks topology input fates t text has comes) calls)

-- ---- the command on three files

-- what it came to with a text, as far as its files are concerned
abbrev AllFilesCame : ShelfUse → List ℕ → List ℕ → List ℕ → Status → List ℕ → Type 0
AllFilesCame shelf topology input schedule status.Memory text = Unit {0}
AllFilesCame shelf topology input schedule status.Topology text = FilesCome shelf topology input status.Topology text
AllFilesCame shelf topology input schedule status.Input text = FilesCome shelf topology input status.Input text
AllFilesCame shelf topology input schedule status.ReadFault text = ShelfFailed shelf
AllFilesCame shelf topology input schedule status.Schedule text = AllFilesCome shelf topology input schedule status.Schedule text
AllFilesCame shelf topology input schedule ending text =
    IsEndOfWork ending
    × ((plan : Topology) × (records : List (List Value)) × (events : List Event) × AreAllAccepted shelf.holds topology input schedule plan records events)

module _ (shelf : ShelfUse) (sink : SinkUse) (topology input schedule : List ℕ) where
  all_topology : TellsTopologyFault shelf.holds topology → (s : Status) (text : List ℕ) → HasText s → AllFilesCame shelf topology input schedule s text → (s ≡ status.Topology) ⊎ TakesThePlace shelf sink s
  all_topology fault status.Memory text has came = absurd has
  all_topology fault status.Topology text has came = inl refl
  all_topology fault status.Input text has came = absurd (never_accepted shelf.holds topology came.1.0 fault came.1.1)
  all_topology fault status.ReadFault text has came = inr came
  all_topology fault status.Schedule text has came = absurd (never_accepted shelf.holds topology came.1.plan fault came.1.accepted.topology_file)
  all_topology fault _ text has came = absurd (never_accepted shelf.holds topology came.1.0 fault came.1.3.files.topology_file)

  all_input : (plan : Topology) → TellsPlan shelf.holds topology plan → TellsInputFault shelf.holds plan input → (s : Status) (text : List ℕ) → HasText s → AllFilesCame shelf topology input schedule s text → (s ≡ status.Input) ⊎ TakesThePlace shelf sink s
  all_input plan tells bad status.Memory text has came = absurd has
  all_input plan tells bad status.Topology text has came = absurd (never_refused shelf.holds topology plan text tells came.1)
  all_input plan tells bad status.Input text has came = inl refl
  all_input plan tells bad status.ReadFault text has came = inr came
  all_input plan tells bad status.Schedule text has came =
      absurd (never_good shelf.holds topology input plan came.1.plan tells came.1.accepted.topology_file came.1.records bad came.1.accepted.input_file)
  all_input plan tells bad _ text has came =
      absurd (never_good shelf.holds topology input plan came.1.0 tells came.1.3.files.topology_file came.1.1 bad came.1.3.files.input_file)

  all_schedule : (plan : Topology) → TellsPlan shelf.holds topology plan → TellsInput shelf.holds plan input → TellsScheduleFault shelf.holds plan schedule → (s : Status) (text : List ℕ) → HasText s → AllFilesCame shelf topology input schedule s text → (s ≡ status.Schedule) ⊎ TakesThePlace shelf sink s
  all_schedule plan tells good bad status.Memory text has came = absurd has
  all_schedule plan tells good bad status.Topology text has came = absurd (never_refused shelf.holds topology plan text tells came.1)
  all_schedule plan tells good bad status.Input text has came = absurd (never_bad shelf.holds topology input plan came.1.0 tells came.1.1 text good came.1.2)
  all_schedule plan tells good bad status.ReadFault text has came = inr came
  all_schedule plan tells good bad status.Schedule text has came = inl refl
  all_schedule plan tells good bad _ text has came =
      absurd (never_good_schedule shelf.holds topology input plan came.1.0 tells came.1.3.files.topology_file schedule came.1.2 bad came.1.3.schedule_file)

  all_done : (plan : Topology) → TellsPlan shelf.holds topology plan → TellsInput shelf.holds plan input → (events : List Event) → TellsEvents shelf.holds plan schedule events → (s : Status) (text : List ℕ) → HasText s → AllFilesCame shelf topology input schedule s text → IsEndOfWork s ⊎ TakesThePlace shelf sink s
  all_done plan tells good events fine status.Memory text has came = absurd has
  all_done plan tells good events fine status.Topology text has came = absurd (never_refused shelf.holds topology plan text tells came.1)
  all_done plan tells good events fine status.Input text has came = absurd (never_bad shelf.holds topology input plan came.1.0 tells came.1.1 text good came.1.2)
  all_done plan tells good events fine status.ReadFault text has came = inr came
  all_done plan tells good events fine status.Schedule text has came =
      absurd (never_bad_schedule shelf.holds topology input plan came.1.plan tells came.1.accepted.topology_file schedule text events fine came.1.comes)
  all_done plan tells good events fine _ text has came = inl came.0

  all_agree : (s called : Status) (text : List ℕ) → HasText s → AllFilesCame shelf topology input schedule s text → AllFilesCall shelf.holds topology input schedule called → AnswersCall called s ⊎ TakesThePlace shelf sink s
  all_agree s status.Done text has came calls = all_done calls.0 calls.1 calls.2 calls.3.0 calls.3.1 s text has came
  all_agree s status.Topology text has came calls = all_topology calls s text has came
  all_agree s status.Input text has came calls = all_input calls.0 calls.1 calls.2 s text has came
  all_agree s status.Schedule text has came calls = all_schedule calls.0 calls.1 calls.2 calls.3 s text has came
  all_agree s _ text has came calls = absurd calls

  pub all_read_fault_rose : (text : List ℕ) → AllFilesCome shelf topology input schedule status.ReadFault text → ShelfFailed shelf
  all_read_fault_rose text (inl line) = read_fault_rose shelf sink topology input text line
  all_read_fault_rose text (inr unread) = unread.1.comes.rose

module _ (custom : Custom) (shelf : ShelfUse) (sink : SinkUse) (base : RunUse) (topology input schedule : List ℕ) (fates : List Attempt) where
  replay_came : (s : Status) (text : List ℕ) → HasText s → ReplayComes custom shelf base topology input schedule fates s text → AllFilesCame shelf topology input schedule s text
  replay_came status.Done text has comes = (tt, (comes.1.plan, comes.1.records, comes.1.events, comes.1.accepted))
  replay_came status.Memory text has comes = tt
  replay_came status.Topology text has comes = comes.0
  replay_came status.Input text has comes = comes.0
  replay_came status.ReadFault text has comes = all_read_fault_rose shelf sink topology input schedule text comes.0
  replay_came status.Schedule text has comes = comes.0
  replay_came status.Exhausted text has comes = (tt, (comes.1.1.plan, comes.1.1.records, comes.1.1.events, comes.1.1.accepted))
  replay_came status.Unfinished text has comes = (tt, (comes.1.1.plan, comes.1.1.records, comes.1.1.events, comes.1.1.accepted))
  replay_came status.StoreFault text has comes = (tt, (comes.1.plan, comes.1.records, comes.1.events, comes.1.accepted))
  replay_came status.BadCell text has comes = (tt, (comes.1.1.plan, comes.1.1.records, comes.1.1.events, comes.1.1.accepted))
  replay_came _ text has comes = absurd comes

  pub replay_answered : (s : Status) → Ends (ReplayComes custom shelf base topology input schedule fates) sink s → IsAnswered (ReplayCalls shelf.holds topology input schedule) shelf sink s
  replay_answered s =
      answered_by_ends (ReplayComes custom shelf base topology input schedule fates) (ReplayCalls shelf.holds topology input schedule) shelf sink s
      (λ t called text has comes calls. all_agree shelf sink topology input schedule t called text has (replay_came t text has comes) calls)
