-- What the files and the keeper call for, and what was accepted.
use Rattle.std.proofs.Common.{◌≡◌, ◌⊎◌, ℕ, List, Result, Ok, Err, IfOk, refl, sym, ap, subst, ◌∙◌, inl, inr, String, string_bytes}
use Rattle.event_worlds.specs.attempt_fates.declared.fates.Attempt.{Attempt}
use Rattle.event_worlds.specs.bolt_ops.RowOp.{Custom}
use Rattle.event_worlds.specs.storm_values.Counts.{raised}
use Rattle.event_worlds.specs.storm_values.declared.value.Value.{Value}
use Rattle.event_worlds.specs.storm_values.Lines.{records_of}
use Rattle.event_worlds.specs.topology_plan.Topology.{Topology}
use Rattle.resume_meta.specs.Keepers.{Held}
use Rattle.resume_meta.specs.declared.meta.Meta.{Meta}
use Rattle.storm_answers.proofs.EndLemmas.{answered_by_ends}
use Rattle.storm_answers.proofs.FileCauses.{FilesCame, files_done, files_input, files_topology, never_accepted, never_bad, never_good, never_refused as never_refused_plan, read_fault_rose, same_plan, same_records}
use Rattle.storm_answers.specs.Ends.{AnswersCall, Ends, HasText, IsAnswered, IsEndOfWork, TakesThePlace}
use Rattle.storm_answers.specs.Files.{AreAccepted, FilesCome, TellsInput, TellsPlan}
use Rattle.storm_answers.specs.Outside.{Fetched, RunUse, ShelfUse, SinkUse, TicksUse}
use Rattle.storm_answers.specs.Runs.{IsNotBegun, IsOfFiles, ticks_of_run}
use Rattle.storm_answers.specs.declared.early_end.EarlyEnd.{EarlyEnd}
use Rattle.storm_answers.specs.declared.early_end.EarlyEnd.TheVariants.{Memory, Told}
use Rattle.storm_answers.specs.declared.status.Status.{Status}
use Rattle.storm_answers.specs.declared.status.Status.TheVariants as status
use Rattle.storm_answers.specs.steps.Stops.{IsMemory, Stops}
use Rattle.storm_answers.specs.stored_runs.declared.ending.RunEnd.{RunEnd}
use Rattle.storm_answers.specs.stored_runs.declared.ending.RunEnd.TheVariants as end
use Rattle.storm_answers.specs.stored_runs.Makers.{MakerUse}
use Rattle.storm_resume.proofs.Goings.{OneMeta, never_refused}
use Rattle.storm_resume.proofs.Keepings.{rose_raised}
use Rattle.storm_resume.specs.Keeping.{FailedOnce, HoldsAfter, HoldsStill, KeeperUse}
use Rattle.storm_resume.specs.Resume.{AcceptedComes, EndsUnkept, GoesFree, GoesOn, IsIdle, IsKeptLine, IsResumeReport, IsResumeShort, ResumeCalls, ResumeComes, ResumeEndsSo, ResumeMustCommitAll, TellsOther, TellsStart, of_input, of_text}
use Rattle.storm_resume.specs.steps.Going.{StartComes}

-- ---- over the whole use of the keeper

-- A keeper was read and has held since what it held: what came to its use from then on came to the
-- use from the first.
pub record Through (whole rest : KeeperUse) : Type 0 where
  pub same : (held : Held) → whole.held held → rest.held held
  pub holds : (held : Held) → rest.holds held → whole.holds held
  pub before : whole.faults_before ≡ rest.faults_before
  pub after : whole.faults_after ≡ rest.faults_after

module _ (custom : Custom) (plan : Topology) (records : List (List Value)) (base : RunUse) (whole rest : KeeperUse) (ticks : ℕ) (fates : List Attempt) (through : Through whole rest) where
  went_on : (start : Meta) → GoesOn plan records rest start → GoesOn plan records whole start
  went_on start goes = record { was_kept = λ held told. goes.was_kept held (through.same held told); of_input = goes.of_input }

  once_so : FailedOnce rest → FailedOnce whole
  once_so once = through.after ∙ once ∙ ap raised (sym through.before)

  quiet : rest.faults_after ≡ rest.faults_before → whole.faults_after ≡ whole.faults_before
  quiet same = through.after ∙ same ∙ sym through.before

  after_so : (start : Meta) → HoldsAfter rest start fates → HoldsAfter whole start fates
  after_so start kept held told = let now = kept held (through.same held told) in (now.0, through.holds now.0 now.1, now.2)

  report_so : (text : List ℕ) → IsResumeReport custom plan records base rest ticks fates text → IsResumeReport custom plan records base whole ticks fates text
  report_so text comes = record {
    start = comes.start;
    goes_on = went_on comes.start comes.goes_on;
    tables = comes.tables;
    printed = comes.printed;
    of_commits = comes.of_commits;
    in_order = comes.in_order;
    all_batches = comes.all_batches;
    whole = comes.whole;
    acked = comes.acked;
    caused = comes.caused;
    failed_in_turn = comes.failed_in_turn;
    drops = comes.drops;
    counted = comes.counted;
    looked = comes.looked;
    back = comes.back;
    stands = comes.stands;
    kept = after_so comes.start comes.kept;
    kept_all = λ held told. let now = comes.kept_all held (through.same held told) in (now.0, through.holds now.0 now.1, now.2);
    no_fault = quiet comes.no_fault;
  }

  ends_so : (ending : RunEnd) (text : List ℕ) → ResumeEndsSo custom plan records base rest ticks fates ending text → ResumeEndsSo custom plan records base whole ticks fates ending text
  ends_so ending text comes = record {
    start = comes.start;
    goes_on = went_on comes.start comes.goes_on;
    run = comes.run;
    looked = comes.looked;
    back = comes.back;
    kept = after_so comes.start comes.kept;
    no_fault = quiet comes.no_fault;
    printed = comes.printed;
  }

  unkept_so : EndsUnkept custom plan records base rest ticks fates → EndsUnkept custom plan records base whole ticks fates
  unkept_so comes = record {
    start = comes.start;
    goes_on = went_on comes.start comes.goes_on;
    txid = comes.txid;
    run = comes.run;
    earlier = comes.earlier;
    last = comes.last;
    ends = comes.ends;
    stands = comes.stands;
    looked = comes.looked;
    back = comes.back;
    kept = λ held told. let now = comes.kept held (through.same held told) in (now.0, through.holds now.0 now.1, now.2);
    failed = once_so comes.failed;
  }

  short_so : IsResumeShort custom plan records base rest fates → IsResumeShort custom plan records base whole fates
  short_so comes = record {
    start = comes.start;
    goes_on = went_on comes.start comes.goes_on;
    once = comes.once;
    looked = comes.looked;
    back = comes.back;
    stands = comes.stands;
    no_fault = quiet comes.no_fault;
  }

  still_so : HoldsStill rest → HoldsStill whole
  still_so still held told = through.holds held (still held (through.same held told))

  idle_so : IsIdle base rest fates → IsIdle base whole fates
  idle_so (idle, unchanged) = (idle, record { same = still_so unchanged.same; no_fault = quiet unchanged.no_fault })

  line_so : (text : List ℕ) → IsKeptLine plan records rest text → IsKeptLine plan records whole text
  line_so text (of_text bad is) = of_text (λ held told. bad held (through.same held told)) is
  line_so text (of_input meta read other is) = of_input meta (λ held told. read held (through.same held told)) other is

  pub comes_through : (s : Status) (text : List ℕ) → AcceptedComes custom base rest ticks fates s text plan records → AcceptedComes custom base whole ticks fates s text plan records
  comes_through status.Done text comes = report_so text comes
  comes_through status.Memory text (inl idle) = inl (idle_so idle)
  comes_through status.Memory text (inr short) = inr (short_so short)
  comes_through status.Exhausted text (txid, comes) = (txid, ends_so (end.Exhausted txid) text comes)
  comes_through status.StoreFault text comes = ends_so end.StoreFault text comes
  comes_through status.BadCell text (key, comes) = (key, ends_so (end.BadCell key) text comes)
  comes_through status.KeepFault text (is, inl unread) = (is, inl (record { idle = unread.idle; same = still_so unread.same; failed = once_so unread.failed }))
  comes_through status.KeepFault text (is, inr unkept) = (is, inr (unkept_so unkept))
  comes_through status.Kept text (line, idle) = (line_so text line, idle_so idle)
  comes_through _ text comes = absurd comes

-- ---- what comes of a keeper that gave no start

module _ (custom : Custom) (plan : Topology) (records : List (List Value)) (base : RunUse) (keeper : KeeperUse) (ticks : ℕ) (fates : List Attempt) (idle : IsNotBegun base fates) where
  pub comes_of_start : (s : Status) (text : List ℕ) → StartComes plan records keeper s text → AcceptedComes custom base keeper ticks fates s text plan records
  comes_of_start status.Memory text unchanged = inl (idle, unchanged)
  comes_of_start status.KeepFault text (is, same, failed) = (is, inl (record { idle = idle; same = same; failed = failed }))
  comes_of_start status.Kept text (line, unchanged) = (line, (idle, unchanged))
  comes_of_start _ text comes = absurd comes

  -- none is refused where nothing is in the way
  pub start_finishes : OneMeta → (stores : MakerUse) (ticking availing : List ℕ → Type 0) → GoesFree custom plan records stores keeper ticking availing fates → (stop : EarlyEnd) → Stops (StartComes plan records keeper) stop → IsMemory stop
  start_finishes law stores ticking availing free Memory stops = tt
  start_finishes law stores ticking availing free (Told s line) stops = absurd (never s (string_bytes line) stops.0 stops.1)
    where
      never : (s : Status) (text : List ℕ) → HasText s → StartComes plan records keeper s text → ⊥
      never status.Memory text has comes = has
      never status.KeepFault text has (is, same, failed) = free.keeper_fine (rose_raised keeper.faults_before keeper.faults_after failed)
      never status.Kept text has (line, unchanged) = never_refused law plan records keeper text free.start free.tells_start line
      never _ text has comes = comes

-- ---- files

module _ (custom : Custom) (shelf : ShelfUse) (base : RunUse) (keeper : KeeperUse) (ticks : TicksUse) (topology input : List ℕ) (fates : List Attempt) where
  pub comes_of_files : IsIdle base keeper fates → (s : Status) (text : List ℕ) → FilesCome shelf topology input s text → ResumeComes custom shelf base keeper ticks topology input fates s text
  comes_of_files idle s text comes = inl (comes, idle)

  pub comes_of_accepted : (plan : Topology) (records : List (List Value)) → Fetched 2 shelf → AreAccepted shelf.holds topology input plan records → (s : Status) (text : List ℕ) → AcceptedComes custom base keeper (ticks_of_run ticks) fates s text plan records
      → ResumeComes custom shelf base keeper ticks topology input fates s text
  comes_of_accepted plan records twice accepted s text comes = inr (twice, record { plan = plan; records = records; accepted = accepted; comes = comes })

  pub done_of_accepted : (plan : Topology) (records : List (List Value)) → Fetched 2 shelf → AreAccepted shelf.holds topology input plan records → {A : Type 0} (result : Result (String A) EarlyEnd) → IfOk result (λ text. AcceptedComes custom base keeper (ticks_of_run ticks) fates status.Done (string_bytes text) plan records)
      → IfOk result (λ text. ResumeComes custom shelf base keeper ticks topology input fates status.Done (string_bytes text))
  done_of_accepted plan records twice accepted (Ok text) comes = comes_of_accepted plan records twice accepted status.Done (string_bytes text) comes
  done_of_accepted plan records twice accepted (Err stop) comes = tt

  pub goes_free : (availing : List ℕ → Type 0) (plan : Topology) (records : List (List Value)) → AreAccepted shelf.holds topology input plan records → ResumeMustCommitAll custom shelf base keeper ticks availing topology input fates → GoesFree custom plan records base.stores keeper ticks.to_come availing fates
  goes_free availing plan records accepted must =
      let of_plan : plan ≡ must.plan = same_plan shelf.holds topology must.plan plan must.tells_plan accepted.topology_file in
      let of_records : records ≡ records_of must.tells_input.bytes = same_records shelf.holds topology input must.plan plan must.tells_plan accepted.topology_file records must.tells_input accepted.input_file in
      subst (λ (p : Topology). GoesFree custom p records base.stores keeper ticks.to_come availing fates) (sym of_plan)
      (subst (λ (rs : List (List Value)). GoesFree custom must.plan rs base.stores keeper ticks.to_come availing fates) (sym of_records) must.free)

-- ---- which status is called for

came_of_files : (shelf : ShelfUse) (topology input : List ℕ) (s : Status) (text : List ℕ) → FilesCome shelf topology input s text → FilesCame shelf topology input s text
came_of_files shelf topology input status.Memory text comes = tt
came_of_files shelf topology input status.Topology text comes = comes
came_of_files shelf topology input status.Input text comes = comes
came_of_files shelf topology input status.ReadFault text comes = comes
came_of_files shelf topology input _ text comes = absurd comes

module _ (law : OneMeta) (custom : Custom) (shelf : ShelfUse) (sink : SinkUse) (base : RunUse) (keeper : KeeperUse) (ticks : ℕ) (topology input : List ℕ) (fates : List Attempt) where
  -- a run that went on has a start that the keeper told
  started : (plan : Topology) (records : List (List Value)) (s : Status) (text : List ℕ) → TellsOther plan records keeper → HasText s → AcceptedComes custom base keeper ticks fates s text plan records → (s ≡ status.Kept) ⊎ TakesThePlace shelf sink s
  started plan records s text other has comes = by s has comes
    where
      never : (start : Meta) → GoesOn plan records keeper start → ⊥
      never start goes = other.other start goes.of_input (goes.was_kept other.held other.told)

      by : (s : Status) → HasText s → AcceptedComes custom base keeper ticks fates s text plan records → (s ≡ status.Kept) ⊎ TakesThePlace shelf sink s
      by status.Memory has comes = absurd has
      by status.Done has comes = absurd (never comes.start comes.goes_on)
      by status.Exhausted has comes = absurd (never comes.1.start comes.1.goes_on)
      by status.StoreFault has comes = absurd (never comes.start comes.goes_on)
      by status.BadCell has comes = absurd (never comes.1.start comes.1.goes_on)
      by status.KeepFault has comes = inr tt
      by status.Kept has comes = inl refl
      by _ has comes = absurd comes

  ended : (plan : Topology) (records : List (List Value)) (s : Status) (text : List ℕ) (start : Meta) → TellsStart plan records keeper start → HasText s → AcceptedComes custom base keeper ticks fates s text plan records → IsEndOfWork s ⊎ TakesThePlace shelf sink s
  ended plan records status.Memory text start tells has comes = absurd has
  ended plan records status.Done text start tells has comes = inl tt
  ended plan records status.Exhausted text start tells has comes = inl tt
  ended plan records status.StoreFault text start tells has comes = inl tt
  ended plan records status.BadCell text start tells has comes = inl tt
  ended plan records status.KeepFault text start tells has comes = inr tt
  ended plan records status.Kept text start tells has comes = absurd (never_refused law plan records keeper text start tells comes.0)
  ended plan records _ text start tells has comes = absurd comes

module _ (law : OneMeta) (custom : Custom) (shelf : ShelfUse) (sink : SinkUse) (base : RunUse) (keeper : KeeperUse) (ticks : TicksUse) (topology input : List ℕ) (fates : List Attempt) where
  -- the told files were accepted, and have the told plan and the told records
  accepted_done : (plan : Topology) → TellsPlan shelf.holds topology plan → (good : TellsInput shelf.holds plan input) → (start : Meta) → TellsStart plan (records_of good.bytes) keeper start → (s : Status) (text : List ℕ) → HasText s
      → IsOfFiles shelf.holds topology input (AcceptedComes custom base keeper (ticks_of_run ticks) fates s text) → IsEndOfWork s ⊎ TakesThePlace shelf sink s
  accepted_done plan tells good start kept s text has of =
      let of_plan : of.plan ≡ plan = same_plan shelf.holds topology plan of.plan tells of.accepted.topology_file in
      let of_records : of.records ≡ records_of good.bytes = same_records shelf.holds topology input plan of.plan tells of.accepted.topology_file of.records good of.accepted.input_file in
      let there : TellsStart of.plan of.records keeper start =
      subst (λ (p : Topology). TellsStart p of.records keeper start) (sym of_plan) (subst (λ (rs : List (List Value)). TellsStart plan rs keeper start) (sym of_records) kept) in
      ended law custom shelf sink base keeper (ticks_of_run ticks) topology input fates of.plan of.records s text start there has of.comes

  accepted_kept : (plan : Topology) → TellsPlan shelf.holds topology plan → (good : TellsInput shelf.holds plan input) → TellsOther plan (records_of good.bytes) keeper → (s : Status) (text : List ℕ) → HasText s
      → IsOfFiles shelf.holds topology input (AcceptedComes custom base keeper (ticks_of_run ticks) fates s text) → (s ≡ status.Kept) ⊎ TakesThePlace shelf sink s
  accepted_kept plan tells good other s text has of =
      let of_plan : of.plan ≡ plan = same_plan shelf.holds topology plan of.plan tells of.accepted.topology_file in
      let of_records : of.records ≡ records_of good.bytes = same_records shelf.holds topology input plan of.plan tells of.accepted.topology_file of.records good of.accepted.input_file in
      let there : TellsOther of.plan of.records keeper =
      subst (λ (p : Topology). TellsOther p of.records keeper) (sym of_plan) (subst (λ (rs : List (List Value)). TellsOther plan rs keeper) (sym of_records) other) in
      started law custom shelf sink base keeper (ticks_of_run ticks) topology input fates of.plan of.records s text there has of.comes

  -- files that were not accepted are not the told good ones
  files_kept : (plan : Topology) → TellsPlan shelf.holds topology plan → TellsInput shelf.holds plan input → (s : Status) (text : List ℕ) → HasText s → FilesCome shelf topology input s text → (s ≡ status.Kept) ⊎ TakesThePlace shelf sink s
  files_kept plan tells good status.Memory text has comes = absurd has
  files_kept plan tells good status.Topology text has comes = absurd (never_refused_plan shelf.holds topology plan text tells comes.1)
  files_kept plan tells good status.Input text has comes = absurd (never_bad shelf.holds topology input plan comes.1.0 tells comes.1.1 text good comes.1.2)
  files_kept plan tells good status.ReadFault text has comes = inr (read_fault_rose shelf sink topology input text comes)
  files_kept plan tells good _ text has comes = absurd comes

  agrees : (s called : Status) (text : List ℕ) → HasText s → ResumeComes custom shelf base keeper ticks topology input fates s text → ResumeCalls shelf.holds keeper topology input called → AnswersCall called s ⊎ TakesThePlace shelf sink s
  agrees s status.Done text has (inl files) (plan, tells, (good, start)) = files_done shelf sink topology input plan tells good s text has (came_of_files shelf topology input s text files.0)
  agrees s status.Done text has (inr accepted) (plan, tells, (good, start)) = accepted_done plan tells good start.0 start.1 s text has accepted.1
  agrees s status.Kept text has (inl files) (plan, tells, (good, other)) = files_kept plan tells good s text has files.0
  agrees s status.Kept text has (inr accepted) (plan, tells, (good, other)) = accepted_kept plan tells good other s text has accepted.1
  agrees s status.Topology text has (inl files) fault = files_topology shelf sink topology input fault s text has (came_of_files shelf topology input s text files.0)
  agrees s status.Topology text has (inr accepted) fault = absurd (never_accepted shelf.holds topology accepted.1.plan fault accepted.1.accepted.topology_file)
  agrees s status.Input text has (inl files) (plan, tells, bad) = files_input shelf sink topology input plan tells bad s text has (came_of_files shelf topology input s text files.0)
  agrees s status.Input text has (inr accepted) (plan, tells, bad) =
      absurd (never_good shelf.holds topology input plan accepted.1.plan tells accepted.1.accepted.topology_file accepted.1.records bad accepted.1.accepted.input_file)
  agrees s _ text has comes calls = absurd calls

  pub resume_answered : (s : Status) → Ends (ResumeComes custom shelf base keeper ticks topology input fates) sink s → IsAnswered (ResumeCalls shelf.holds keeper topology input) shelf sink s
  resume_answered s = answered_by_ends (ResumeComes custom shelf base keeper ticks topology input fates) (ResumeCalls shelf.holds keeper topology input) shelf sink s agrees
