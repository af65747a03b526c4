-- The command `replay`.
use Rattle.std.specs.Prelude.{◌⊎◌, ◌<◌, ℕ, List, [], All}
use Rattle.event_worlds.specs.attempt_fates.declared.fates.Attempt.{Attempt}
use Rattle.event_worlds.specs.bolt_ops.RowOp.{Custom}
use Rattle.event_worlds.specs.Rounds.{HasRounds, rounds_needed, ticks_in}
use Rattle.storm_resume.specs.schedule_core.Schedules.{all_steps}
use Rattle.schedule_reader.specs.declared.event.Event.{Event}
use Rattle.storm_resume.specs.storm_answers.declared.status.Status.{Status}
use Rattle.storm_resume.specs.storm_answers.declared.status.Status.TheVariants as status
use Rattle.storm_resume.specs.storm_answers.Ends.{Promise}
use Rattle.storm_resume.specs.storm_answers.Files.{TellsInput, TellsPlan}
use Rattle.storm_resume.specs.storm_answers.Outside.{Fetched, RunUse, ShelfFailed, ShelfUse, SinkFailed, SinkUse}
use Rattle.storm_resume.specs.storm_answers.Reports.{EndsSo, IsReport, cut_by}
use Rattle.storm_resume.specs.storm_answers.Runs.{IsNotBegun, IsShort, IsUnhindered}
use Rattle.storm_resume.specs.storm_answers.Schedules.{AllFilesCall, AllFilesCome, AreAllAccepted, TellsEvents}
use Rattle.event_worlds.specs.storm_values.declared.value.Value.{Value}
use Rattle.event_worlds.specs.storm_values.Lines.{records_of}
use Rattle.storm_resume.specs.stored_runs.declared.ending.RunEnd.{RunEnd}
use Rattle.storm_resume.specs.stored_runs.declared.ending.RunEnd.TheVariants as run_end
use Rattle.storm_resume.specs.stored_runs.StoredRuns.{IsRunOfWorld}
use Rattle.event_worlds.specs.topology_plan.Topology.{Topology}
use Rattle.world_progress.specs.Rounding.{ShutsNone}

-- how many ticks a schedule hands out
abbrev pub ticks_of_schedule : Topology → List Event → ℕ
ticks_of_schedule plan events = ticks_in (all_steps plan events)

-- the three files of these names were accepted, and what they say comes to this
pub record IsOfAllFiles (holds : List ℕ → List ℕ → Type 0) (topology input schedule : List ℕ)
    (Comes : Topology → List (List Value) → List Event → Type 0) : Type 0 where
  pub plan : Topology
  pub records : List (List Value)
  pub events : List Event
  pub accepted : AreAllAccepted holds topology input schedule plan records events
  pub comes : Comes plan records events

-- A replay of accepted files that ended so. Its fates are those of the world after the schedule's
-- steps.
pub record ReplayEndsSo (custom : Custom) (plan : Topology) (records : List (List Value))
    (events : List Event) (base : RunUse) (fates : List Attempt) (ending : RunEnd) (text : List ℕ)
    : Type 0 where
  pub ends : EndsSo custom plan records base (ticks_of_schedule plan events) fates ending text
  pub of_world : IsRunOfWorld base.words plan custom (cut_by plan records) (all_steps plan events)
      fates ending

abbrev pub ReplayEnds : Custom → ShelfUse → RunUse → List ℕ → List ℕ → List ℕ → List Attempt
    → RunEnd → List ℕ → Type 0
ReplayEnds custom shelf base topology input schedule fates ending text =
    Fetched 3 shelf
    × IsOfAllFiles shelf.holds topology input schedule
    (λ plan records events. ReplayEndsSo custom plan records events base fates ending text)

-- the report of a replay, whose fates are those of the world after the schedule's steps
pub record IsReplayReport (custom : Custom) (plan : Topology) (records : List (List Value))
    (events : List Event) (base : RunUse) (fates : List Attempt) (text : List ℕ) : Type 0 where
  pub report : IsReport custom plan records base (ticks_of_schedule plan events) fates text
  pub of_world : IsRunOfWorld base.words plan custom (cut_by plan records) (all_steps plan events)
      fates (run_end.All report.tables)

-- What a replay comes to, by its status. No replay comes to the other statuses.
abbrev pub ReplayComes : Custom → ShelfUse → RunUse → List ℕ → List ℕ → List ℕ → List Attempt
    → Status → List ℕ → Type 0
ReplayComes custom shelf base topology input schedule fates status.Done text =
    Fetched 3 shelf
    × IsOfAllFiles shelf.holds topology input schedule
    (λ plan records events. IsReplayReport custom plan records events base fates text)
ReplayComes custom shelf base topology input schedule fates status.Memory text =
    (AllFilesCome shelf topology input schedule status.Memory [] × IsNotBegun base fates)
    ⊎ (Fetched 3 shelf
    × IsOfAllFiles shelf.holds topology input schedule
    (λ plan records events. IsShort custom plan records base fates))
ReplayComes custom shelf base topology input schedule fates status.Topology text =
    AllFilesCome shelf topology input schedule status.Topology text × IsNotBegun base fates
ReplayComes custom shelf base topology input schedule fates status.Input text =
    AllFilesCome shelf topology input schedule status.Input text × IsNotBegun base fates
ReplayComes custom shelf base topology input schedule fates status.ReadFault text =
    AllFilesCome shelf topology input schedule status.ReadFault text × IsNotBegun base fates
ReplayComes custom shelf base topology input schedule fates status.Schedule text =
    AllFilesCome shelf topology input schedule status.Schedule text × IsNotBegun base fates
ReplayComes custom shelf base topology input schedule fates status.Exhausted text =
    (txid : ℕ)
    × ReplayEnds custom shelf base topology input schedule fates (run_end.Exhausted txid) text
ReplayComes custom shelf base topology input schedule fates status.Unfinished text =
    (k : ℕ) × ReplayEnds custom shelf base topology input schedule fates (run_end.Unfinished k) text
ReplayComes custom shelf base topology input schedule fates status.StoreFault text =
    ReplayEnds custom shelf base topology input schedule fates run_end.StoreFault text
ReplayComes custom shelf base topology input schedule fates status.BadCell text =
    (key : List ℕ)
    × ReplayEnds custom shelf base topology input schedule fates (run_end.BadCell key) text
ReplayComes custom shelf base topology input schedule fates _ text = ⊥

-- Which status the told files call for.
abbrev pub ReplayCalls : (List ℕ → List ℕ → Type 0) → List ℕ → List ℕ → List ℕ → Status → Type 0
ReplayCalls = AllFilesCall

-- A replay has to commit every batch: the told files are accepted, the files did not fail, nothing
-- is in the way, and the schedule has as many rounds as a run needs and few ticks, and shuts no
-- partition.
pub record ReplayMustCommitAll (custom : Custom) (shelf : ShelfUse) (base : RunUse)
    (topology input schedule : List ℕ) (fates : List Attempt) : Type 0 where
  pub plan : Topology
  pub events : List Event
  pub tells_plan : TellsPlan shelf.holds topology plan
  pub tells_input : TellsInput shelf.holds plan input
  pub tells_events : TellsEvents shelf.holds plan schedule events
  -- the shelf did not fail, or was ready
  pub shelf_fine : (ShelfFailed shelf → ⊥) ⊎ shelf.ready
  pub free : IsUnhindered plan base.stores fates
  pub rounds : HasRounds plan
      (rounds_needed plan custom (cut_by plan (records_of tells_input.bytes)))
      (all_steps plan events)
  pub few_ticks : ticks_of_schedule plan events < plan.buckets
  -- with partitions, the schedule shuts none
  pub shuts_none : 0 < plan.partitions → All ShutsNone (all_steps plan events)

-- so it has to be done, where the sink did not fail either
abbrev pub ReplayMustFinish : Custom → ShelfUse → SinkUse → RunUse → List ℕ → List ℕ → List ℕ
    → List Attempt → Type 0
ReplayMustFinish custom shelf sink base topology input schedule fates =
    ReplayMustCommitAll custom shelf base topology input schedule fates × (SinkFailed sink → ⊥)

-- a replay as a command among others
abbrev pub replay_promise : Custom → ShelfUse → SinkUse → RunUse → List Attempt → List ℕ → List ℕ
    → List ℕ → Promise
replay_promise custom shelf sink base fates topology input schedule = record {
  comes = ReplayComes custom shelf base topology input schedule fates;
  calls = ReplayCalls shelf.holds topology input schedule;
  must_finish = ReplayMustFinish custom shelf sink base topology input schedule fates;
}
