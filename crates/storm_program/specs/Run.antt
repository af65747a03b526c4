-- The command `run`.
use Rattle.std.specs.Prelude.{◌⊎◌, ◌<◌, ℕ, List, [], sum}
use Rattle.event_worlds.specs.attempt_fates.declared.fates.Attempt.{Attempt}
use Rattle.event_worlds.specs.bolt_ops.RowOp.{Custom}
use Rattle.event_worlds.specs.Rounds.{rounds_needed}
use Rattle.storm_resume.specs.schedule_core.Runs.{first_answers}
use Rattle.storm_resume.specs.storm_answers.declared.status.Status.{Status}
use Rattle.storm_resume.specs.storm_answers.declared.status.Status.TheVariants as status
use Rattle.storm_resume.specs.storm_answers.Ends.{Promise}
use Rattle.storm_resume.specs.storm_answers.Files.{FilesCall, FilesCome, TellsInput, TellsPlan}
use Rattle.storm_resume.specs.storm_answers.Outside.{Fetched, RunUse, ShelfFailed, ShelfUse, SinkFailed, SinkUse, TicksUse}
use Rattle.storm_resume.specs.storm_answers.Reports.{EndsSo, IsReport, cut_by}
use Rattle.storm_resume.specs.storm_answers.Runs.{IsNotBegun, IsOfFiles, IsShort, IsUnhindered, ticks_of_run}
use Rattle.event_worlds.specs.storm_values.Lines.{records_of}
use Rattle.storm_resume.specs.stored_runs.declared.ending.RunEnd.{RunEnd}
use Rattle.storm_resume.specs.stored_runs.declared.ending.RunEnd.TheVariants as run_end
use Rattle.event_worlds.specs.topology_plan.Topology.{Topology}

-- a run of accepted files that ended so
abbrev pub RunEnds : Custom → ShelfUse → RunUse → TicksUse → List ℕ → List ℕ → List Attempt
    → RunEnd → List ℕ → Type 0
RunEnds custom shelf base ticks topology input fates ending text =
    Fetched 2 shelf
    × IsOfFiles shelf.holds topology input
    (λ plan records. EndsSo custom plan records base (ticks_of_run ticks) fates ending text)

-- What a run comes to, by its status. No run comes to the other statuses.
abbrev pub RunComes : Custom → ShelfUse → RunUse → TicksUse → List ℕ → List ℕ → List Attempt
    → Status → List ℕ → Type 0
RunComes custom shelf base ticks topology input fates status.Done text =
    Fetched 2 shelf
    × IsOfFiles shelf.holds topology input
    (λ plan records. IsReport custom plan records base (ticks_of_run ticks) fates text)
RunComes custom shelf base ticks topology input fates status.Memory text =
    (FilesCome shelf topology input status.Memory [] × IsNotBegun base fates)
    ⊎ (Fetched 2 shelf
    × IsOfFiles shelf.holds topology input (λ plan records. IsShort custom plan records base fates))
RunComes custom shelf base ticks topology input fates status.Topology text =
    FilesCome shelf topology input status.Topology text × IsNotBegun base fates
RunComes custom shelf base ticks topology input fates status.Input text =
    FilesCome shelf topology input status.Input text × IsNotBegun base fates
RunComes custom shelf base ticks topology input fates status.ReadFault text =
    FilesCome shelf topology input status.ReadFault text × IsNotBegun base fates
RunComes custom shelf base ticks topology input fates status.Exhausted text =
    (txid : ℕ) × RunEnds custom shelf base ticks topology input fates (run_end.Exhausted txid) text
RunComes custom shelf base ticks topology input fates status.StoreFault text =
    RunEnds custom shelf base ticks topology input fates run_end.StoreFault text
RunComes custom shelf base ticks topology input fates status.BadCell text =
    (key : List ℕ)
    × RunEnds custom shelf base ticks topology input fates (run_end.BadCell key) text
RunComes custom shelf base ticks topology input fates _ text = ⊥

-- Which status the told files call for.
abbrev pub RunCalls : (List ℕ → List ℕ → Type 0) → List ℕ → List ℕ → Status → Type 0
RunCalls = FilesCall

-- A run has to commit every batch: the told files are accepted, the files did not fail, nothing is
-- in the way, no partition is shut, and few ticks are to come in so many rounds as a run needs.
pub record MustCommitAll (custom : Custom) (shelf : ShelfUse) (base : RunUse) (ticks : TicksUse)
    (availing : List ℕ → Type 0) (topology input : List ℕ) (fates : List Attempt) : Type 0 where
  pub plan : Topology
  pub tells_plan : TellsPlan shelf.holds topology plan
  pub tells_input : TellsInput shelf.holds plan input
  -- the shelf did not fail, or was ready
  pub shelf_fine : (ShelfFailed shelf → ⊥) ⊎ shelf.ready
  pub free : IsUnhindered plan base.stores fates
  -- with partitions, it was told that all are open whenever it is asked
  pub all_open : 0 < plan.partitions → availing []
  pub to_come : List ℕ
  pub told : ticks.to_come to_come
  pub few_ticks : sum (first_answers
      (rounds_needed plan custom (cut_by plan (records_of tells_input.bytes))) to_come)
      < plan.buckets

-- so it has to be done, where the sink did not fail either
abbrev pub MustFinish : Custom → ShelfUse → SinkUse → RunUse → TicksUse → (List ℕ → Type 0)
    → List ℕ → List ℕ → List Attempt → Type 0
MustFinish custom shelf sink base ticks availing topology input fates =
    MustCommitAll custom shelf base ticks availing topology input fates × (SinkFailed sink → ⊥)

-- a run as a command among others
abbrev pub run_promise : Custom → ShelfUse → SinkUse → RunUse → TicksUse → (List ℕ → Type 0)
    → List Attempt → List ℕ → List ℕ → Promise
run_promise custom shelf sink base ticks availing fates topology input = record {
  comes = RunComes custom shelf base ticks topology input fates;
  calls = RunCalls shelf.holds topology input;
  must_finish = MustFinish custom shelf sink base ticks availing topology input fates;
}
