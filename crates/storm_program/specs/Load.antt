-- The command `load`.
use Rattle.std.specs.Prelude.{◌≡◌, ◌⊎◌, ℕ, ◌+◌, ◌*◌, ℤ, pos, ◌+ℤ◌, List, [], ◌∷◌, ◌++◌, length, fold, codes, decimal}
use Rattle.std.specs.Fmt.{signed_decimal}
use Rattle.std.specs.Int.{saturate_signed, w128}
use Rattle.load_source.specs.File.{load_text}
use Rattle.load_source.specs.Records.{records_after}
use Rattle.storm_resume.specs.storm_answers.declared.status.Status.{Status}
use Rattle.storm_resume.specs.storm_answers.declared.status.Status.TheVariants as status
use Rattle.storm_resume.specs.storm_answers.Ends.{Promise}
use Rattle.storm_resume.specs.storm_answers.Outside.{RunUse, ShelfUse, SinkFailed, SinkUse}
use Rattle.storm_program.specs.Replay.{IsReplayReport, ReplayEndsSo}
use Rattle.storm_resume.specs.storm_answers.Runs.{IsNotBegun, IsShort, IsUnhindered}
use Rattle.event_worlds.specs.attempt_fates.declared.fates.Attempt.{Attempt}
use Rattle.event_worlds.specs.bolt_ops.RowOp.{Custom}
use Rattle.storm_resume.specs.stored_runs.declared.ending.RunEnd.{RunEnd}
use Rattle.storm_resume.specs.stored_runs.declared.ending.RunEnd.TheVariants as run_end
use Rattle.schedule_reader.specs.declared.event.Event.{Event}
use Rattle.schedule_reader.specs.declared.event.Event.TheVariants.{Rounds}
use Rattle.event_worlds.specs.record_offers.Offers.{batch_count}
use Rattle.event_worlds.specs.storm_values.declared.value.Value.{Value}
use Rattle.event_worlds.specs.topology_plan.Topology.{Topology}
use Rattle.event_worlds.specs.tree_model.declared.write.Pair.{Pair}
use Rattle.event_worlds.specs.tree_model.declared.write.Table.{Table}
use Rattle.event_worlds.specs.tree_model.Trees.{node_count}
use Rattle.topology_reader.specs.FirstFault.{IsFilePlan}

-- ---- its line

-- how many cells tables have
abbrev pub cells_in : List Table → ℕ
cells_in tables = fold (λ n (table : Table). n + length table.pairs) 0 tables

-- a sum with the values of some cells, each addition kept within i128 as those of a state are
abbrev pub with_values : ℤ → List Pair → ℤ
with_values sum pairs = fold (λ n (pair : Pair). saturate_signed w128 (n +ℤ pair.value)) sum pairs

-- the sum of the values of all cells
abbrev pub values_in : List Table → ℤ
values_in tables = fold (λ n (table : Table). with_values n table.pairs) (pos 0) tables

-- the first half of the line
abbrev pub first_half : ℕ → ℕ → List ℕ
first_half records batches =
    codes "load " ++ decimal records ++ codes " records " ++ decimal batches

-- the line of so many records, batches and cells, and of a sum
unfoldable pub load_line : ℕ → ℕ → ℕ → ℤ → List ℕ
load_line records batches keys words =
    first_half records batches
    ++ (codes " batches " ++ decimal keys ++ codes " keys " ++ signed_decimal words
    ++ codes " words\n")

-- the line of so many records and batches, with these tables
abbrev pub line_of : ℕ → ℕ → List Table → List ℕ
line_of records batches tables =
    load_line records batches (cells_in tables) (values_in tables)

-- ---- what it does

-- as many rounds as are enough for the records
abbrev pub load_events : Topology → Custom → List (List Value) → List Event
load_events plan custom records =
    Rounds
    (64 * (node_count plan custom records + batch_count (length records) plan.batch + 1))
    ∷ []

-- The replay of a load: that of the plan of its file, over the records of its two numbers and
-- rounds enough.
pub record IsOfLoad (custom : Custom) (count seed : ℕ)
    (Comes : Topology → List (List Value) → List Event → Type 0) : Type 0 where
  pub plan : Topology
  pub is_plan : IsFilePlan load_text plan
  pub comes : Comes plan (records_after count seed)
      (load_events plan custom (records_after count seed))

-- the line in place of the report of that replay, with the counts of its tables
pub record IsLoadLine (custom : Custom) (plan : Topology) (records : List (List Value))
    (events : List Event) (base : RunUse) (fates : List Attempt) (text : List ℕ) : Type 0 where
  pub report : List ℕ
  pub replayed : IsReplayReport custom plan records events base fates report
  pub printed : text
      ≡ line_of (length records) (batch_count (length records) plan.batch)
      replayed.report.tables

abbrev pub LoadEnds : Custom → RunUse → ℕ → ℕ → List Attempt → RunEnd → List ℕ → Type 0
LoadEnds custom base count seed fates ending text =
    IsOfLoad custom count seed
    (λ plan records events. ReplayEndsSo custom plan records events base fates ending text)

-- What a load comes to, by its status. No load comes to the other statuses.
abbrev pub LoadComes : Custom → RunUse → ℕ → ℕ → List Attempt → Status → List ℕ → Type 0
LoadComes custom base count seed fates status.Done text =
    IsOfLoad custom count seed
    (λ plan records events. IsLoadLine custom plan records events base fates text)
LoadComes custom base count seed fates status.Memory text =
    IsNotBegun base fates
    ⊎ IsOfLoad custom count seed
    (λ plan records events. IsShort custom plan records base fates)
LoadComes custom base count seed fates status.Exhausted text =
    (txid : ℕ) × LoadEnds custom base count seed fates (run_end.Exhausted txid) text
LoadComes custom base count seed fates status.Unfinished text =
    (k : ℕ) × LoadEnds custom base count seed fates (run_end.Unfinished k) text
LoadComes custom base count seed fates status.StoreFault text =
    LoadEnds custom base count seed fates run_end.StoreFault text
LoadComes custom base count seed fates status.BadCell text =
    (key : List ℕ) × LoadEnds custom base count seed fates (run_end.BadCell key) text
LoadComes custom base count seed fates _ text = ⊥

-- it calls for its own work
abbrev pub LoadCalls : Status → Type 0
LoadCalls ending = ending ≡ status.Done

-- A load has to commit every batch where nothing is in the way of a plan of its file.
pub record LoadMustCommitAll (base : RunUse) (fates : List Attempt) : Type 0 where
  pub plan : Topology
  pub is_plan : IsFilePlan load_text plan
  pub free : IsUnhindered plan base.stores fates

-- so it has to be done, where the sink did not fail either
abbrev pub LoadMustFinish : SinkUse → RunUse → List Attempt → Type 0
LoadMustFinish sink base fates = LoadMustCommitAll base fates × (SinkFailed sink → ⊥)

-- a load as a command among others; it fetches no file
abbrev pub load_promise : Custom → ShelfUse → SinkUse → RunUse → List Attempt → ℕ → ℕ → Promise
load_promise custom shelf sink base fates count seed = record {
  comes = λ ending text.
      (shelf.fetches_after ≡ shelf.fetches_before)
      × LoadComes custom base count seed fates ending text;
  calls = LoadCalls;
  must_finish = LoadMustFinish sink base fates;
}
