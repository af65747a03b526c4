-- The command `resume`: a run that goes on where an earlier one over the same topology and records
-- stopped. What is kept of that run is held by a keeper.
use Rattle.std.specs.Prelude.{◌≡◌, ◌⊎◌, ◌<◌, ◌+◌, ◌*◌, ◌++◌, ℕ, List, [], ◌∷◌, All, drop, length, sum, codes, IsSomeAnd}
use Rattle.event_worlds.specs.attempt_fates.declared.fates.Attempt.{Attempt}
use Rattle.event_worlds.specs.attempt_fates.Fates.{DropsFollow, IsOnce, IsWhole, committed, committed_records}
use Rattle.event_worlds.specs.bolt_ops.RowOp.{Custom}
use Rattle.event_worlds.specs.commit_turns.Kept.{FailsInTurn}
use Rattle.event_worlds.specs.commit_turns.Turns.{last_tick}
use Rattle.event_worlds.specs.record_offers.Offers.{batch_count}
use Rattle.event_worlds.specs.record_offers.Starts.{IsPossible}
use Rattle.event_worlds.specs.Rounds.{rounds_needed}
use Rattle.event_worlds.specs.storm_values.declared.value.Value.{Value}
use Rattle.event_worlds.specs.storm_values.Lines.{records_of}
use Rattle.event_worlds.specs.taken_records.Cuts.{Cut}
use Rattle.event_worlds.specs.topology_plan.Topology.{Topology}
use Rattle.event_worlds.specs.tree_model.declared.write.Table.{Table}
use Rattle.kept_commits.specs.Kept.{WasKept}
use Rattle.kept_commits.specs.KeptRuns.{IsHeldAfterRun, cut_at}
use Rattle.resume_meta.specs.Keepers.{Held}
use Rattle.resume_meta.specs.Meta.{IsNoText, IsTextOf}
use Rattle.resume_meta.specs.declared.meta.Meta.{Meta}
use Rattle.storm_answers.specs.Ends.{Promise}
use Rattle.storm_answers.specs.Files.{FilesCall, FilesCome, TellsInput, TellsPlan}
use Rattle.storm_answers.specs.Outside.{Fetched, RunUse, ShelfFailed, ShelfUse, SinkFailed, SinkUse, TicksUse}
use Rattle.storm_answers.specs.Reports.{IsEndText, IsTextOf as IsReportOf, WasAcked, cut_by}
use Rattle.storm_answers.specs.Runs.{IsNotBegun, IsOfFiles, ticks_of_run}
use Rattle.storm_answers.specs.declared.status.Status.{Status}
use Rattle.storm_answers.specs.declared.status.Status.TheVariants as status
use Rattle.storm_answers.specs.run_report.Cells.{cells_of}
use Rattle.storm_answers.specs.run_report.Report.{ok}
use Rattle.storm_answers.specs.schedule_core.Runs.{first_answers}
use Rattle.storm_answers.specs.stored_runs.declared.ending.RunEnd.{RunEnd}
use Rattle.storm_answers.specs.stored_runs.declared.ending.RunEnd.TheVariants as run_end
use Rattle.storm_answers.specs.stored_runs.Makers.{CameBack, FaultsAreCounted, MakerUse}
use Rattle.storm_answers.specs.stored_runs.Resuming.{HadRows, IsResumed}
use Rattle.storm_answers.specs.stored_runs.StoredRuns.{AreTablesOfCommits, HaveCauses, IsRun, NothingIsInTheWay, StandAtCommits, StandsWithoutMemory}
use Rattle.storm_resume.specs.Keeping.{FailedOnce, HoldsAfter, HoldsStill, IsUnchanged, KeeperFailed, KeeperUse, NoFault, HoldsAll}

-- ---- its lines

-- a call of the keeper failed
abbrev pub keep_fault_line : List ℕ
keep_fault_line = codes "keep fault\n"

-- what is kept is the text of no meta, or the meta of a run over other input
abbrev pub not_a_meta_line : List ℕ
not_a_meta_line = codes "kept: not a meta\n"

abbrev pub other_input_line : List ℕ
other_input_line = codes "kept: other input\n"

-- ---- where it goes on

-- A meta may be that of a run over these records: their number is that of the meta, and the
-- transactions up to the kept one may have taken just the kept records.
pub record IsOfInput (plan : Topology) (records : List (List Value)) (meta : Meta) : Type 0 where
  pub same_number : meta.records ≡ length records
  pub possible : IsPossible (length records) plan.batch plan.partitions meta.txid meta.spans

-- A run goes on at the meta that the keeper held, or at the first one of the input where it held
-- nothing.
pub record GoesOn (plan : Topology) (records : List (List Value)) (keeper : KeeperUse)
    (start : Meta) : Type 0 where
  pub was_kept : (held : Held) → keeper.held held → WasKept held start
  pub of_input : IsOfInput plan records start

-- the records of the input, offered as a plan says, where those of the start are gone
abbrev pub cut_after : Topology → List (List Value) → Meta → Cut
cut_after plan records start = cut_at (cut_by plan records) start

-- ---- what it comes to

-- The report of a run that went on over a plan and the records of its input, with the operation that
-- was handed in, where so many ticks were handed out.
pub record IsResumeReport (custom : Custom) (plan : Topology) (records : List (List Value))
    (base : RunUse) (keeper : KeeperUse) (ticks : ℕ) (fates : List Attempt) (text : List ℕ)
    : Type 0 where
  pub start : Meta
  pub goes_on : GoesOn plan records keeper start
  -- the attempt lines of this run, the tables, and all batches, those of the earlier runs too
  pub tables : List Table
  pub printed : IsReportOf plan fates (cells_of tables)
      (ok (length records) (start.txid + length (committed fates))) text
  -- Over stores that stood at some batches up to the start, which hold just its records, the tables
  -- are those of one machine that takes the records of these batches and then those that were
  -- committed, in transaction order.
  pub of_commits : AreTablesOfCommits plan custom (cut_after plan records start) base.stores
      fates tables
  -- without partitions these are the other records of the input, in its order, and all its batches
  pub in_order : plan.partitions ≡ 0
      → committed_records records fates ≡ drop (start.txid * plan.batch) records
  pub all_batches : plan.partitions ≡ 0
      → start.txid + length (committed fates) ≡ batch_count (length records) plan.batch
  -- every record was committed up to the start or stands in exactly one committed batch
  pub whole : IsWhole (cut_after plan records start) ticks fates
  -- each committed attempt's whole tuple tree was acked
  pub acked : All (WasAcked plan custom records) fates
  -- every end has its cause
  pub caused : HaveCauses base.words plan custom (cut_after plan records start) ticks fates
  pub failed_in_turn : FailsInTurn (cut_after plan records start) fates
  pub drops : DropsFollow (cut_after plan records start) fates
  pub counted : FaultsAreCounted plan base.stores fates
  -- all cells were looked at before an attempt was begun
  pub looked : (fates ≡ [] → ⊥) → HadRows plan base.stores
  -- the stores came back, and stand at all batches
  pub back : CameBack plan base.stores
  pub stands : StandAtCommits plan custom (cut_after plan records start) base.stores fates
  -- the keeper holds the meta of all records
  pub kept : HoldsAfter keeper start fates
  pub kept_all : HoldsAll keeper (length records) (start.txid + length (committed fates))
  pub no_fault : NoFault keeper

-- A run that went on over the records of an input ended so, left these fates, and this is its text.
-- The stores stand at what the keeper holds. Where a store failed before an attempt was begun,
-- there are no fates.
pub record ResumeEndsSo (custom : Custom) (plan : Topology) (records : List (List Value))
    (base : RunUse) (keeper : KeeperUse) (ticks : ℕ) (fates : List Attempt) (ending : RunEnd)
    (text : List ℕ) : Type 0 where
  pub start : Meta
  pub goes_on : GoesOn plan records keeper start
  pub run : IsResumed base.words plan custom (cut_after plan records start) ticks base.stores
      fates ending
  pub looked : (fates ≡ [] → ⊥) → HadRows plan base.stores
  pub back : CameBack plan base.stores
  pub kept : HoldsAfter keeper start fates
  pub no_fault : NoFault keeper
  pub printed : IsEndText plan (length records) fates ending text

-- The keeper failed after the commit of the last attempt. It holds the meta of all that is
-- committed, or of all but the last commit; and the stores stand at either, since the last commit
-- may be made again.
pub record EndsUnkept (custom : Custom) (plan : Topology) (records : List (List Value))
    (base : RunUse) (keeper : KeeperUse) (ticks : ℕ) (fates : List Attempt) : Type 0 where
  pub start : Meta
  pub goes_on : GoesOn plan records keeper start
  pub txid : ℕ
  pub run : IsRun base.words plan custom (cut_after plan records start) ticks base.stores fates
      (run_end.Follow txid)
  pub earlier : List Attempt
  pub last : Attempt
  pub ends : fates ≡ earlier ++ last ∷ []
  pub stands : StandAtCommits plan custom (cut_after plan records start) base.stores earlier
  pub looked : HadRows plan base.stores
  pub back : CameBack plan base.stores
  pub kept : (held : Held) → keeper.held held → (now : Held) × keeper.holds now
      × (IsHeldAfterRun start earlier now ⊎ IsHeldAfterRun start fates now)
  pub failed : FailedOnce keeper

-- The keeper was not read, and nothing was begun.
pub record IsUnread (base : RunUse) (keeper : KeeperUse) (fates : List Attempt) : Type 0 where
  pub idle : IsNotBegun base fates
  pub same : HoldsStill keeper
  pub failed : FailedOnce keeper

-- the line that refuses what is kept: no meta, or that of a run over other input
pub data IsKeptLine (plan : Topology) (records : List (List Value)) (keeper : KeeperUse)
    (text : List ℕ) : Type 0 where
  of_text : ((held : Held) → keeper.held held → IsSomeAnd held IsNoText)
      → text ≡ not_a_meta_line → IsKeptLine plan records keeper text
  of_input : (meta : Meta)
      → ((held : Held) → keeper.held held → IsSomeAnd held (λ bytes. IsTextOf bytes meta))
      → (IsOfInput plan records meta → ⊥) → text ≡ other_input_line
      → IsKeptLine plan records keeper text

-- Want of memory after a run was begun: no batch was committed twice, the stores came back, and
-- stand at what was committed. Nothing is said of what the keeper holds.
pub record IsResumeShort (custom : Custom) (plan : Topology) (records : List (List Value))
    (base : RunUse) (keeper : KeeperUse) (fates : List Attempt) : Type 0 where
  pub start : Meta
  pub goes_on : GoesOn plan records keeper start
  pub once : IsOnce (cut_after plan records start) last_tick fates
  pub looked : (fates ≡ [] → ⊥) → HadRows plan base.stores
  pub back : CameBack plan base.stores
  pub stands : StandsWithoutMemory plan custom (cut_after plan records start) base.stores fates
  pub no_fault : NoFault keeper

-- nothing was begun, and the keeper is as it was
abbrev pub IsIdle : RunUse → KeeperUse → List Attempt → Type 0
IsIdle base keeper fates = IsNotBegun base fates × IsUnchanged keeper

-- what it comes to over accepted files, by its status
abbrev pub AcceptedComes : Custom → RunUse → KeeperUse → ℕ → List Attempt → Status → List ℕ
    → Topology → List (List Value) → Type 0
AcceptedComes custom base keeper ticks fates status.Done text plan records =
    IsResumeReport custom plan records base keeper ticks fates text
AcceptedComes custom base keeper ticks fates status.Memory text plan records =
    IsIdle base keeper fates ⊎ IsResumeShort custom plan records base keeper fates
AcceptedComes custom base keeper ticks fates status.Exhausted text plan records =
    (txid : ℕ)
    × ResumeEndsSo custom plan records base keeper ticks fates (run_end.Exhausted txid) text
AcceptedComes custom base keeper ticks fates status.StoreFault text plan records =
    ResumeEndsSo custom plan records base keeper ticks fates run_end.StoreFault text
AcceptedComes custom base keeper ticks fates status.BadCell text plan records =
    (key : List ℕ)
    × ResumeEndsSo custom plan records base keeper ticks fates (run_end.BadCell key) text
AcceptedComes custom base keeper ticks fates status.KeepFault text plan records =
    (text ≡ keep_fault_line)
    × (IsUnread base keeper fates
    ⊎ EndsUnkept custom plan records base keeper ticks fates)
AcceptedComes custom base keeper ticks fates status.Kept text plan records =
    IsKeptLine plan records keeper text × IsIdle base keeper fates
AcceptedComes custom base keeper ticks fates _ text plan records = ⊥

-- What it comes to, by its status: the files were not both accepted and nothing was begun, or they
-- were.
abbrev pub ResumeComes : Custom → ShelfUse → RunUse → KeeperUse → TicksUse → List ℕ → List ℕ
    → List Attempt → Status → List ℕ → Type 0
ResumeComes custom shelf base keeper ticks topology input fates ending text =
    (FilesCome shelf topology input ending text × IsIdle base keeper fates)
    ⊎ (Fetched 2 shelf
    × IsOfFiles shelf.holds topology input
    (AcceptedComes custom base keeper (ticks_of_run ticks) fates ending text))

-- ---- which status is called for

-- the keeper tells what is no meta of a run over these records
pub record TellsOther (plan : Topology) (records : List (List Value)) (keeper : KeeperUse)
    : Type 0 where
  pub held : Held
  pub told : keeper.held held
  pub other : (meta : Meta) → IsOfInput plan records meta → WasKept held meta → ⊥

-- the keeper tells a meta of a run over these records, or nothing
pub record TellsStart (plan : Topology) (records : List (List Value)) (keeper : KeeperUse)
    (start : Meta) : Type 0 where
  pub held : Held
  pub told : keeper.held held
  pub was_kept : WasKept held start
  pub of_input : IsOfInput plan records start

-- Which status the told files and the told keeper call for.
abbrev pub ResumeCalls : (List ℕ → List ℕ → Type 0) → KeeperUse → List ℕ → List ℕ → Status → Type 0
ResumeCalls holds keeper topology input status.Done =
    (plan : Topology)
    × TellsPlan holds topology plan
    × ((good : TellsInput holds plan input)
    × ((start : Meta) × TellsStart plan (records_of good.bytes) keeper start))
ResumeCalls holds keeper topology input status.Kept =
    (plan : Topology)
    × TellsPlan holds topology plan
    × ((good : TellsInput holds plan input) × TellsOther plan (records_of good.bytes) keeper)
ResumeCalls holds keeper topology input ending = FilesCall holds topology input ending

-- ---- when it has to commit all

-- Nothing is in the way of a run over accepted files that goes on: the keeper tells a meta of the
-- input and did not fail, the stores began empty, where nothing was kept, or stood at the batches up
-- to the start, and no store failed, no partition is shut, and few ticks are to come in so many
-- rounds as a run needs.
pub record GoesFree (custom : Custom) (plan : Topology) (records : List (List Value))
    (stores : MakerUse) (keeper : KeeperUse) (ticking availing : List ℕ → Type 0)
    (fates : List Attempt) : Type 0 where
  pub start : Meta
  pub tells_start : TellsStart plan records keeper start
  pub keeper_fine : KeeperFailed keeper → ⊥
  pub free : NothingIsInTheWay plan custom (cut_after plan records start) stores fates
  -- with partitions, it was told that all are open whenever it is asked
  pub all_open : 0 < plan.partitions → availing []
  pub to_come : List ℕ
  pub told : ticking to_come
  pub few_ticks : sum (first_answers
      (rounds_needed plan custom (cut_after plan records start)) to_come) < plan.buckets

-- It has to commit every record: the told files are accepted, the files did not fail, and nothing is
-- in the way.
pub record ResumeMustCommitAll (custom : Custom) (shelf : ShelfUse) (base : RunUse)
    (keeper : KeeperUse) (ticks : TicksUse) (availing : List ℕ → Type 0) (topology input : List ℕ)
    (fates : List Attempt) : Type 0 where
  pub plan : Topology
  pub tells_plan : TellsPlan shelf.holds topology plan
  pub tells_input : TellsInput shelf.holds plan input
  -- the shelf did not fail, or was ready
  pub shelf_fine : (ShelfFailed shelf → ⊥) ⊎ shelf.ready
  pub free : GoesFree custom plan (records_of tells_input.bytes) base.stores keeper ticks.to_come
      availing fates

-- so it has to be done, where the sink did not fail either
abbrev pub ResumeMustFinish : Custom → ShelfUse → SinkUse → RunUse → KeeperUse → TicksUse
    → (List ℕ → Type 0) → List ℕ → List ℕ → List Attempt → Type 0
ResumeMustFinish custom shelf sink base keeper ticks availing topology input fates =
    ResumeMustCommitAll custom shelf base keeper ticks availing topology input fates
    × (SinkFailed sink → ⊥)

-- `resume` as a command among others
abbrev pub resume_promise : Custom → ShelfUse → SinkUse → RunUse → KeeperUse → TicksUse
    → (List ℕ → Type 0) → List Attempt → List ℕ → List ℕ → Promise
resume_promise custom shelf sink base keeper ticks availing fates topology input = record {
  comes = ResumeComes custom shelf base keeper ticks topology input fates;
  calls = ResumeCalls shelf.holds keeper topology input;
  must_finish =
      ResumeMustFinish custom shelf sink base keeper ticks availing topology input fates;
}
