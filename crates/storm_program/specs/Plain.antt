-- The command `plain`: the tables by definition, without batches, whatever fails or stays mute.
use Rattle.std.specs.Prelude.{◌≡◌, ℕ, List, [], length}
use Rattle.event_worlds.specs.storm_values.declared.value.Value.{Value}
use Rattle.event_worlds.specs.bolt_ops.RowOp.{Custom}
use Rattle.event_worlds.specs.topology_plan.Topology.{Topology}
use Rattle.event_worlds.specs.tree_model.declared.write.Table.{Table}
use Rattle.event_worlds.specs.tree_model.Trees.{writes}
use Rattle.event_worlds.specs.tree_model.Tables.{AreTables}
use Rattle.event_worlds.specs.record_offers.Offers.{batch_count}
use Rattle.event_worlds.specs.attempt_fates.declared.fates.Attempt.{Attempt}
use Rattle.run_report.specs.Cells.{cells_of}
use Rattle.run_report.specs.Report.{ok, report_text}
use Rattle.storm_resume.specs.storm_answers.declared.status.Status.{Status}
use Rattle.storm_resume.specs.storm_answers.declared.status.Status.TheVariants as status
use Rattle.storm_resume.specs.storm_answers.Ends.{Promise}
use Rattle.storm_resume.specs.storm_answers.Files.{AreAccepted, FilesCome, FilesCall}
use Rattle.storm_resume.specs.storm_answers.Outside.{ShelfUse, Fetched}
use Rattle.storm_resume.specs.stored_runs.Makers.{IsUntouched, MakerUse}

-- The report of a plan and the records of an input, with the operation that was handed in. The
-- tables are those of one machine that takes all records in order, and there is no attempt line.
pub record IsPlainReport (custom : Custom) (plan : Topology) (records : List (List Value))
    (text : List ℕ) : Type 0 where
  pub tables : List Table
  pub of_records : AreTables plan custom (writes plan custom records) tables
  pub printed : text ≡ report_text (record {
    attempts = [];
    cells = cells_of tables;
    tail = ok (length records) (batch_count (length records) plan.batch);
  })

-- the report of the files of these names, whatever valid plan that is
pub record IsPlainReportOfFiles (custom : Custom) (holds : List ℕ → List ℕ → Type 0)
    (topology input : List ℕ) (text : List ℕ) : Type 0 where
  pub plan : Topology
  pub records : List (List Value)
  pub accepted : AreAccepted holds topology input plan records
  pub report : IsPlainReport custom plan records text

-- What it comes to, by its status. It comes to no other status.
abbrev pub PlainComes : Custom → ShelfUse → List ℕ → List ℕ → Status → List ℕ → Type 0
PlainComes custom shelf topology input status.Done text =
    Fetched 2 shelf × IsPlainReportOfFiles custom shelf.holds topology input text
PlainComes custom shelf topology input ending text = FilesCome shelf topology input ending text

-- Which status the told files call for.
abbrev pub PlainCalls : (List ℕ → List ℕ → Type 0) → List ℕ → List ℕ → Status → Type 0
PlainCalls = FilesCall

-- `plain` as a command among others: it leaves fates and stores alone, and what it is called for is
-- all that it promises
abbrev pub plain_promise : Custom → ShelfUse → MakerUse → List Attempt → List ℕ → List ℕ → Promise
plain_promise custom shelf stores fates topology input = record {
  comes = λ ending text.
      PlainComes custom shelf topology input ending text × (fates ≡ []) × IsUntouched stores;
  calls = PlainCalls shelf.holds topology input;
  must_finish = ⊥;
}
