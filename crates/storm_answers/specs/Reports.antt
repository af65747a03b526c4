-- What is written of a run, whatever ran it: its report, the lines of its attempts, or a line.
-- This project's own.
use Rattle.std.specs.Prelude.{◌≡◌, ℕ, List, [], All, length}
use Rattle.event_worlds.specs.attempt_fates.declared.fates.Attempt.{Attempt}
use Rattle.event_worlds.specs.attempt_fates.declared.fates.End.TheVariants as end
use Rattle.event_worlds.specs.attempt_fates.Fates.{DropsFollow, IsWhole, committed, committed_batches, committed_records, records_in}
use Rattle.event_worlds.specs.bolt_ops.RowOp.{Custom}
use Rattle.event_worlds.specs.commit_turns.Kept.{FailsInTurn}
use Rattle.event_worlds.specs.record_offers.Offers.{batch_count, fresh}
use Rattle.run_report.specs.Cells.{cells_of}
use Rattle.run_report.specs.Fated.{AreLinesOf}
use Rattle.run_report.specs.Report.{AttemptText, CellText, TailText, exhausted, ok, report_text, unfinished}
use Rattle.storm_answers.specs.Outside.{RunUse}
use Rattle.storm_answers.specs.Texts.{bad_cell_line, store_fault_line}
use Rattle.event_worlds.specs.storm_values.declared.value.Value.{Value}
use Rattle.stored_runs.specs.declared.ending.RunEnd.{RunEnd}
use Rattle.stored_runs.specs.declared.ending.RunEnd.TheVariants as run_end
use Rattle.stored_runs.specs.Makers.{BeganEmpty, CameBack, FaultsAreCounted, MapsStand}
use Rattle.stored_runs.specs.StoredRuns.{HaveCauses, IsRun}
use Rattle.event_worlds.specs.taken_records.Cuts.{Cut}
use Rattle.event_worlds.specs.topology_plan.Topology.{Topology}
use Rattle.event_worlds.specs.tree_model.declared.messages.AckMsg.{AckMsg}
use Rattle.event_worlds.specs.tree_model.declared.write.Table.{Table}
use Rattle.event_worlds.specs.tree_model.Lists.{Covers, IsClosed}
use Rattle.event_worlds.specs.tree_model.Tables.{AreTables}
use Rattle.event_worlds.specs.tree_model.Trees.{writes}
use Rattle.event_worlds.specs.tuple_account.Sound.{IsSound}

-- the records of an input, offered as a plan says; none of them is gone

abbrev pub cut_by : Topology → List (List Value) → Cut
cut_by plan records = fresh records plan.batch plan.partitions

-- the text has the attempt lines of these fates, these cells and this tail
pub record IsTextOf (plan : Topology) (fates : List Attempt) (cells : List CellText)
    (tail : TailText) (text : List ℕ) : Type 0 where
  pub lines : List AttemptText
  pub are_lines : AreLinesOf plan fates lines
  pub printed : text ≡ report_text (record { attempts = lines; cells = cells; tail = tail })

-- The whole tuple tree of a committed attempt was acked: the list of its acker that was checked
-- before the commit is true, single, steady and closed, and covers the tree of its records.
abbrev pub WasAcked : Topology → Custom → List (List Value) → Attempt → Type 0
WasAcked plan custom records a =
    (list : List AckMsg) → a.end ≡ end.Committed list
    → IsSound plan custom (records_in records a.spans) a.root list × IsClosed list
    × Covers plan custom (records_in records a.spans) list

-- The report of a plan and the records of an input, with the operation that was handed in, where so
-- many ticks were handed out: the printed tables are those of one machine that takes the committed
-- batches' records in transaction order; every input record stands in exactly one committed batch;
-- each committed attempt's whole tuple tree was acked before its commit; and every other attempt's
-- printed end has its shown cause.
pub record IsReport (custom : Custom) (plan : Topology) (records : List (List Value)) (base : RunUse)
    (ticks : ℕ) (fates : List Attempt) (text : List ℕ) : Type 0 where
  -- the printed tables, and the attempt lines
  pub tables : List Table
  pub printed : IsTextOf plan fates (cells_of tables)
      (ok (length records) (length (committed fates))) text
  -- over stores that began empty they are those of one machine, in transaction order
  pub of_commits : BeganEmpty plan base.stores
      → AreTables plan custom (writes plan custom (committed_records records fates)) tables
  -- without partitions that is the order of the input, and each of its batches is committed
  pub in_order : plan.partitions ≡ 0 → committed_records records fates ≡ records
  pub all_batches : plan.partitions ≡ 0
      → length (committed fates) ≡ batch_count (length records) plan.batch
  -- every record stands in exactly one committed batch
  pub whole : IsWhole (cut_by plan records) ticks fates
  -- each committed attempt's whole tuple tree was acked
  pub acked : All (WasAcked plan custom records) fates
  -- every end has its cause
  pub caused : HaveCauses base.words plan custom (cut_by plan records) ticks fates
  pub failed_in_turn : FailsInTurn (cut_by plan records) fates
  -- attempts are dropped with partitions alone, each with one of a lower transaction
  pub drops : DropsFollow (cut_by plan records) fates
  pub counted : FaultsAreCounted plan base.stores fates
  -- the stores came back, and over stores that began empty they stand at all batches
  pub back : CameBack plan base.stores
  pub stands : BeganEmpty plan base.stores
      → MapsStand plan custom (cut_by plan records) (committed_batches fates) base.stores

-- The text of a run over so many records that ended so. A follower that failed has none here.
abbrev pub IsEndText : Topology → ℕ → List Attempt → RunEnd → List ℕ → Type 0
IsEndText plan records fates (run_end.All tables) text =
    IsTextOf plan fates (cells_of tables) (ok records (length (committed fates))) text
IsEndText plan records fates (run_end.Exhausted txid) text =
    IsTextOf plan fates [] (exhausted txid) text
IsEndText plan records fates (run_end.Unfinished k) text =
    IsTextOf plan fates [] (unfinished k) text
IsEndText plan records fates run_end.StoreFault text = text ≡ store_fault_line
IsEndText plan records fates (run_end.BadCell key) text = text ≡ bad_cell_line
IsEndText plan records fates (run_end.Follow txid) text = ⊥

-- A run over the records of an input ended so, left these fates, and this is its text.
pub record EndsSo (custom : Custom) (plan : Topology) (records : List (List Value)) (base : RunUse)
    (ticks : ℕ) (fates : List Attempt) (ending : RunEnd) (text : List ℕ) : Type 0 where
  pub run : IsRun base.words plan custom (cut_by plan records) ticks base.stores fates ending
  pub back : CameBack plan base.stores
  pub printed : IsEndText plan (length records) fates ending text
