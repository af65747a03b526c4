-- What is written of a replay and of a load, from what the run came to.
use Rattle.std.proofs.Common.{◌≡◌, ℕ, List, length, Result, Ok, Err, IfOk, refl, ap, subst, ◌∙◌, String, string_bytes}
use Rattle.event_worlds.specs.attempt_fates.declared.fates.Attempt.{Attempt}
use Rattle.event_worlds.specs.bolt_ops.RowOp.{Custom}
use Rattle.storm_resume.specs.schedule_core.Schedules.{all_steps}
use Rattle.schedule_reader.specs.declared.event.Event.{Event}
use Rattle.storm_resume.proofs.storm_answers.InOrder.{all_batches, begins_first, records_in_order}
use Rattle.storm_resume.proofs.storm_answers.ReportLemmas.{acked_all}
use Rattle.storm_resume.specs.storm_answers.declared.early_end.EarlyEnd.{EarlyEnd}
use Rattle.storm_resume.specs.storm_answers.Outside.{RunUse}
use Rattle.storm_resume.specs.storm_answers.Reports.{IsEndText, IsReport, cut_by}
use Rattle.storm_program.specs.Load.{IsLoadLine, line_of}
use Rattle.storm_program.specs.Replay.{IsReplayReport, ticks_of_schedule}
use Rattle.storm_program.specs.steps.Lines.{IsLineOfEnd}
use Rattle.event_worlds.specs.storm_values.declared.value.Value.{Value}
use Rattle.storm_resume.specs.stored_runs.declared.ending.RunEnd.{RunEnd}
use Rattle.storm_resume.specs.stored_runs.declared.ending.RunEnd.TheVariants as end
use Rattle.storm_resume.specs.stored_runs.Makers.{CameBack}
use Rattle.storm_resume.specs.stored_runs.StoredRuns.{IsAll, IsRun, IsRunOfWorld}
use Rattle.event_worlds.specs.record_offers.Offers.{batch_count}
use Rattle.event_worlds.specs.taken_records.Cuts.{Cut}
use Rattle.event_worlds.specs.topology_plan.Topology.{Topology}
use Rattle.event_worlds.specs.tree_model.declared.write.Table.{Table}
use Rattle.event_worlds.specs.Accounted.{IsInput}

-- no record is left: the report
module _ (custom : Custom) (plan : Topology) (records : List (List Value)) (base : RunUse) (ticks : ℕ) (fates : List Attempt) where
  report_of : (r : ℕ) → r ≡ length records → IsInput plan (cut_by plan records) → (tables : List Table) (text : List ℕ) → IsEndText plan r fates (end.All tables) text → IsRun base.words plan custom (cut_by plan records) ticks base.stores fates (end.All tables) → CameBack plan base.stores
      → IsReport custom plan records base ticks fates text
  report_of r r_is input tables text printed run back =
      let whole = run.comes.0 in
      record {
        tables = tables;
        printed = subst (λ (n : ℕ). IsEndText plan n fates (end.All tables) text) r_is printed;
        of_commits = run.comes.1.first (begins_first plan records);
        in_order = λ none. records_in_order (cut_by plan records) ticks fates input.start refl none whole;
        all_batches = λ none. all_batches (cut_by plan records) ticks fates input.start refl none whole;
        whole = whole;
        acked = acked_all custom plan (cut_by plan records) ticks fates run.caused.by_some.1.each;
        caused = run.caused;
        failed_in_turn = run.failed_in_turn;
        drops = run.drops;
        counted = run.counted;
        back = back;
        stands = run.stands.first (begins_first plan records);
      }

-- the report of a replay, whose fates are those of the world
module _ (custom : Custom) (plan : Topology) (records : List (List Value)) (base : RunUse) (fates : List Attempt) (cut : Cut) (cut_is : cut ≡ cut_by plan records) (r : ℕ) (r_is : r ≡ length cut.records) (events : List Event) where
  pub replay_report_if : {A : Type 0} (ending : RunEnd) (result : Result (String A) EarlyEnd) → IsInput plan cut → IfOk result (λ text. IsAll ending) → IfOk result (λ text. IsEndText plan r fates ending (string_bytes text)) → IsRun base.words plan custom cut (ticks_of_schedule plan events) base.stores fates ending → CameBack plan base.stores
      → IsRunOfWorld base.words plan custom cut (all_steps plan events) fates ending → IfOk result (λ text. IsReplayReport custom plan records events base fates (string_bytes text))
  unfolding report_of
  replay_report_if ending (Err stop) input all printed run back world = tt
  replay_report_if (end.All tables) (Ok text) input all printed run back world = record {
    report =
        report_of custom plan records base (ticks_of_schedule plan events) fates r (r_is ∙ ap (λ (k : Cut). length k.records) cut_is)
        (subst (λ (k : Cut). IsInput plan k) cut_is input) tables (string_bytes text) printed
        (subst (λ (k : Cut). IsRun base.words plan custom k (ticks_of_schedule plan events) base.stores fates (end.All tables)) cut_is run) back;
    of_world = subst (λ (k : Cut). IsRunOfWorld base.words plan custom k (all_steps plan events) fates (end.All tables)) cut_is world;
  }
  replay_report_if (end.Exhausted txid) (Ok text) input all printed run back world = absurd all
  replay_report_if (end.Unfinished k) (Ok text) input all printed run back world = absurd all
  replay_report_if end.StoreFault (Ok text) input all printed run back world = absurd all
  replay_report_if (end.BadCell key) (Ok text) input all printed run back world = absurd all
  replay_report_if (end.Follow txid) (Ok text) input all printed run back world = absurd all

  -- the line of a load in place of the report
  pub load_line_if : (b : ℕ) → b ≡ batch_count (length cut.records) cut.size → (ending : RunEnd) (report text : List ℕ) → IsInput plan cut → IsAll ending → IsEndText plan r fates ending report → IsLineOfEnd r b ending text → IsRun base.words plan custom cut (ticks_of_schedule plan events) base.stores fates ending → CameBack plan base.stores
      → IsRunOfWorld base.words plan custom cut (all_steps plan events) fates ending → IsLoadLine custom plan records events base fates text
  unfolding report_of
  load_line_if b b_is (end.All tables) report text input all printed line run back world =
      let r_of : r ≡ length records = r_is ∙ ap (λ (k : Cut). length k.records) cut_is in
      let b_of : b ≡ batch_count (length records) plan.batch = b_is ∙ ap (λ (k : Cut). batch_count (length k.records) k.size) cut_is in
      record {
        report = report;
        replayed = record {
          report =
              report_of custom plan records base (ticks_of_schedule plan events) fates r r_of (subst (λ (k : Cut). IsInput plan k) cut_is input) tables report printed
              (subst (λ (k : Cut). IsRun base.words plan custom k (ticks_of_schedule plan events) base.stores fates (end.All tables)) cut_is run) back;
          of_world = subst (λ (k : Cut). IsRunOfWorld base.words plan custom k (all_steps plan events) fates (end.All tables)) cut_is world;
        };
        printed = line ∙ (ap (λ (n : ℕ). line_of n b tables) r_of ∙ ap (λ (n : ℕ). line_of (length records) n tables) b_of);
      }
  load_line_if b b_is (end.Exhausted txid) report text input all printed line run back world = absurd all
  load_line_if b b_is (end.Unfinished k) report text input all printed line run back world = absurd all
  load_line_if b b_is end.StoreFault report text input all printed line run back world = absurd all
  load_line_if b b_is (end.BadCell key) report text input all printed line run back world = absurd all
  load_line_if b b_is (end.Follow txid) report text input all printed line run back world = absurd all
