-- What is written of a run that went on, from what the run came to.
use Rattle.std.proofs.Common.{◌≡◌, ◌⊎◌, ℕ, ◌+◌, ◌++◌, List, [], ◌∷◌, length, Result, Ok, Err, IfOk, IfErr, refl, sym, subst, ◌∙◌, inl, inr, String, string_bytes}
use Rattle.event_worlds.specs.attempt_fates.declared.fates.Attempt.{Attempt}
use Rattle.event_worlds.specs.attempt_fates.Fates.{IsOnce, committed}
use Rattle.event_worlds.specs.bolt_ops.RowOp.{Custom}
use Rattle.event_worlds.specs.commit_turns.Turns.{last_tick}
use Rattle.event_worlds.specs.storm_values.declared.value.Value.{Value}
use Rattle.event_worlds.specs.taken_records.Cuts.{Cut}
use Rattle.event_worlds.specs.topology_plan.Topology.{Topology}
use Rattle.event_worlds.specs.Accounted.{IsInput}
use Rattle.resume_meta.specs.declared.meta.Meta.{Meta}
use Rattle.storm_answers.proofs.InOrder.{all_batches_after, rest_in_order}
use Rattle.storm_answers.proofs.ReportLemmas.{acked_all}
use Rattle.storm_answers.specs.Ends.{HasText}
use Rattle.storm_answers.specs.Outside.{RunUse}
use Rattle.storm_answers.specs.Reports.{IsEndText}
use Rattle.storm_answers.specs.declared.early_end.EarlyEnd.{EarlyEnd}
use Rattle.storm_answers.specs.declared.early_end.EarlyEnd.TheVariants.{Memory, Told}
use Rattle.storm_answers.specs.declared.status.Status.{Status}
use Rattle.storm_answers.specs.declared.status.Status.TheVariants as status
use Rattle.storm_answers.specs.steps.Ended.{status_of}
use Rattle.storm_answers.specs.steps.Stops.{IsMemory, Stops}
use Rattle.storm_answers.specs.stored_runs.declared.ending.RunEnd.{RunEnd}
use Rattle.storm_answers.specs.stored_runs.declared.ending.RunEnd.TheVariants as end
use Rattle.storm_answers.specs.stored_runs.Makers.{CameBack}
use Rattle.storm_answers.specs.stored_runs.Resuming.{HadRows, IsResumed}
use Rattle.storm_answers.specs.stored_runs.StoredRuns.{IsAll, IsRun, StandAtCommits, StandBeforeLast}
use Rattle.storm_resume.proofs.Keepings.{Kept, all_held}
use Rattle.storm_resume.specs.Keeping.{HoldsAfter, KeeperUse, NoFault}
use Rattle.storm_resume.specs.Resume.{AcceptedComes, EndsUnkept, GoesOn, IsResumeReport, IsResumeShort, ResumeEndsSo, cut_after}
use Rattle.storm_resume.specs.steps.Going.{IsNoFault, IsResumeText, IsStopOfResume, IsTold}

-- What a run that ended so came to, whatever its offers are called.
pub record Went (custom : Custom) (plan : Topology) (base : RunUse) (ticks : ℕ) (fates : List Attempt) (ending : RunEnd) (cut : Cut) : Type 0 where
  pub input : IsInput plan cut
  pub run : IsResumed base.words plan custom cut ticks base.stores fates ending
  pub looked : (fates ≡ [] → ⊥) → HadRows plan base.stores
  pub back : CameBack plan base.stores
  pub less : (txid : ℕ) → ending ≡ end.Follow txid → StandBeforeLast plan custom cut base.stores fates

module _ (custom : Custom) (plan : Topology) (records : List (List Value)) (start : Meta) (base : RunUse) (keeper : KeeperUse) (ticks : ℕ) (fates : List Attempt) (goes_on : GoesOn plan records keeper start) where
  -- a run is no fault before one was begun, but where a store failed
  run_of : (ending : RunEnd) → (ending ≡ end.StoreFault → ⊥) → IsResumed base.words plan custom (cut_after plan records start) ticks base.stores fates ending → IsRun base.words plan custom (cut_after plan records start) ticks base.stores fates ending
  run_of ending other (inl run) = run
  run_of ending other (inr fault) = absurd (other fault.0)

  -- no record is left: the report
  report_of : (batches : ℕ) → batches ≡ start.txid + length (committed fates) → (ending : RunEnd) (text : List ℕ) → IsAll ending → IsResumeText plan (length records) batches fates ending text → Went custom plan base ticks fates ending (cut_after plan records start) → Kept keeper start fates ending
      → IsResumeReport custom plan records base keeper ticks fates text
  report_of batches batches_is (end.All tables) text all printed went kept =
      let run = run_of (end.All tables) (λ is. absurd cc) went.run in
      let whole = run.comes.0 in
      record {
        start = start;
        goes_on = goes_on;
        tables = tables;
        printed = subst (λ (n : ℕ). IsResumeText plan (length records) n fates (end.All tables) text) batches_is printed;
        of_commits = run.comes.1;
        in_order = λ none. rest_in_order (cut_after plan records start) ticks fates went.input.start none whole;
        all_batches = λ none. all_batches_after (cut_after plan records start) ticks fates went.input.start none whole;
        whole = whole;
        acked = acked_all custom plan (cut_after plan records start) ticks fates run.caused.by_some.1.each;
        caused = run.caused;
        failed_in_turn = run.failed_in_turn;
        drops = run.drops;
        counted = run.counted;
        looked = went.looked;
        back = went.back;
        stands = run.stands;
        kept = kept.0;
        kept_all = λ held holding.
            let now = kept.0 held holding in
            (now.0, now.1, all_held records plan.batch plan.partitions start ticks fates goes_on.of_input.same_number goes_on.of_input.possible whole now.0 now.2);
        no_fault = kept.1;
      }
  report_of batches batches_is (end.Exhausted txid) text all printed went kept = absurd all
  report_of batches batches_is (end.Unfinished k) text all printed went kept = absurd all
  report_of batches batches_is end.StoreFault text all printed went kept = absurd all
  report_of batches batches_is (end.BadCell key) text all printed went kept = absurd all
  report_of batches batches_is (end.Follow txid) text all printed went kept = absurd all

  -- not all: the end and its text
  ends_so : (ending : RunEnd) (text : List ℕ) → IsEndText plan (length records) fates ending text → Went custom plan base ticks fates ending (cut_after plan records start) → HoldsAfter keeper start fates × NoFault keeper → ResumeEndsSo custom plan records base keeper ticks fates ending text
  ends_so ending text printed went kept = record {
    start = start;
    goes_on = goes_on;
    run = went.run;
    looked = went.looked;
    back = went.back;
    kept = kept.0;
    no_fault = kept.1;
    printed = printed;
  }

  unkept : (txid : ℕ) → Went custom plan base ticks fates (end.Follow txid) (cut_after plan records start) → Kept keeper start fates (end.Follow txid) → EndsUnkept custom plan records base keeper ticks fates
  unkept txid went (failed, (earlier, last, added, holds)) = record {
    start = start;
    goes_on = goes_on;
    txid = txid;
    run = run_of (end.Follow txid) (λ is. absurd cc) went.run;
    earlier = earlier;
    last = last;
    ends = added;
    stands = went.less txid refl earlier last added;
    looked = went.looked (λ none. absurd (not_empty earlier last (sym added ∙ none)));
    back = went.back;
    kept = holds;
    failed = failed;
  }
    where
      not_empty : (earlier : List Attempt) (last : Attempt) → earlier ++ last ∷ [] ≡ [] → ⊥
      not_empty [] last is = absurd cc
      not_empty (a ∷ earlier) last is = absurd cc

  -- the stop of a run that ended so
  stop_of : (batches : ℕ) (ending : RunEnd) (text : List ℕ) → (IsAll ending → ⊥) → ((k : ℕ) → ending ≡ end.Unfinished k → ⊥) → IsResumeText plan (length records) batches fates ending text → Went custom plan base ticks fates ending (cut_after plan records start) → Kept keeper start fates ending
      → HasText (status_of ending) × AcceptedComes custom base keeper ticks fates (status_of ending) text plan records
  stop_of batches (end.All tables) text not_all goes printed went kept = absurd (not_all tt)
  stop_of batches (end.Exhausted txid) text not_all goes printed went kept = (tt, (txid, ends_so (end.Exhausted txid) text printed went kept))
  stop_of batches (end.Unfinished k) text not_all goes printed went kept = absurd (goes k refl)
  stop_of batches end.StoreFault text not_all goes printed went kept = (tt, ends_so end.StoreFault text printed went kept)
  stop_of batches (end.BadCell key) text not_all goes printed went kept = (tt, (key, ends_so (end.BadCell key) text printed went kept))
  stop_of batches (end.Follow txid) text not_all goes printed went kept = (tt, (printed, inr (unkept txid went kept)))

  -- what a run that went on came to was made a text of
  pub work_done : {A : Type 0} (r : ℕ) → r ≡ length records → (batches : ℕ) → batches ≡ start.txid + length (committed fates) → (ending : RunEnd) (result : Result (String A) EarlyEnd) → IfOk result (λ text. IsAll ending) → IfOk result (λ text. IsResumeText plan r batches fates ending (string_bytes text))
      → Went custom plan base ticks fates ending (cut_after plan records start) → Kept keeper start fates ending → IfOk result (λ text. AcceptedComes custom base keeper ticks fates status.Done (string_bytes text) plan records)
  work_done r r_is batches batches_is ending (Ok text) all printed went kept =
      report_of batches batches_is ending (string_bytes text) all (subst (λ (n : ℕ). IsResumeText plan n batches fates ending (string_bytes text)) r_is printed) went kept
  work_done r r_is batches batches_is ending (Err stop) all printed went kept = tt

  pub work_stops : {T : Type 0} (r : ℕ) → r ≡ length records → (batches : ℕ) (ending : RunEnd) (result : Result T EarlyEnd) → ((k : ℕ) → ending ≡ end.Unfinished k → ⊥) → AcceptedComes custom base keeper ticks fates status.Memory [] plan records ⊎ (IsNoFault ending → ⊥) → IfErr result (IsStopOfResume plan r batches fates ending)
      → IfErr result (λ stop. IsNoFault ending ⊎ IsTold stop) → Went custom plan base ticks fates ending (cut_after plan records start) → Kept keeper start fates ending → IfErr result (Stops (λ s text. AcceptedComes custom base keeper ticks fates s text plan records))
  work_stops r r_is batches ending (Ok x) goes short stops told went kept = tt
  work_stops r r_is batches ending (Err Memory) goes (inl short) stops told went kept = short
  work_stops r r_is batches ending (Err Memory) goes (inr fault) stops (inl none) went kept = absurd (fault none)
  work_stops r r_is batches ending (Err Memory) goes (inr fault) stops (inr never) went kept = absurd never
  work_stops r r_is batches ending (Err (Told s line)) goes short (not_all, is, printed) told went kept =
      subst (λ (t : Status). HasText t × AcceptedComes custom base keeper ticks fates t (string_bytes line) plan records) (sym is) (stop_of batches ending (string_bytes line) not_all goes (subst (λ (n : ℕ). IsResumeText plan n batches fates ending (string_bytes line)) r_is printed) went kept)

  pub work_finishes : {T : Type 0} (r batches : ℕ) (ending : RunEnd) (result : Result T EarlyEnd) → IsAll ending → IfErr result (IsStopOfResume plan r batches fates ending) → IfErr result IsMemory
  work_finishes r batches ending (Ok x) all stops = tt
  work_finishes r batches ending (Err Memory) all stops = tt
  work_finishes r batches ending (Err (Told s line)) all (not_all, is, printed) = absurd (not_all all)

  -- ---- want of memory

  short_of : (ending : RunEnd) → IsOnce (cut_after plan records start) last_tick fates → Went custom plan base ticks fates ending (cut_after plan records start) → NoFault keeper → IsResumeShort custom plan records base keeper fates
  short_of ending once went quiet = record {
    start = start;
    goes_on = goes_on;
    once = once;
    looked = went.looked;
    back = went.back;
    stands = stands went.run;
    no_fault = quiet;
  }
    where
      stands : IsResumed base.words plan custom (cut_after plan records start) ticks base.stores fates ending → StandAtCommits plan custom (cut_after plan records start) base.stores fates
      stands (inl run) = run.stands
      stands (inr fault) = fault.1.stands

  -- want of memory for the text comes of no fault of the keeper
  pub short_or : (ending : RunEnd) → IsOnce (cut_after plan records start) last_tick fates → Went custom plan base ticks fates ending (cut_after plan records start) → Kept keeper start fates ending
      → AcceptedComes custom base keeper ticks fates status.Memory [] plan records ⊎ (IsNoFault ending → ⊥)
  short_or (end.Follow txid) once went kept = inr (λ none. none)
  short_or (end.All tables) once went kept = inl (inr (short_of (end.All tables) once went kept.1))
  short_or (end.Exhausted txid) once went kept = inl (inr (short_of (end.Exhausted txid) once went kept.1))
  short_or (end.Unfinished k) once went kept = inl (inr (short_of (end.Unfinished k) once went kept.1))
  short_or end.StoreFault once went kept = inl (inr (short_of end.StoreFault once went kept.1))
  short_or (end.BadCell key) once went kept = inl (inr (short_of (end.BadCell key) once went kept.1))
