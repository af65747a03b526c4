-- What is written of a run over accepted files, from what the run came to.
use Rattle.std.proofs.Common.{◌≡◌, ◌-◌, ◌⊎◌, arith, inl, inr, ℕ, List, All, length, Result, Ok, Err, IfOk, IfErr, refl, sym, ap, subst, ◌∙◌, String, string_bytes}
use Rattle.std.specs.List.{AllByRecursion}
use Rattle.std.proofs.lemmas.List.Elements.{All-from_recursion}
use Rattle.event_worlds.specs.attempt_fates.declared.fates.Attempt.{Attempt}
use Rattle.event_worlds.specs.attempt_fates.declared.fates.End.{End}
use Rattle.event_worlds.specs.attempt_fates.Fates.{IsOnce, records_in}
use Rattle.event_worlds.specs.bolt_ops.RowOp.{Custom}
use Rattle.event_worlds.specs.commit_turns.Account.{ended_of, ending_of}
use Rattle.event_worlds.specs.commit_turns.Turns.{last_tick}
use Rattle.event_worlds.proofs.counted_items.Each.{each-weaker}
use Rattle.storm_answers.specs.declared.status.Status.{Status}
use Rattle.storm_answers.specs.declared.early_end.EarlyEnd.{EarlyEnd}
use Rattle.storm_answers.specs.declared.early_end.EarlyEnd.TheVariants.{Memory, Told}
use Rattle.storm_answers.specs.Ends.{HasText}
use Rattle.storm_answers.specs.Outside.{RunUse}
use Rattle.storm_answers.specs.Reports.{EndsSo, IsEndText, IsReport, WasAcked, cut_by}
use Rattle.storm_answers.specs.Runs.{IsNotBegun, IsShort, IsUnhindered}
use Rattle.storm_answers.specs.steps.Ended.{IsRoundsEnd, IsStopOfEnd, IsUnfollowed, WorkStops, status_of}
use Rattle.storm_answers.specs.steps.Stops.{IsMemory, Stops}
use Rattle.event_worlds.specs.state_parts.declared.answer.Commit.{Commit}
use Rattle.event_worlds.specs.storm_values.Counts.{Rose}
use Rattle.event_worlds.specs.storm_values.declared.value.Value.{Value}
use Rattle.stored_runs.specs.declared.ending.RunEnd.{RunEnd}
use Rattle.stored_runs.specs.declared.ending.RunEnd.TheVariants as end
use Rattle.stored_runs.specs.Makers.{CameBack}
use Rattle.stored_runs.specs.StoredRuns.{EndFollowed, IsAll, IsRun, NothingIsInTheWay, StandsWithoutMemory}
use Rattle.event_worlds.specs.taken_records.Cuts.{Cut}
use Rattle.event_worlds.specs.topology_plan.Topology.{Topology}
use Rattle.event_worlds.specs.tuple_account.Ends.{CauseBy}
use Rattle.event_worlds.specs.Accounted.{IsCausedEnd, IsInput}
use Rattle.storm_answers.proofs.InOrder.{all_batches, begins_first, records_in_order}

module _ (custom : Custom) (plan : Topology) (cut : Cut) (ticks : ℕ) where
  -- a committed attempt's cause is that its tree was acked
  acked_by : (a : Attempt) → IsCausedEnd plan custom cut ticks a → WasAcked plan custom cut.records a
  acked_by a cause list is = subst (λ (e : End). CauseBy plan custom (records_in cut.records a.spans) ticks (ended_of a) (ending_of e)) is cause

  pub acked_all : (fates : List Attempt) → AllByRecursion (IsCausedEnd plan custom cut ticks) fates → All (WasAcked plan custom cut.records) fates
  acked_all fates causes =
      All-from_recursion (WasAcked plan custom cut.records) fates (each-weaker (IsCausedEnd plan custom cut ticks) (WasAcked plan custom cut.records) acked_by fates causes)

module _ (custom : Custom) (plan : Topology) (records : List (List Value)) (base : RunUse) (ticks : ℕ) (fates : List Attempt) where
  -- no record is left: the report
  pub report_of : (r : ℕ) → r ≡ length records → IsInput plan (cut_by plan records) → (ending : RunEnd) (text : List ℕ) → IsAll ending → IsEndText plan r fates ending text → IsRun base.words plan custom (cut_by plan records) ticks base.stores fates ending → CameBack plan base.stores
      → IsReport custom plan records base ticks fates text
  report_of r r_is input (end.All tables) text all printed run back =
      let whole = run.comes.0 in
      record {
        tables = tables;
        printed = subst (λ (n : ℕ). IsEndText plan n fates (end.All tables) text) r_is printed;
        of_commits = run.comes.1.first (begins_first plan records);
        in_order = λ none. records_in_order (cut_by plan records) ticks fates input.start refl none whole;
        all_batches = λ none. all_batches (cut_by plan records) ticks fates input.start refl none whole;
        whole = whole;
        acked = acked_all custom plan (cut_by plan records) ticks fates run.caused.by_some.1.each;
        caused = run.caused;
        failed_in_turn = run.failed_in_turn;
        drops = run.drops;
        counted = run.counted;
        back = back;
        stands = run.stands.first (begins_first plan records);
      }
  report_of r r_is input (end.Exhausted txid) text all printed run back = absurd all
  report_of r r_is input (end.Unfinished k) text all printed run back = absurd all
  report_of r r_is input end.StoreFault text all printed run back = absurd all
  report_of r r_is input (end.BadCell key) text all printed run back = absurd all
  report_of r r_is input (end.Follow txid) text all printed run back = absurd all

  -- over offers that are those of the plan, of so many records
  module _ (cut : Cut) (cut_is : cut ≡ cut_by plan records) (r : ℕ) (r_is : r ≡ length cut.records) where
    r_of : r ≡ length records
    r_of = r_is ∙ ap (λ (k : Cut). length k.records) cut_is

    pub report_if : {A : Type 0} (ending : RunEnd) (result : Result (String A) EarlyEnd) → IsInput plan cut → IfOk result (λ text. IsAll ending) → IfOk result (λ text. IsEndText plan r fates ending (string_bytes text)) → IsRun base.words plan custom cut ticks base.stores fates ending → CameBack plan base.stores
        → IfOk result (λ text. IsReport custom plan records base ticks fates (string_bytes text))
    report_if ending (Ok text) input all printed run back =
        report_of r r_of (subst (λ (k : Cut). IsInput plan k) cut_is input) ending (string_bytes text) all printed (subst (λ (k : Cut). IsRun base.words plan custom k ticks base.stores fates ending) cut_is run) back
    report_if ending (Err stop) input all printed run back = tt

    -- not all: the end and its text
    pub ends_so : (ending : RunEnd) → IsRun base.words plan custom cut ticks base.stores fates ending → CameBack plan base.stores → (text : List ℕ) → IsEndText plan r fates ending text → EndsSo custom plan records base ticks fates ending text
    ends_so ending run back text printed = record {
      run = subst (λ (k : Cut). IsRun base.words plan custom k ticks base.stores fates ending) cut_is run;
      back = back;
      printed = subst (λ (n : ℕ). IsEndText plan n fates ending text) r_of printed;
    }

  -- want of memory
  short_of : (cut : Cut) → cut ≡ cut_by plan records → IsOnce cut last_tick fates → CameBack plan base.stores → StandsWithoutMemory plan custom cut base.stores fates → IsShort custom plan records base fates
  short_of cut cut_is once back stands = record {
    once = subst (λ (k : Cut). IsOnce k last_tick fates) cut_is once;
    back = back;
    stands = subst (λ (k : Cut). StandsWithoutMemory plan custom k base.stores fates) cut_is stands;
  }

  pub work_short : (cut : Cut) → cut ≡ cut_by plan records → IsOnce cut last_tick fates → CameBack plan base.stores → StandsWithoutMemory plan custom cut base.stores fates → IsNotBegun base fates ⊎ IsShort custom plan records base fates
  work_short cut cut_is once back stands = inr (short_of cut cut_is once back stands)

-- a run by rounds does not end unfinished
pub rounds_end : {E : Type 0} (r : Result RunEnd E) (ending : RunEnd) → r ≡ Ok ending → ((k : ℕ) → r ≡ Ok (end.Unfinished k) → ⊥) → IsRoundsEnd ending
rounds_end r (end.All tables) is goes_on = tt
rounds_end r (end.Exhausted txid) is goes_on = tt
rounds_end r (end.Unfinished k) is goes_on = goes_on k is
rounds_end r end.StoreFault is goes_on = tt
rounds_end r (end.BadCell key) is goes_on = tt
rounds_end r (end.Follow txid) is goes_on = tt

-- where nothing is in the way of a run from the first transaction on, nothing is in that of its cut
pub free_over : (custom : Custom) (plan : Topology) (records : List (List Value)) (base : RunUse) (fates : List Attempt) (cut : Cut) → cut ≡ cut_by plan records → IsUnhindered plan base.stores fates → NothingIsInTheWay plan custom cut base.stores fates
free_over custom plan records base fates cut cut_is free =
    subst (λ (k : Cut). NothingIsInTheWay plan custom k base.stores fates) (sym cut_is)
    (record {
      began = inl (begins_first plan records, free.began_empty);
      no_fault = free.no_fault;
      can_finish = free.can_finish;
      no_coincidence = free.no_coincidence;
    })

-- a count of no faults does not rise
pub none_rose : Rose 0 0 → ⊥
none_rose (inl more) = absurd (omega arith)
none_rose (inr most) = absurd (omega arith)

-- a follower that counts no fault does not fail
pub unfollowed : {W E : Type 0} (tells : W → List Commit → Type 0) (count : W → ℕ) (was is : W) (fates : List Attempt) (r : Result RunEnd E) (ending : RunEnd) → ((w : W) → count w ≡ 0) → r ≡ Ok ending → EndFollowed tells count r fates was is → IsUnfollowed ending
unfollowed {W} {E} tells count was is fates r ending none same followed = by ending (subst (λ (x : Result RunEnd E). EndFollowed tells count x fates was is) same followed)
  where
    by : (e : RunEnd) → EndFollowed {W = W} {E = E} tells count (Ok e) fates was is → IsUnfollowed e
    by (end.All tables) told = tt
    by (end.Exhausted txid) told = tt
    by (end.Unfinished k) told = tt
    by end.StoreFault told = tt
    by (end.BadCell key) told = tt
    by (end.Follow txid) told =
        let before = none was in let after = none is in let more = told.failed in absurd (omega (arith, before, after, more))

-- the stop of a run that ended so, where `Ends` holds of its text
work_told : (Ends : RunEnd → List ℕ → Type 0) (Short : Type 0) (ending : RunEnd) (text : List ℕ) → (IsAll ending → ⊥) → IsUnfollowed ending → Ends ending text → HasText (status_of ending) × WorkStops Ends Short (status_of ending) text
work_told Ends Short (end.All tables) text not_all unfollowed ends = absurd (not_all tt)
work_told Ends Short (end.Exhausted txid) text not_all unfollowed ends = (tt, (txid, ends))
work_told Ends Short (end.Unfinished k) text not_all unfollowed ends = (tt, (k, ends))
work_told Ends Short end.StoreFault text not_all unfollowed ends = (tt, ends)
work_told Ends Short (end.BadCell key) text not_all unfollowed ends = (tt, (key, ends))
work_told Ends Short (end.Follow txid) text not_all unfollowed ends = absurd unfollowed

-- an end that has a text is no follower's fault
has_no_fault : (plan : Topology) (r : ℕ) (fates : List Attempt) (ending : RunEnd) (text : List ℕ) → IsEndText plan r fates ending text → IsUnfollowed ending
has_no_fault plan r fates (end.All tables) text printed = tt
has_no_fault plan r fates (end.Exhausted txid) text printed = tt
has_no_fault plan r fates (end.Unfinished k) text printed = tt
has_no_fault plan r fates end.StoreFault text printed = tt
has_no_fault plan r fates (end.BadCell key) text printed = tt
has_no_fault plan r fates (end.Follow txid) text printed = printed

pub work_stops : {T : Type 0} (Ends : RunEnd → List ℕ → Type 0) (Short : Type 0) (plan : Topology) (r : ℕ) (fates : List Attempt) (ending : RunEnd) (result : Result T EarlyEnd) → ((text : List ℕ) → IsEndText plan r fates ending text → Ends ending text) → Short → IfErr result (IsStopOfEnd plan r fates ending) → IfErr result (Stops (WorkStops Ends Short))
work_stops Ends Short plan r fates ending (Ok x) makes short stops = tt
work_stops Ends Short plan r fates ending (Err Memory) makes short stops = short
work_stops Ends Short plan r fates ending (Err (Told s line)) makes short (not_all, is, printed) =
    subst (λ (t : Status). HasText t × WorkStops Ends Short t (string_bytes line)) (sym is) (work_told Ends Short ending (string_bytes line) not_all (has_no_fault plan r fates ending (string_bytes line) printed) (makes (string_bytes line) printed))

-- where all had to be committed, only memory can stop it
pub work_finishes : {T : Type 0} (plan : Topology) (r : ℕ) (fates : List Attempt) (ending : RunEnd) (result : Result T EarlyEnd) → IsAll ending → IfErr result (IsStopOfEnd plan r fates ending) → IfErr result IsMemory
work_finishes plan r fates ending (Ok x) all stops = tt
work_finishes plan r fates ending (Err Memory) all stops = tt
work_finishes plan r fates ending (Err (Told s line)) all (not_all, is, printed) = absurd (not_all all)

-- all was committed where it had to be
pub all_of : {E : Type 0} (r : Result RunEnd E) (ending : RunEnd) → r ≡ Ok ending → IfOk r IsAll → IsAll ending
all_of {E} r ending is all = subst (λ (x : Result RunEnd E). IfOk x IsAll) is all
