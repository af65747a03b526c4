-- What a run over the stores of a maker comes to, from what it came to over parts.
use Rattle.std.proofs.Common.{◌≡◌, ◌≤◌, ◌<◌, ◌+◌, ◌-◌, ◌^◌, ◌++◌, ◌⊎◌, inl, inr, ℕ, List, [], ◌∷◌, All, IfOk, IsErr, OnErr, length, sum, Result, Ok, Err, refl, sym, ap, subst, ◌∙◌, arith, true≢false}
use Rattle.std.specs.List.{AllZip}
use Rattle.std.proofs.lemmas.Bool.{cases_lt}
use Rattle.event_worlds.specs.attempt_fates.declared.fates.Attempt.{Attempt}
use Rattle.event_worlds.specs.attempt_fates.Fates.{IsOnce, IsWhole, committed_batches}
use Rattle.batch_commits.specs.Standing.{FailsAtOneOf, FailuresAreCounted, HasStrangeAt, HoldAll, PartsStand, failed_commits}
use Rattle.event_worlds.specs.bolt_ops.RowOp.{Custom, IsCustom}
use Rattle.event_worlds.specs.commit_order.declared.stop.Stop.{Stop}
use Rattle.event_worlds.specs.commit_order.declared.stop.Stop.TheVariants as stop
use Rattle.event_worlds.specs.commit_order.Follows.{FailsAtLast}
use Rattle.event_worlds.specs.commit_turns.Turns.{last_tick}
use Rattle.event_worlds.specs.Accounted.{AreCaused, IsInput}
use Rattle.event_worlds.specs.Rounds.{HasRounds, rounds_needed, ticks_in}
use Rattle.event_worlds.specs.Worlds.{Step}
use Rattle.schedule_core.specs.declared.ended.Ended.{Ended}
use Rattle.schedule_core.specs.declared.ended.Ended.TheVariants as ended
use Rattle.event_worlds.proofs.taken_records.Taking.{times_append}
use Rattle.event_worlds.specs.record_spans.declared.span.Span.{Span}
use Rattle.schedule_core.specs.Driving.{AreBefore}
use Rattle.schedule_core.specs.Following.{RunFollowed, StandLess}
use Rattle.schedule_core.specs.Runs.{Answers, HasRoundsOf, IsFirst, RoundsCome, RunTells, ended as ended_of, first_answers}
use Rattle.schedule_core.specs.Schedules.{EndsEach, HadMemory, IsAnswer, IsOfWorld}
use Rattle.event_worlds.specs.state_parts.Commits.{SameCounts}
use Rattle.event_worlds.specs.state_parts.declared.answer.Commit.{Commit}
use Rattle.event_worlds.specs.state_parts.declared.parts.StatePart.{StatePart}
use Rattle.event_worlds.specs.state_parts.Makers.{RoseBySum, faults_of}
use Rattle.event_worlds.specs.state_parts.PartPlans.{plans_of}
use Rattle.event_worlds.specs.state_parts.PartTables.{IsTableOver}
use Rattle.stored_runs.proofs.Faults.{counted_broken, counted_fault, counted_quiet, fail_at_parts}
use Rattle.stored_runs.proofs.Finished.{given_all, not_raised, rounds_all}
use Rattle.stored_runs.proofs.Lent.{Lent, are_empty, came_back, had_strange, maps_stand, not_strange, not_strange_stood, part_strange, parts_stood}
use Rattle.stored_runs.specs.Closing.{Closes}
use Rattle.stored_runs.specs.declared.ending.RunEnd.{RunEnd}
use Rattle.stored_runs.specs.declared.ending.RunEnd.TheVariants as end
use Rattle.stored_runs.specs.Laws.{PartLaws, WorldLaws}
use Rattle.stored_runs.specs.Makers.{BeganEmpty, CameBack, FaultsAreCounted, FaultsBeforeBadCell, HadStrangeAt, HoldsStrangeAt, MapsStood, maker_use}
use Rattle.stored_runs.specs.StoredRuns.{AreTablesOfCommits, BeganWell, EndComes, EndFollowed, FaultsCome, IsAll, IsEndOfWorld, IsRun, IsRunByRounds, IsRunOfWorld, NothingIsInTheWay, StandAtCommits, StandBeforeLast, StandsWithoutMemory}
use Rattle.storm_stores.specs.CellMaps.{CellMap}
use Rattle.event_worlds.specs.storm_values.Counts.{Rose, raised}
use Rattle.event_worlds.specs.topology_plan.Topology.{Topology}
use Rattle.event_worlds.specs.tree_model.declared.write.Table.{Table}
use Rattle.event_worlds.specs.tree_model.Tables.{states_of}
use Rattle.event_worlds.specs.taken_records.Cuts.{Cut}
use Rattle.event_worlds.specs.taken_records.Taken.{one_if}
use Rattle.worker_runs.specs.WorkerRuns.{NothingRanOut}
use Rattle.world_progress.specs.Rounding.{ShutsNone}

-- the batches of a whole run hold all records, with those before the start
hold_later : (cut : Cut) (ticks : ℕ) (fates : List Attempt) (before : List (List Span))
    → AreBefore cut before → IsWhole cut ticks fates
    → HoldAll cut (before ++ committed_batches fates)
hold_later cut ticks fates before are whole n first last =
    let all = whole.all_records n first last in
    let gone = are.gone n first last in
    let both = times_append before (committed_batches fates) n in omega (arith, all, gone, both)

hold_first : (cut : Cut) (ticks : ℕ) (fates : List Attempt) → IsFirst cut → IsWhole cut ticks fates
    → HoldAll cut (committed_batches fates)
hold_first cut ticks fates is whole n first last =
    let all = whole.all_records n first last in
    let none = ap one_if (is.none_gone n first last) in omega (arith, all, none)

-- no batch stands before the first transaction, where no record was gone
none_before : (cut : Cut) → IsFirst cut → AreBefore cut []
none_before cut is = record {
  many = sym is.start;
  gone = λ n first last. sym (ap one_if (is.none_gone n first last));
}

-- where no run was begun no batch was committed
pub once_at_first : (t : Topology) (custom : Custom) (cut : Cut) → WorldLaws t custom cut
    → IsInput t cut → (fates : List Attempt) → fates ≡ [] → IsOnce cut last_tick fates
once_at_first t custom cut laws input fates none =
    let once = (laws.first (λ s j. 0) input).1.kept.once in
    subst (IsOnce cut last_tick) (sym none)
    record {
      in_order = once.in_order;
      numbered = once.numbered;
      last_committed = once.last_committed;
      batches = once.batches;
      apart = once.apart;
      fronts = once.fronts;
      rises = once.rises;
      finishes = once.finishes;
      handed_out = tt;
    }

-- all stores that were lent came back
pub all_back : {S M : Type 0} {tells : S → CellMap → Type 0} {count : S → ℕ}
    {holds : M → ℕ → ℕ → CellMap → Type 0} (made : M → ℕ → ℕ → Type 0) {faults : M → ℕ}
    {t : Topology} {old mid new : M} {parts ran closed : List (StatePart S)}
    → Lent tells count holds faults t old mid new parts ran closed
    → CameBack t (maker_use tells count holds made faults old new)
all_back made lent = came_back _ _ _ made _ _ _ _ _ _ _ _ lent

-- no bad cell was met
abbrev MetNoBadCell : RunEnd → Type 0
MetNoBadCell (end.All tables) = Unit {0}
MetNoBadCell (end.Exhausted txid) = Unit {0}
MetNoBadCell (end.Unfinished k) = Unit {0}
MetNoBadCell end.StoreFault = Unit {0}
MetNoBadCell (end.BadCell key) = ⊥
MetNoBadCell (end.Follow txid) = Unit {0}

-- nor did a follower fail
abbrev MetNoFault : RunEnd → Type 0
MetNoFault (end.All tables) = Unit {0}
MetNoFault (end.Exhausted txid) = Unit {0}
MetNoFault (end.Unfinished k) = Unit {0}
MetNoFault end.StoreFault = Unit {0}
MetNoFault (end.BadCell key) = ⊥
MetNoFault (end.Follow txid) = ⊥

-- What a run over parts told of its answer, also by the words that sources of ids told.
pub record Ran {S : Type 0} (tells : S → CellMap → Type 0) (count : S → ℕ) (t : Topology)
    (custom : Custom) (cut : Cut) (told : (ℕ → ℕ → ℕ) → Type 0) (ticks : ℕ)
    (answer : Result Ended Stop) (fates : List Attempt) (old new : List (StatePart S))
    : Type 0 where
  pub told_so : RunTells tells count t custom cut ticks answer fates old new
  pub drawn : (words : ℕ → ℕ → ℕ) → told words → HadMemory answer
      → AreCaused t custom cut ticks words fates

-- It is the run of a world by these steps.
pub record OfWorld (t : Topology) (custom : Custom) (cut : Cut) (told : (ℕ → ℕ → ℕ) → Type 0)
    (steps : List Step) (answer : Result Ended Stop) (fates : List Attempt) : Type 0 where
  pub by_some : IsAnswer answer
      → (words : ℕ → ℕ → ℕ) × IsOfWorld t custom cut words steps answer fates
  pub by_told : (words : ℕ → ℕ → ℕ) → told words → IsAnswer answer
      → IsOfWorld t custom cut words steps answer fates

module _ {S M : Type 0} {tells : S → CellMap → Type 0} {count : S → ℕ}
    {holds : M → ℕ → ℕ → CellMap → Type 0} (made : M → ℕ → ℕ → Type 0) {faults : M → ℕ}
    {t : Topology} {custom : Custom} {cut : Cut} {old mid new : M}
    {parts ran closed : List (StatePart S)}
    (lent : Lent tells count holds faults t old mid new parts ran closed)
    (laws : PartLaws tells count t custom cut) (input : IsInput t cut)
    {told : (ℕ → ℕ → ℕ) → Type 0} {ticks : ℕ} {answer : Result Ended Stop}
    {fates : List Attempt}
    (run : Ran tells count t custom cut told ticks answer fates parts ran) where
  module _ (E : Type 0) where
    abbrev ClosesAs : RunEnd → Type 0
    ClosesAs ending = Closes {S = S} {E = E} tells count t answer ran closed (Ok ending)

    had_memory : (ending : RunEnd) → ClosesAs ending → HadMemory answer
    had_memory (end.All tables) closes = subst HadMemory (sym closes.0) tt
    had_memory (end.Exhausted txid) closes = subst HadMemory (sym closes) tt
    had_memory (end.Unfinished k) closes = subst HadMemory (sym closes) tt
    had_memory end.StoreFault closes = subst HadMemory (sym closes.0) tt
    had_memory (end.BadCell key) (inl bad) = subst HadMemory (sym bad) tt
    had_memory (end.BadCell key) (inr bad) = subst HadMemory (sym bad.0) tt
    had_memory (end.Follow txid) closes = subst HadMemory (sym closes) tt

    had_answer : (ending : RunEnd) → ClosesAs ending → MetNoFault ending → IsAnswer answer
    had_answer (end.All tables) closes none = subst IsAnswer (sym closes.0) tt
    had_answer (end.Exhausted txid) closes none = subst IsAnswer (sym closes) tt
    had_answer (end.Unfinished k) closes none = subst IsAnswer (sym closes) tt
    had_answer end.StoreFault closes none = subst IsAnswer (sym closes.0) tt
    had_answer (end.BadCell key) closes none = absurd none
    had_answer (end.Follow txid) closes none = absurd none

    ends_each : (ending : RunEnd) → ClosesAs ending → MetNoBadCell ending → EndsEach answer
    ends_each (end.All tables) closes none = subst EndsEach (sym closes.0) tt
    ends_each (end.Exhausted txid) closes none = subst EndsEach (sym closes) tt
    ends_each (end.Unfinished k) closes none = subst EndsEach (sym closes) tt
    ends_each end.StoreFault closes none = subst EndsEach (sym closes.0) tt
    ends_each (end.BadCell key) closes none = absurd none
    ends_each (end.Follow txid) closes none = subst EndsEach (sym closes) tt

    -- ---- what the end says

    whole_by : answer ≡ Ok ended.All → IsWhole cut ticks fates
    whole_by is =
        subst (λ (r : Result Ended Stop). Answers t cut ticks fates r) is run.told_so.answers

    stands_later : (before : List (List Span)) → AreBefore cut before
        → MapsStood t custom cut before (maker_use tells count holds made faults old new)
        → PartsStand tells t custom cut (before ++ committed_batches fates) ran
    stands_later before are stood =
        run.told_so.stands before are
        (parts_stood tells count holds made faults t old new custom cut before parts lent.planned
        lent.began stood)

    stands_first : IsFirst cut → BeganEmpty t (maker_use tells count holds made faults old new)
        → PartsStand tells t custom cut (committed_batches fates) ran
    stands_first first empty =
        run.told_so.stands_first first
        (are_empty tells count holds made faults t old new parts lent.planned lent.began empty)

    tables_by : (tables : List Table) → answer ≡ Ok ended.All
        → AllZip (IsTableOver tells ran) (states_of t custom) tables
        → AreTablesOfCommits t custom cut (maker_use tells count holds made faults old new) fates
        tables
    tables_by tables is read = record {
      later = λ before are stood.
          laws.tables (before ++ committed_batches fates) ran tables input.wired
          (lent.kept.plans ∙ lent.planned)
          (hold_later cut ticks fates before are (whole_by is)) (stands_later before are stood) read;
      first = λ first empty.
          laws.tables (committed_batches fates) ran tables input.wired
          (lent.kept.plans ∙ lent.planned) (hold_first cut ticks fates first (whole_by is))
          (stands_first first empty) read;
    }

    end_comes : (ending : RunEnd) → ClosesAs ending
        → EndComes t custom cut ticks (maker_use tells count holds made faults old new) fates ending
    end_comes (end.All tables) closes =
        (whole_by closes.0, tables_by tables closes.0 (closes.1 custom))
    end_comes (end.Exhausted txid) closes =
        subst (λ (r : Result Ended Stop). Answers t cut ticks fates r) closes run.told_so.answers
    end_comes (end.Unfinished k) closes =
        subst (λ (r : Result Ended Stop). Answers t cut ticks fates r) closes run.told_so.answers
    end_comes end.StoreFault closes = whole_by closes.0
    end_comes (end.BadCell key) (inl bad) =
        had_strange tells count holds made faults t old new parts key lent.planned lent.began
        (laws.bad_cell parts key (run.told_so.bad_cell key bad))
    end_comes (end.BadCell key) (inr bad) =
        had_strange tells count holds made faults t old new parts key lent.planned lent.began
        (run.told_so.strange key (laws.bad_row ran key bad.1))
    end_comes (end.Follow txid) closes =
        subst (λ (r : Result Ended Stop). Answers t cut ticks fates r) closes run.told_so.answers

    -- ---- counts

    fails : HadMemory answer → All (FailsAtOneOf (plans_of parts)) fates
    fails ok =
        let caused = run.told_so.caused ok in
        fail_at_parts t custom cut ticks caused.0 parts
        (λ component part is. laws.part parts component part lent.planned is) fates caused.1

    failed_by : HadMemory answer → FailuresAreCounted count fates parts ran
        → RoseBySum (failed_commits fates) (faults_of count parts) (faults_of count ran)
    failed_by ok counted = (laws.sum fates parts ran (fails ok) counted).at_least

    -- the counts where the reading did not fail
    quiet_by : HadMemory answer → EndsEach answer → SameCounts count ran closed
        → FaultsAreCounted t (maker_use tells count holds made faults old new) fates
    quiet_by ok each same =
        let counted = run.told_so.counted each in
        counted_quiet tells count holds made faults t old mid new parts ran closed lent fates counted
        (failed_by ok counted) same

    broken_by : (key : List ℕ) → ClosesAs (end.BadCell key) → SameCounts count ran closed
        → FaultsBeforeBadCell t (maker_use tells count holds made faults old new) fates
    broken_by key closes same =
        let ok = had_memory (end.BadCell key) closes in
        counted_broken tells count holds made faults t old mid new parts ran closed lent fates
        run.told_so.but_last
        (laws.last_sum fates parts ran (fails ok) run.told_so.but_last) same

    -- no reading failed that answers otherwise
    abbrev Quiet : RunEnd → Type 0
    Quiet ending = (ending ≡ end.StoreFault → ⊥) → SameCounts count ran closed

    counted_by : (ending : RunEnd) → ClosesAs ending → Quiet ending
        → FaultsCome t (maker_use tells count holds made faults old new) fates ending
    counted_by (end.All tables) closes quiet =
        quiet_by (had_memory (end.All tables) closes) (ends_each (end.All tables) closes tt)
        (quiet (λ same. cc))
    counted_by (end.Exhausted txid) closes quiet =
        quiet_by (had_memory (end.Exhausted txid) closes) (ends_each (end.Exhausted txid) closes tt)
        (quiet (λ same. cc))
    counted_by (end.Unfinished k) closes quiet =
        quiet_by (had_memory (end.Unfinished k) closes) (ends_each (end.Unfinished k) closes tt)
        (quiet (λ same. cc))
    counted_by end.StoreFault closes quiet =
        let ok = had_memory end.StoreFault closes in
        let counted = run.told_so.counted (ends_each end.StoreFault closes tt) in
        counted_fault tells count holds made faults t old mid new parts ran closed lent fates counted
        (failed_by ok counted) closes.1
    counted_by (end.BadCell key) closes quiet = broken_by key closes (quiet (λ same. cc))
    counted_by (end.Follow txid) closes quiet =
        quiet_by (had_memory (end.Follow txid) closes) (ends_each (end.Follow txid) closes tt)
        (quiet (λ same. cc))

    -- ---- the run

    -- maps stand where parts do
    stand_with : (xs : List Attempt)
        → ((before : List (List Span)) → AreBefore cut before
        → MapsStood t custom cut before (maker_use tells count holds made faults old new)
        → PartsStand tells t custom cut (before ++ committed_batches xs) ran)
        → (IsFirst cut → BeganEmpty t (maker_use tells count holds made faults old new)
        → PartsStand tells t custom cut (committed_batches xs) ran)
        → StandAtCommits t custom cut (maker_use tells count holds made faults old new) xs
    stand_with xs later first = record {
      later = λ before are stood.
          maps_stand tells count holds made faults t old mid new custom cut
          (before ++ committed_batches xs) parts ran closed lent
          (laws.hold_known (before ++ committed_batches xs)) (later before are stood);
      first = λ is empty.
          maps_stand tells count holds made faults t old mid new custom cut
          (committed_batches xs) parts ran closed lent
          (laws.hold_known (committed_batches xs)) (first is empty);
      strange = λ key has.
          had_strange tells count holds made faults t old new parts key lent.planned lent.began
          (run.told_so.strange key
          (part_strange tells count holds made faults t old mid new key parts ran closed lent has));
    }

    -- whatever was answered
    stands_at : StandAtCommits t custom cut (maker_use tells count holds made faults old new) fates
    stands_at = stand_with fates stands_later stands_first

    -- where a follower failed they stand at what was committed before too
    less_at : StandLess tells t custom cut fates parts ran
        → StandBeforeLast t custom cut (maker_use tells count holds made faults old new) fates
    less_at less = λ earlier last is.
        stand_with earlier
        (λ before are stood.
        less earlier last is before are
        (parts_stood tells count holds made faults t old new custom cut before parts lent.planned
        lent.began stood))
        (λ first empty.
        less earlier last is [] (none_before cut first)
        (laws.begin parts
        (are_empty tells count holds made faults t old new parts lent.planned lent.began empty)))

    pub less_is : (r : Result RunEnd E) → Closes tells count t answer ran closed r
        → ((txid : ℕ) → answer ≡ Err (stop.Follow txid)
        → StandLess tells t custom cut fates parts ran)
        → (txid : ℕ) → r ≡ Ok (end.Follow txid)
        → StandBeforeLast t custom cut (maker_use tells count holds made faults old new) fates
    less_is r closes less txid is =
        less_at
        (less txid
        (subst (λ (x : Result RunEnd E). Closes tells count t answer ran closed x) is closes))

    run_at : (ending : RunEnd) → ClosesAs ending → Quiet ending
        → IsRun told t custom cut ticks (maker_use tells count holds made faults old new) fates
        ending
    run_at ending closes quiet =
        let ok = had_memory ending closes in
        record {
          once = run.told_so.in_time ok;
          comes = end_comes ending closes;
          caused = record {
            by_some = run.told_so.caused ok;
            by_told = λ words are. run.drawn words are ok;
          };
          failed_in_turn = run.told_so.failed_in_turn ok;
          drops = run.told_so.drops ok;
          counted = counted_by ending closes quiet;
          stands = stands_at;
        }

    -- what a run over the stores of a maker comes to
    pub run_is : (r : Result RunEnd E) → Closes tells count t answer ran closed r
        → ((r ≡ Ok end.StoreFault → ⊥) → SameCounts count ran closed)
        → IfOk r (IsRun told t custom cut ticks (maker_use tells count holds made faults old new)
        fates)
    run_is (Ok ending) closes quiet =
        run_at ending closes (λ other. quiet (λ same. other (of_ok ending same)))
      where
        of_ok : (e : RunEnd) → ◌≡◌ {A = Result RunEnd E} (Ok e) (Ok end.StoreFault)
            → e ≡ end.StoreFault
        of_ok e same = cc
    run_is (Err e) closes quiet = tt

    -- and without memory
    pub short_is : (r : Result RunEnd E)
        → OnErr r (StandsWithoutMemory t custom cut
        (maker_use tells count holds made faults old new) fates)
    short_is (Ok ending) = tt
    short_is (Err e) = stands_at

    -- ---- the world

    module _ {steps : List Step} (world : OfWorld t custom cut told steps answer fates) where
      world_at : (words : ℕ → ℕ → ℕ) (ending : RunEnd) → ClosesAs ending
          → (IsAnswer answer → IsOfWorld t custom cut words steps answer fates)
          → IsEndOfWorld t custom cut words steps fates ending
      world_at words (end.All tables) closes is =
          subst (λ (r : Result Ended Stop). IsOfWorld t custom cut words steps r fates) closes.0
          (is (had_answer (end.All tables) closes tt))
      world_at words (end.Exhausted txid) closes is =
          subst (λ (r : Result Ended Stop). IsOfWorld t custom cut words steps r fates) closes
          (is (had_answer (end.Exhausted txid) closes tt))
      world_at words (end.Unfinished k) closes is =
          subst (λ (r : Result Ended Stop). IsOfWorld t custom cut words steps r fates) closes
          (is (had_answer (end.Unfinished k) closes tt))
      world_at words end.StoreFault closes is =
          subst (λ (r : Result Ended Stop). IsOfWorld t custom cut words steps r fates) closes.0
          (is (had_answer end.StoreFault closes tt))
      world_at words (end.BadCell key) closes is = tt
      world_at words (end.Follow txid) closes is = tt

      world_by : (ending : RunEnd) → ClosesAs ending → MetNoFault ending
          → (words : ℕ → ℕ → ℕ) × IsEndOfWorld t custom cut words steps fates ending
      world_by ending closes none =
          let of_world = world.by_some (had_answer ending closes none) in
          (of_world.0, world_at of_world.0 ending closes (λ ok. of_world.1))

      world_some : (ending : RunEnd) → ClosesAs ending
          → (words : ℕ → ℕ → ℕ) × IsEndOfWorld t custom cut words steps fates ending
      world_some (end.All tables) closes = world_by (end.All tables) closes tt
      world_some (end.Exhausted txid) closes = world_by (end.Exhausted txid) closes tt
      world_some (end.Unfinished k) closes = world_by (end.Unfinished k) closes tt
      world_some end.StoreFault closes = world_by end.StoreFault closes tt
      world_some (end.BadCell key) closes = (λ s k. 0, tt)
      world_some (end.Follow txid) closes = (λ s k. 0, tt)

      -- it is the run of one world
      pub world_is : (r : Result RunEnd E) → Closes tells count t answer ran closed r
          → IfOk r (IsRunOfWorld told t custom cut steps fates)
      world_is (Ok ending) closes = record {
        by_some = world_some ending closes;
        by_told = λ words are. world_at words ending closes (world.by_told words are);
      }
      world_is (Err e) closes = tt

    -- ---- where nothing is in the way

    not_both : (r : Result Ended Stop) (txid : ℕ) → r ≡ Ok ended.All
        → r ≡ Err (stop.Exhausted txid) → ⊥
    not_both r txid all out = cc

    not_some : (r : Result Ended Stop) (k : ℕ) → r ≡ Ok ended.All → r ≡ Ok (ended.Unfinished k)
        → ⊥
    not_some r k all some = cc

    -- how many more faults than failed commits there were at least
    more_faults : RunEnd → ℕ
    more_faults (end.All tables) = 0
    more_faults (end.Exhausted txid) = 0
    more_faults (end.Unfinished k) = 0
    more_faults end.StoreFault = 1
    more_faults (end.BadCell key) = 0
    more_faults (end.Follow txid) = 0

    and_none : (n : ℕ) → RoseBySum n (faults old) (faults new)
        → RoseBySum (n + 0) (faults old) (faults new)
    and_none n rose =
        subst (λ (m : ℕ). RoseBySum m (faults old) (faults new))
        (let same : n ≡ n + 0 = omega arith in same) rose

    failures_of : (ending : RunEnd)
        → FaultsCome t (maker_use tells count holds made faults old new) fates ending
        → RoseBySum (failed_commits fates + more_faults ending) (faults old) (faults new)
    unfolding more_faults
    failures_of (end.All tables) come = and_none (failed_commits fates) come.by_failures
    failures_of (end.Exhausted txid) come = and_none (failed_commits fates) come.by_failures
    failures_of (end.Unfinished k) come = and_none (failed_commits fates) come.by_failures
    failures_of end.StoreFault come = come.by_failures
    failures_of (end.BadCell key) come = and_none (failed_commits fates) come.by_failures
    failures_of (end.Follow txid) come = and_none (failed_commits fates) come.by_failures

    -- no strange cell was there where the stores began well
    none_strange : (key : List ℕ)
        → BeganWell t custom cut (maker_use tells count holds made faults old new)
        → HadStrangeAt t (maker_use tells count holds made faults old new) key → ⊥
    none_strange key (inl empty) = not_strange tells count holds made faults t old new key empty.1
    none_strange key (inr stood) =
        not_strange_stood tells count holds made faults t old new custom cut stood.before key
        stood.stood stood.texts

    module _ (ends : faults old ≤ 2 ^ 64 - 1)
        (unfailed : (txid : ℕ) → answer ≡ Err (stop.Follow txid) → ⊥) where
      none_more : (ending : RunEnd) → ClosesAs ending → Quiet ending
          → NothingIsInTheWay t custom cut (maker_use tells count holds made faults old new) fates
          → failed_commits fates + more_faults ending ≡ 0
      none_more ending closes quiet free =
          not_raised (failed_commits fates + more_faults ending) (faults old) (faults new)
          (failures_of ending (counted_by ending closes quiet)) ends free.no_fault

      all_at : (ending : RunEnd) → ClosesAs ending → Quiet ending
          → NothingIsInTheWay t custom cut (maker_use tells count holds made faults old new) fates
          → (IsAnswer answer → failed_commits fates ≡ 0 → answer ≡ Ok ended.All) → IsAll ending
      unfolding more_faults
      all_at (end.All tables) closes quiet free finishes = tt
      all_at (end.Exhausted txid) closes quiet free finishes =
          let none = none_more (end.Exhausted txid) closes quiet free in
          not_both answer txid
          (finishes (had_answer (end.Exhausted txid) closes tt) (omega arith)) closes
      all_at (end.Unfinished k) closes quiet free finishes =
          let none = none_more (end.Unfinished k) closes quiet free in
          not_some answer k
          (finishes (had_answer (end.Unfinished k) closes tt) (omega arith)) closes
      all_at end.StoreFault closes quiet free finishes =
          let none = none_more end.StoreFault closes quiet free in omega arith
      all_at (end.BadCell key) closes quiet free finishes =
          none_strange key free.began (end_comes (end.BadCell key) closes)
      all_at (end.Follow txid) closes quiet free finishes = unfailed txid closes

      all_by : (r : Result RunEnd E) → Closes tells count t answer ran closed r
          → ((r ≡ Ok end.StoreFault → ⊥) → SameCounts count ran closed)
          → NothingIsInTheWay t custom cut (maker_use tells count holds made faults old new) fates
          → (IsAnswer answer → failed_commits fates ≡ 0 → answer ≡ Ok ended.All) → IfOk r IsAll
      all_by (Ok ending) closes quiet free finishes =
          all_at ending closes (λ other. quiet (λ same. other (of_ok ending same))) free finishes
        where
          of_ok : (e : RunEnd) → ◌≡◌ {A = Result RunEnd E} (Ok e) (Ok end.StoreFault)
              → e ≡ end.StoreFault
          of_ok e same = cc
      all_by (Err e) closes quiet free finishes = tt

      -- a run of which no transaction ran out of attempts commits all
      pub none_out_finishes : (done : Result (Unit {0}) Stop) → answer ≡ ended_of done
          → (r : Result RunEnd E) → Closes tells count t answer ran closed r
          → ((r ≡ Ok end.StoreFault → ⊥) → SameCounts count ran closed)
          → NothingIsInTheWay t custom cut (maker_use tells count holds made faults old new) fates
          → (failed_commits fates ≡ 0 → NothingRanOut done) → IfOk r IsAll
      none_out_finishes done is r closes quiet free finishes =
          all_by r closes quiet free
          (λ ok none. is ∙ all_of done (subst IsAnswer is ok) (finishes none))
        where
          all_of : (d : Result (Unit {0}) Stop) → IsAnswer (ended_of d) → NothingRanOut d
              → ended_of d ≡ Ok ended.All
          all_of (Ok all) ok none = refl
          all_of (Err (stop.Exhausted txid)) ok none = absurd none
          all_of (Err (stop.BadCell key)) ok none = absurd ok
          all_of (Err (stop.Follow txid)) ok none = absurd ok
          all_of (Err stop.Memory) ok none = absurd ok

      module _ {steps : List Step} (world : OfWorld t custom cut told steps answer fates) where
        -- a schedule with enough rounds commits all
        pub given_finishes : WorldLaws t custom cut → IsCustom custom
            → (r : Result RunEnd E) → Closes tells count t answer ran closed r
            → ((r ≡ Ok end.StoreFault → ⊥) → SameCounts count ran closed)
            → NothingIsInTheWay t custom cut (maker_use tells count holds made faults old new) fates
            → HasRounds t (rounds_needed t custom cut) steps → ticks_in steps < t.buckets
            → (0 < t.partitions → All ShutsNone steps) → IfOk r IsAll
        given_finishes worlds keeps r closes quiet free rounds few opened =
            all_by r closes quiet free
            (λ ok none.
            let of_world = world.by_some ok in
            given_all t custom cut worlds input keeps free.can_finish of_world.0 fates none
            free.no_coincidence steps answer of_world.1 rounds few
            (λ some. opened (subst (λ (n : ℕ). 0 < n) input.partitions some)))

        -- so does a run of rounds, with few ticks in the first of them
        pub rounds_finish : WorldLaws t custom cut → IsCustom custom
            → (done : Result (Unit {0}) Stop) → answer ≡ ended_of done
            → (answers shuts to_come : List ℕ)
            → HasRoundsOf t answers shuts steps → All ShutsNone steps
            → answers ≡ first_answers (length answers) to_come
            → (r : Result RunEnd E) → Closes tells count t answer ran closed r
            → ((r ≡ Ok end.StoreFault → ⊥) → SameCounts count ran closed)
            → NothingIsInTheWay t custom cut (maker_use tells count holds made faults old new) fates
            → sum (first_answers (rounds_needed t custom cut) to_come) < t.buckets
            → IfOk r IsAll
        rounds_finish worlds keeps done is answers shuts to_come has opened are r closes quiet free few =
            all_by r closes quiet free
            (λ ok none.
            let of_world = world.by_some ok in
            is
            ∙ rounds_all t custom cut worlds input keeps free.can_finish of_world.0 fates none
            free.no_coincidence steps answers shuts to_come done
            (subst (λ (s : Result Ended Stop). IsOfWorld t custom cut of_world.0 steps s fates) is
            of_world.1)
            has opened are few)

-- nothing is left open where rounds go on until all is over
pub none_left : {S E : Type 0} (tells : S → CellMap → Type 0) (count : S → ℕ) (t : Topology)
    (ran closed : List (StatePart S)) (done : Result (Unit {0}) Stop) (r : Result RunEnd E)
    → Closes tells count t (ended_of done) ran closed r → (k : ℕ) → r ≡ Ok (end.Unfinished k) → ⊥
none_left {E = E} tells count t ran closed done r closes k left =
    no_end done
    (subst (λ (s : Result RunEnd E). Closes tells count t (ended_of done) ran closed s) left closes)
  where
    no_end : (d : Result (Unit {0}) Stop) → ended_of d ≡ Ok (ended.Unfinished k) → ⊥
    no_end (Ok all) same = cc
    no_end (Err e) same = cc

-- the world of a run by rounds is the one after its rounds
pub by_rounds : {S E : Type 0} {told : (ℕ → ℕ → ℕ) → Type 0}
    {ticking availing : List ℕ → Type 0} {tells : S → CellMap → Type 0} {count : S → ℕ} {t : Topology} {custom : Custom} {cut : Cut}
    {before after : ℕ} {done : Result (Unit {0}) Stop} {fates : List Attempt}
    {made ran : List (StatePart S)}
    (come : RoundsCome told ticking availing tells count t custom cut before after done fates made
    ran)
    (r : Result RunEnd E) → IfOk r (IsRunOfWorld told t custom cut come.steps fates)
    → IfOk r (IsRunByRounds told ticking availing t custom cut before after fates)
by_rounds come (Ok ending) world =
    record {
      answers = come.answers;
      handed_out = come.handed_out;
      asked = come.asked;
      shuts = come.shuts;
      asked_shut = come.asked_shut;
      steps = come.steps;
      rounds = come.rounds;
      world = world;
    }
by_rounds come (Err e) world =
    tt

-- ---- followers

-- a count that was raised rose
rose_raised : (before after : ℕ) → after ≡ raised before → Rose before after
rose_raised before after is = by (cases_lt before (2 ^ 64 - 1))
  where
    by : (before < 2 ^ 64 - 1) ⊎ (2 ^ 64 - 1 ≤ before) → Rose before after
    by (inl less) = inl (omega arith)
    by (inr most) = inr (omega arith)

module _ {W : Type 0} (told : W → List Commit → Type 0) (failures : W → ℕ) (was is : W)
    (fates : List Attempt) where
  -- a follower whose count did not rise did not fail
  pub unfailed_by : (answer : Result Ended Stop)
      → RunFollowed told failures answer fates was is
      → (Rose (failures was) (failures is) → ⊥) → (txid : ℕ) → answer ≡ Err (stop.Follow txid) → ⊥
  unfailed_by answer followed none txid same =
      let at : FailsAtLast told failures txid [] fates was is =
      subst (λ (r : Result Ended Stop). RunFollowed told failures r fates was is) same followed in
      none (rose_raised (failures was) (failures is) at.failed)

  -- what it was told by the answer, it was told by the end
  pub followed_is : {S E : Type 0} (tells : S → CellMap → Type 0) (count : S → ℕ) (t : Topology)
      (ran closed : List (StatePart S)) (answer : Result Ended Stop) (r : Result RunEnd E)
      → Closes tells count t answer ran closed r → RunFollowed told failures answer fates was is
      → EndFollowed told failures r fates was is
  followed_is {S} {E} tells count t ran closed answer r closes followed = by r closes
    where
      of_answer : (other : Result Ended Stop) → answer ≡ other
          → RunFollowed told failures other fates was is
      of_answer other same =
          subst (λ (s : Result Ended Stop). RunFollowed told failures s fates was is) same followed

      by : (r : Result RunEnd E) → Closes tells count t answer ran closed r
          → EndFollowed told failures r fates was is
      by (Ok (end.All tables)) closes = of_answer (Ok ended.All) closes.0
      by (Ok (end.Exhausted txid)) closes = of_answer (Err (stop.Exhausted txid)) closes
      by (Ok (end.Unfinished k)) closes = of_answer (Ok (ended.Unfinished k)) closes
      by (Ok end.StoreFault) closes = of_answer (Ok ended.All) closes.0
      by (Ok (end.BadCell key)) (inl bad) = of_answer (Err (stop.BadCell key)) bad
      by (Ok (end.BadCell key)) (inr bad) = of_answer (Ok ended.All) bad.0
      by (Ok (end.Follow txid)) closes = of_answer (Err (stop.Follow txid)) closes
      by (Err e) (inl short) = of_answer (Err stop.Memory) short
      by (Err e) (inr whole) = (of_answer (Ok ended.All) whole).quiet

-- a follower that was not called did not fail
pub followed_short : {W E : Type 0} (told : W → List Commit → Type 0) (failures : W → ℕ) (was : W)
    (fates : List Attempt) (r : Result RunEnd E) → IsErr r → EndFollowed told failures r fates was was
followed_short told failures was fates (Err e) err = refl
followed_short told failures was fates (Ok ending) err = absurd (true≢false (sym err))

-- a run of rounds that a follower stopped answers so
pub follow_of : (done : Result (Unit {0}) Stop) (txid : ℕ)
    → ended_of done ≡ Err (stop.Follow txid) → done ≡ Err (stop.Follow txid)
follow_of (Ok all) txid same = absurd (none same)
  where
    none : Ok ended.All ≡ Err (stop.Follow txid) → ⊥
    none e = cc
follow_of (Err e) txid same = by same
  where
    by : ◌≡◌ {A = Result Ended Stop} (Err e) (Err (stop.Follow txid))
        → ◌≡◌ {A = Result (Unit {0}) Stop} (Err e) (Err (stop.Follow txid))
    by is = cc
