-- What a run over the stores of a maker comes to, by what it came to over parts.
use Rattle.std.proofs.Common.{◌≡◌, ◌≤◌, ◌<◌, ◌+◌, ◌-◌, ◌^◌, ◌⊎◌, inl, inr, ℕ, List, [], ◌∷◌, All, IfOk, OnErr, Result, Ok, Err, refl, sym, subst, arith}
use Rattle.std.specs.List.{AllByRecursion}
use Rattle.std.proofs.lemmas.Bool.{cases_lt}
use Rattle.std.proofs.lemmas.List.Elements.{All-nil, recursion_from_All}
use Rattle.std.proofs.lemmas.Result.{IfOk-weaker}
use Rattle.batch_commits.specs.Standing.{FailsAtOneOf, failed_commits}
use Rattle.event_worlds.specs.attempt_fates.declared.fates.Attempt.{Attempt}
use Rattle.event_worlds.specs.attempt_fates.Fates.{IsOnce}
use Rattle.event_worlds.specs.bolt_ops.RowOp.{Custom}
use Rattle.event_worlds.specs.commit_order.declared.stop.Stop.TheVariants as stop
use Rattle.event_worlds.specs.commit_turns.Kept.{IsKept}
use Rattle.event_worlds.specs.commit_turns.Turns.{last_tick}
use Rattle.event_worlds.specs.Accounted.{AreCaused, IsInput}
use Rattle.event_worlds.specs.Worlds.{first_known}
use Rattle.event_worlds.specs.state_parts.Commits.{SameCounts}
use Rattle.event_worlds.specs.state_parts.declared.answer.Commit.{Commit}
use Rattle.event_worlds.specs.state_parts.declared.parts.StatePart.{StatePart}
use Rattle.event_worlds.specs.state_parts.Makers.{Began, CameBack as PartCameBack, HasNotFailed, faults_of}
use Rattle.event_worlds.specs.state_parts.PartPlans.{AreParts, IsOneOf, PartPlan, plan_of, plans_of}
use Rattle.event_worlds.specs.state_parts.PartTables.{AreRead, IsBadRowAt, OneRaised}
use Rattle.event_worlds.specs.storm_values.Counts.{Rose, raised, raised_by}
use Rattle.event_worlds.specs.taken_records.Cuts.{Cut}
use Rattle.event_worlds.specs.topology_plan.Topology.{Topology}
use Rattle.stored_runs.proofs.Moved.{StandStill, tells_none}
use Rattle.stored_runs.specs.OverParts.{HasRows, Resumes, RunsOn, StopsAs, StopsFirst}
use Rattle.stored_runs.specs.Resuming.{FailsFirst, HadRows, IsResumed}
use Rattle.schedule_core.specs.Driving.{AreKept}
use Rattle.schedule_core.specs.Runs.{RunTells, ended as ended_of}
use Rattle.state_cells.specs.Rows.{IsBadRow}
use Rattle.storm_stores.specs.CellMaps.{CellMap, cell_at}
use Rattle.stored_runs.proofs.Comings.{Ran, all_back, follow_of, less_is, none_left, once_at_first, run_is, short_is}
use Rattle.stored_runs.proofs.Faults.{counted_broken}
use Rattle.stored_runs.proofs.Finished.{not_raised}
use Rattle.stored_runs.proofs.Lent.{Lent, are_read, had_strange, have_same_counts, not_strange, not_strange_stood, to_planned}
use Rattle.stored_runs.specs.declared.ending.RunEnd.{RunEnd}
use Rattle.stored_runs.specs.declared.ending.RunEnd.TheVariants as end
use Rattle.stored_runs.specs.Laws.{PartLaws, WorldLaws}
use Rattle.stored_runs.specs.Makers.{CameBack, HadStrangeAt, MakerUse, maker_use}
use Rattle.stored_runs.specs.StoredRuns.{BeganWell, EndFollowed, IsAll, IsRun, NothingIsInTheWay, StandAtCommits, StandBeforeLast, StandsWithoutMemory}

-- What making parts and giving them back told.
pub record Out {S M : Type 0} (tells : S → CellMap → Type 0) (count : S → ℕ)
    (holds : M → ℕ → ℕ → CellMap → Type 0) (faults : M → ℕ) (t : Topology) (old mid new : M)
    (made closed : List (StatePart S)) : Type 0 where
  pub planned : AreParts t made
  pub began : All (Began tells holds old) made
  pub no_fault : All (HasNotFailed count) made
  pub others_out : (c p : ℕ) (cells : CellMap) → (IsOneOf (plans_of made) c p → ⊥)
      → holds old c p cells → holds mid c p cells
  pub same_count : faults mid ≡ faults old
  pub back : All (PartCameBack tells holds new) closed
  pub others_back : (c p : ℕ) (cells : CellMap) → (IsOneOf (plans_of closed) c p → ⊥)
      → holds mid c p cells → holds new c p cells
  pub counted : faults new ≡ raised_by (faults mid) (faults_of count closed)
  pub never_falls : faults mid ≤ faults new

-- ---- counts

module _ {S : Type 0} (count : S → ℕ) where
  no_faults : (xs ys : List (StatePart S)) → AllByRecursion (HasNotFailed count) xs
      → SameCounts count xs ys → faults_of count ys ≡ 0
  no_faults [] [] none same = refl
  no_faults [] (y ∷ ys) none same = absurd same
  no_faults (x ∷ xs) [] none same = absurd same
  no_faults (x ∷ xs) (y ∷ ys) none same =
      let rest = no_faults xs ys none.1 same.1 in
      let here = same.0 in let first = none.0 in omega arith

  one_fault : (xs ys : List (StatePart S)) → AllByRecursion (HasNotFailed count) xs
      → OneRaised count xs ys → faults_of count ys ≡ 1
  one_fault [] ys none one = absurd one
  one_fault (x ∷ xs) [] none one = absurd one
  one_fault (x ∷ xs) (y ∷ ys) none (inl here) =
      let rest = no_faults xs ys none.1 here.1 in
      let now = here.0 in let first = none.0 in omega arith
  one_fault (x ∷ xs) (y ∷ ys) none (inr later) =
      let rest = one_fault xs ys none.1 later.1 in
      let here = later.0 in let first = none.0 in omega arith

-- one fault more of a maker's
raised_once : (before mid after all : ℕ) → mid ≡ before → after ≡ raised_by mid all → all ≡ 1
    → after ≡ raised before
raised_once before mid after all same is one = omega arith

-- a count that was raised rose
rose_raised : (before after : ℕ) → after ≡ raised before → Rose before after
rose_raised before after is = by (cases_lt before (2 ^ 64 - 1))
  where
    by : (before < 2 ^ 64 - 1) ⊎ (2 ^ 64 - 1 ≤ before) → Rose before after
    by (inl less) = inl (omega arith)
    by (inr most) = inr (omega arith)

-- no attempt that ended has a cause to be told
none_caused : (t : Topology) (custom : Custom) (cut : Cut) (ticks : ℕ) (words : ℕ → ℕ → ℕ)
    → AreCaused t custom cut ticks words []
none_caused t custom cut ticks words = record {
  each = tt;
  drawn = λ small. record { drawn = tt; once = λ s j. omega arith; below = tt };
}

-- ---- where no cell is bad

module _ {S M : Type 0} {tells : S → CellMap → Type 0} {count : S → ℕ}
    {holds : M → ℕ → ℕ → CellMap → Type 0} (made : M → ℕ → ℕ → Type 0) {faults : M → ℕ}
    {t : Topology} {old mid new : M}
    {parts closed : List (StatePart S)}
    (out : Out tells count holds faults t old mid new parts closed) where
  abbrev maker : MakerUse
  maker = maker_use tells count holds made faults old new

  -- none that a table does not take
  abbrev PartHadRows : PartPlan → Type 0
  PartHadRows part =
      (cells : CellMap) → holds old part.component part.part cells → (key : List ℕ)
      → IsBadRow part.kind key (cell_at cells key) → ⊥

  rows_each : (xs : List (StatePart S)) → AllByRecursion (HasRows tells) xs
      → AllByRecursion (Began tells holds old) xs
      → AllByRecursion (λ (at : StatePart S). PartHadRows (plan_of at)) xs
  rows_each [] rows began = tt
  rows_each (x ∷ xs) rows began = (
    λ cells held key bad. rows.0 cells (began.0 cells held) key bad,
    rows_each xs rows.1 began.1,
  )

  had_rows : All (HasRows tells) parts → HadRows t maker
  had_rows rows =
      to_planned PartHadRows t parts out.planned
      (rows_each parts (recursion_from_All (HasRows tells) parts rows)
      (recursion_from_All (Began tells holds old) parts out.began))

  -- what was lent, where these parts were read
  lent_of : (ran : List (StatePart S)) → AreKept tells parts ran → AreRead tells count ran closed
      → plans_of closed ≡ plans_of ran
      → Lent tells count holds faults t old mid new parts ran closed
  lent_of ran kept read plans = record {
    planned = out.planned;
    began = out.began;
    no_fault = out.no_fault;
    others_out = out.others_out;
    same_count = out.same_count;
    kept = kept;
    read = read;
    plans = plans;
    back = out.back;
    others_back = out.others_back;
    counted = out.counted;
    never_falls = out.never_falls;
  }

  module _ {custom : Custom} {cut : Cut} (laws : PartLaws tells count t custom cut)
      (worlds : WorldLaws t custom cut) (still : StandStill tells count) (input : IsInput t cut)
      (told : (ℕ → ℕ → ℕ) → Type 0) (ticks : ℕ) (fates : List Attempt) (E : Type 0) where
    -- ---- where a run went over the parts

    module _ (r : Result RunEnd E)
        (is : RunsOn told tells count t custom cut ticks r fates parts closed) where
      lent : Lent tells count holds faults t old mid new parts is.ran closed
      lent = lent_of is.ran is.runs.tells_so.kept is.read is.plans

      ran_so : Ran tells count t custom cut told ticks (ended_of is.done) fates parts is.ran
      ran_so = record { told_so = is.runs.tells_so; drawn = is.runs.drawn }

      run_comes : IfOk r (IsResumed told t custom cut ticks maker fates)
      run_comes =
          IfOk-weaker r (IsRun told t custom cut ticks maker fates)
          (IsResumed told t custom cut ticks maker fates) (λ ending so. inl so)
          (run_is made lent laws input ran_so E r is.closes is.quiet)

      run_short : OnErr r (StandsWithoutMemory t custom cut maker fates)
      run_short = short_is made lent laws input ran_so E r

      run_less : (txid : ℕ) → r ≡ Ok (end.Follow txid) → StandBeforeLast t custom cut maker fates
      run_less =
          less_is made lent laws input ran_so E r is.closes
          (λ txid so. is.runs.less txid (follow_of is.done txid so))

    -- ---- where none was begun

    kept_first : IsKept t cut (first_known t cut (λ s j. 0)).world.desk []
    kept_first = (worlds.first (λ s j. 0) input).1.kept

    once_first : IsOnce cut last_tick []
    once_first = once_at_first t custom cut worlds input [] refl

    module _ (r : Result RunEnd E) (is : StopsFirst tells count r fates parts closed) where
      counts : SameCounts count parts closed ⊎ OneRaised count parts closed
      counts = by r is.stops
        where
          by : (x : Result RunEnd E) → StopsAs tells count x parts closed
              → SameCounts count parts closed ⊎ OneRaised count parts closed
          by (Ok (end.All tables)) so = absurd so
          by (Ok (end.Exhausted txid)) so = absurd so
          by (Ok (end.Unfinished k)) so = absurd so
          by (Ok end.StoreFault) so = inr so
          by (Ok (end.BadCell key)) so = inl so.1
          by (Ok (end.Follow txid)) so = absurd so
          by (Err e) so = inl so

      none_tells : RunTells tells count t custom cut ticks (Err stop.Memory) [] parts closed
      none_tells = tells_none tells count t custom cut laws still parts closed once_first is.kept counts ticks

      none_lent : Lent tells count holds faults t old mid new parts closed closed
      none_lent = lent_of closed none_tells.kept (are_read tells count closed) refl

      none_ran : Ran tells count t custom cut told ticks (Err stop.Memory) [] parts closed
      none_ran = record { told_so = none_tells; drawn = λ words are ok. absurd ok }

      none_stands : StandAtCommits t custom cut maker []
      none_stands = short_is made none_lent laws input none_ran (Unit {0}) (Err tt)

      fails_first : OneRaised count parts closed → FailsFirst t custom cut maker []
      fails_first one = record {
        none_begun = refl;
        failed_once =
            raised_once (faults old) (faults mid) (faults new) (faults_of count closed)
            out.same_count out.counted
            (one_fault count parts closed
            (recursion_from_All (HasNotFailed count) parts out.no_fault) one);
        stands = none_stands;
      }

      bad_run : (key : List ℕ) → IsBadRowAt tells parts key
          → IsRun told t custom cut ticks maker [] (end.BadCell key)
      bad_run key bad = record {
        once = record {
          in_order = once_first.in_order;
          numbered = once_first.numbered;
          last_committed = once_first.last_committed;
          batches = once_first.batches;
          apart = once_first.apart;
          fronts = once_first.fronts;
          rises = once_first.rises;
          finishes = once_first.finishes;
          handed_out = tt;
        };
        comes =
            had_strange tells count holds made faults t old new parts key out.planned out.began
            (laws.bad_row parts key bad);
        caused = record {
          by_some = ((λ s j. 0), none_caused t custom cut ticks (λ s j. 0));
          by_told = λ words are. none_caused t custom cut ticks words;
        };
        failed_in_turn = kept_first.fails_in_turn;
        drops = kept_first.drops;
        counted =
            counted_broken tells count holds made faults t old mid new parts closed closed none_lent
            [] none_tells.but_last
            (laws.last_sum [] parts closed (All-nil (FailsAtOneOf (plans_of parts)))
            none_tells.but_last)
            (have_same_counts count closed);
        stands = none_stands;
      }

      stop_comes : IfOk r (IsResumed told t custom cut ticks maker fates)
      stop_comes =
          subst (λ (xs : List Attempt). IfOk r (IsResumed told t custom cut ticks maker xs))
          (sym is.none_begun) (by r is.stops)
        where
          by : (x : Result RunEnd E) → StopsAs tells count x parts closed
              → IfOk x (IsResumed told t custom cut ticks maker [])
          by (Ok (end.All tables)) so = absurd so
          by (Ok (end.Exhausted txid)) so = absurd so
          by (Ok (end.Unfinished k)) so = absurd so
          by (Ok end.StoreFault) so = inr (refl, fails_first so)
          by (Ok (end.BadCell key)) so = inl (bad_run key so.0)
          by (Ok (end.Follow txid)) so = absurd so
          by (Err e) so = tt

      stop_short : OnErr r (StandsWithoutMemory t custom cut maker fates)
      stop_short =
          subst (λ (xs : List Attempt). OnErr r (StandsWithoutMemory t custom cut maker xs))
          (sym is.none_begun) (by r)
        where
          by : (x : Result RunEnd E) → OnErr x (StandsWithoutMemory t custom cut maker [])
          by (Ok ending) = tt
          by (Err e) = none_stands

    -- ---- each clause

    module _ (r : Result RunEnd E) where
      -- what a run answers that goes on, or that was not begun
      stops_none : (x : Result RunEnd E) → StopsAs tells count x parts closed → (ending : RunEnd)
          → x ≡ Ok ending → StopsAs {S = S} {E = E} tells count (Ok ending) parts closed
      stops_none x so ending is =
          subst (λ (y : Result RunEnd E). StopsAs tells count y parts closed) is so

      pub comes_of : Resumes told tells count t custom cut ticks r fates parts closed
          → IfOk r (IsResumed told t custom cut ticks maker fates)
      comes_of (inl is) = run_comes r is
      comes_of (inr is) = stop_comes r is

      pub short_of : Resumes told tells count t custom cut ticks r fates parts closed
          → OnErr r (StandsWithoutMemory t custom cut maker fates)
      short_of (inl is) = run_short r is
      short_of (inr is) = stop_short r is

      pub less_of : Resumes told tells count t custom cut ticks r fates parts closed
          → (txid : ℕ) → r ≡ Ok (end.Follow txid) → StandBeforeLast t custom cut maker fates
      less_of (inl is) txid same = run_less r is txid same
      less_of (inr is) txid same = absurd (stops_none r is.stops (end.Follow txid) same)

      pub goes_on_of : Resumes told tells count t custom cut ticks r fates parts closed
          → (k : ℕ) → r ≡ Ok (end.Unfinished k) → ⊥
      goes_on_of (inl is) k same =
          none_left tells count t is.ran closed is.done r is.closes k same
      goes_on_of (inr is) k same = stops_none r is.stops (end.Unfinished k) same

      pub once_of : Resumes told tells count t custom cut ticks r fates parts closed
          → IsOnce cut last_tick fates
      once_of (inl is) = is.runs.tells_so.once
      once_of (inr is) = once_at_first t custom cut worlds input fates is.none_begun

      pub back_of : Resumes told tells count t custom cut ticks r fates parts closed
          → CameBack t maker
      back_of (inl is) = all_back made (lent r is)
      back_of (inr is) = all_back made (none_lent r is)

      pub looked_of : Resumes told tells count t custom cut ticks r fates parts closed
          → (fates ≡ [] → ⊥) → HadRows t maker
      looked_of (inl is) some = had_rows is.rows
      looked_of (inr is) some = absurd (some is.none_begun)

-- ---- where nothing is in the way

module _ {S M W : Type 0} (E : Type 0) (tells : S → CellMap → Type 0) (count : S → ℕ)
    (holds : M → ℕ → ℕ → CellMap → Type 0) (made : M → ℕ → ℕ → Type 0) (faults : M → ℕ)
    (t : Topology) (custom : Custom) (cut : Cut) (old new : M) (told : (ℕ → ℕ → ℕ) → Type 0)
    (ticks : ℕ) (fates : List Attempt) (hears : W → List Commit → Type 0) (failures : W → ℕ)
    (was is : W) (ends : faults old ≤ 2 ^ 64 - 1)
    (free : NothingIsInTheWay t custom cut (maker_use tells count holds made faults old new) fates)
  where
    abbrev Came : RunEnd → Type 0
    Came ending =
        IsResumed told t custom cut ticks (maker_use tells count holds made faults old new) fates
        ending

    -- no strange cell was there where the stores began well
    none_strange : (key : List ℕ)
        → BeganWell t custom cut (maker_use tells count holds made faults old new)
        → HadStrangeAt t (maker_use tells count holds made faults old new) key → ⊥
    none_strange key (inl empty) =
        not_strange tells count holds made faults t old new key empty.1
    none_strange key (inr stood) =
        not_strange_stood tells count holds made faults t old new custom cut stood.before key
        stood.stood stood.texts

    by_exhausted : (txid : ℕ)
        → (failed_commits fates ≡ 0 → (n : ℕ) → ◌≡◌ {A = Result RunEnd E} (Ok (end.Exhausted txid))
        (Ok (end.Exhausted n)) → ⊥)
        → Came (end.Exhausted txid) → ⊥
    by_exhausted txid tries (inl run) =
        tries
        (not_raised (failed_commits fates) (faults old) (faults new) run.counted.by_failures ends
        free.no_fault)
        txid refl
    by_exhausted txid tries (inr stopped) = cc

    by_store : Came end.StoreFault → ⊥
    by_store (inl run) =
        let none = not_raised (failed_commits fates + 1) (faults old) (faults new)
        run.counted.by_failures ends free.no_fault in
        omega arith
    by_store (inr stopped) =
        free.no_fault (rose_raised (faults old) (faults new) stopped.1.failed_once)

    by_cell : (key : List ℕ) → Came (end.BadCell key) → ⊥
    by_cell key (inl run) = none_strange key free.began run.comes
    by_cell key (inr stopped) = cc

    -- it commits all, where no transaction runs out of attempts
    pub all_if : (r : Result RunEnd E) → IfOk r Came
        → ((k : ℕ) → r ≡ Ok (end.Unfinished k) → ⊥)
        → EndFollowed hears failures r fates was is → (Rose (failures was) (failures is) → ⊥)
        → (failed_commits fates ≡ 0 → (txid : ℕ) → r ≡ Ok (end.Exhausted txid) → ⊥) → IfOk r IsAll
    all_if (Ok (end.All tables)) came goes_on followed none tries = tt
    all_if (Ok (end.Exhausted txid)) came goes_on followed none tries =
        by_exhausted txid tries came
    all_if (Ok (end.Unfinished k)) came goes_on followed none tries = goes_on k refl
    all_if (Ok end.StoreFault) came goes_on followed none tries = by_store came
    all_if (Ok (end.BadCell key)) came goes_on followed none tries = by_cell key came
    all_if (Ok (end.Follow txid)) came goes_on followed none tries =
        none (rose_raised (failures was) (failures is) followed.failed)
    all_if (Err e) came goes_on followed none tries = tt
