-- What is known of parts before their cells were brought to format 2, by what they are after it.
use Rattle.std.proofs.Common.{◌≡◌, ◌⊎◌, inl, inr, ℕ, zero, suc, List, [], ◌∷◌, All, length, Option, None, Some, IsSome, Result, Err, slice_get, refl, sym, ap, subst, ◌∙◌, append-nil}
use Rattle.std.specs.List.{AllByRecursion, AllZip}
use Rattle.std.proofs.lemmas.List.Elements.{All-from_recursion}
use Rattle.batch_commits.specs.Standing.{AllButLastAreCounted, CountsRun, HasStrangeAt, IsStrange, PartsStand, writes_at, writes_of}
use Rattle.cell_format.specs.Commits.{Holds}
use Rattle.event_worlds.specs.attempt_fates.declared.fates.Attempt.{Attempt}
use Rattle.event_worlds.specs.attempt_fates.Fates.{IsOnce}
use Rattle.event_worlds.specs.bolt_ops.RowOp.{Custom}
use Rattle.event_worlds.specs.commit_order.declared.stop.Stop.{Stop}
use Rattle.event_worlds.specs.commit_order.declared.stop.Stop.TheVariants as stop
use Rattle.event_worlds.specs.commit_turns.Turns.{last_tick}
use Rattle.event_worlds.specs.record_spans.declared.span.Span.{Span}
use Rattle.event_worlds.specs.state_parts.Commits.{FailedOnceAtMost, IsBadAt, SameCounts}
use Rattle.event_worlds.specs.state_parts.declared.parts.StatePart.{StatePart}
use Rattle.event_worlds.specs.state_parts.Migrate.{AreKept as HaveSameCells, AreMigrated, IsMigrated, KeepsCells}
use Rattle.event_worlds.specs.state_parts.PartPlans.{PartPlan, plan_of, plans_of}
use Rattle.event_worlds.specs.state_parts.PartTables.{OneRaised}
use Rattle.event_worlds.specs.state_parts.Standing.{AllAreAt, AllStand}
use Rattle.event_worlds.specs.taken_records.Cuts.{Cut}
use Rattle.event_worlds.specs.taken_records.Taken.{one_if}
use Rattle.event_worlds.specs.topology_plan.declared.parts.Kind.{Kind}
use Rattle.event_worlds.specs.topology_plan.Topology.{Topology}
use Rattle.event_worlds.specs.tree_model.declared.write.Write.{Write}
use Rattle.stored_runs.specs.OverParts.{HasRows, Runs}
use Rattle.schedule_core.specs.declared.ended.Ended.{Ended}
use Rattle.schedule_core.specs.Driving.{AreBefore, AreKept, StillTells}
use Rattle.schedule_core.specs.Following.{StandLess}
use Rattle.schedule_core.specs.Runs.{IsFirst, RunTells, ended}
use Rattle.state_cells.specs.Migrate.{IsSameCell}
use Rattle.state_cells.specs.Turns.{IsBad}
use Rattle.storm_stores.specs.CellMaps.{CellMap, cell_at}
use Rattle.stored_runs.specs.Laws.{PartLaws}

-- ---- lists

-- a relation of two lists, and one of the second and a third
pub through : {X Y Z : Type 0} (P : X → Y → Type 0) (Q : Y → Z → Type 0) (R : X → Z → Type 0)
    → ((x : X) (y : Y) (z : Z) → P x y → Q y z → R x z) → (xs : List X) (ys : List Y)
    (zs : List Z) → AllZip P xs ys → AllZip Q ys zs → AllZip R xs zs
through P Q R step [] [] [] first then = tt
through P Q R step [] [] (z ∷ zs) first then = absurd then
through P Q R step [] (y ∷ ys) zs first then = absurd first
through P Q R step (x ∷ xs) [] zs first then = absurd first
through P Q R step (x ∷ xs) (y ∷ ys) [] first then = absurd then
through P Q R step (x ∷ xs) (y ∷ ys) (z ∷ zs) first then =
    (step x y z first.0 then.0, through P Q R step xs ys zs first.1 then.1)

pub zip-weaker : {X Y : Type 0} (P Q : X → Y → Type 0) → ((x : X) (y : Y) → P x y → Q x y)
    → (xs : List X) (ys : List Y) → AllZip P xs ys → AllZip Q xs ys
zip-weaker P Q step [] [] all = tt
zip-weaker P Q step [] (y ∷ ys) all = absurd all
zip-weaker P Q step (x ∷ xs) [] all = absurd all
zip-weaker P Q step (x ∷ xs) (y ∷ ys) all = (step x y all.0, zip-weaker P Q step xs ys all.1)

-- what stands at a place of the first list, by what stands there in the second
zip-back : {X Y : Type 0} (P : X → Y → Type 0) (xs : List X) (ys : List Y) (i : ℕ) (y : Y)
    → AllZip P xs ys → slice_get ys i ≡ Some y → (x : X) × (slice_get xs i ≡ Some x) × P x y
zip-back P [] [] i y all is = absurd (none is)
  where
    none : None ≡ Some y → ⊥
    none e = cc
zip-back P [] (z ∷ ys) i y all is = absurd all
zip-back P (x ∷ xs) [] i y all is = absurd all
zip-back P (x ∷ xs) (z ∷ ys) zero y all is = (x, refl, subst (P x) (same is) all.0)
  where
    same : Some z ≡ Some y → z ≡ y
    same e = cc
zip-back P (x ∷ xs) (z ∷ ys) (suc i) y all is = zip-back P xs ys i y all.1 is

-- ---- one key

-- a key that has the same cell as before has a bad one only if it had one
bad_before : (kind : Kind) (key : List ℕ) (old new : Option (List ℕ)) → IsSameCell key old new
    → IsBad kind new → IsBad kind old
bad_before kind key None None same bad = bad
bad_before kind key None (Some is) same bad =
    let now : Holds kind (Some is) None = (same kind None).0 (record { bytes = tt; good = tt }) in
    absurd now.bytes
bad_before kind key (Some was) None same bad = absurd bad
bad_before kind key (Some was) (Some is) same bad = λ cell good are.
    let now : Holds kind (Some is) (Some cell) =
    (same kind (Some cell)).0 (record { bytes = are; good = good }) in
    bad cell now.good now.bytes

some_before : (kind : Kind) (key : List ℕ) (old new : Option (List ℕ)) → IsSameCell key old new
    → IsSome new → IsSome old
some_before kind key None None same some = some
some_before kind key None (Some is) same some =
    let now : Holds kind (Some is) None = (same kind None).0 (record { bytes = tt; good = tt }) in
    absurd now.bytes
some_before kind key (Some was) new same some = refl

strange_before : (kind : Kind) (key : List ℕ) (old new : Option (List ℕ)) → IsSameCell key old new
    → IsStrange kind key new → IsStrange kind key old
strange_before kind key old new same (inl bad) = inl (bad_before kind key old new same bad)
strange_before kind key old new same (inr some) =
    inr (some_before kind key old new same some.0, some.1)

-- no batch stands before the first transaction, where no record was gone
none_before : (cut : Cut) → IsFirst cut → AreBefore cut []
none_before cut first = record {
  many = sym first.start;
  gone = λ n from to. sym (ap one_if (first.none_gone n from to));
}

-- ---- parts

-- parts that have the same cells as before stand where they stood
pub record StandStill {S : Type 0} (tells : S → CellMap → Type 0) (count : S → ℕ) : Type 0 where
  pub stand : (t : Topology) (custom : Custom) (n : ℕ) (done next : List Write)
      (old new : List (StatePart S)) → HaveSameCells tells count old new
      → AllStand tells t custom n done next old → AllStand tells t custom n done next new
  pub are_at : (t : Topology) (custom : Custom) (n : ℕ) (done next : List Write)
      (old new : List (StatePart S)) → HaveSameCells tells count old new
      → AllAreAt tells t custom n done next old → AllAreAt tells t custom n done next new

module _ {S : Type 0} (tells : S → CellMap → Type 0) (count : S → ℕ) where
  one_bad : (key : List ℕ) (x y : StatePart S) → KeepsCells tells count x y
      → ((cells : CellMap) → tells y.over.store cells → IsBad y.over.kind (cell_at cells key))
      → (cells : CellMap) → tells x.over.store cells → IsBad x.over.kind (cell_at cells key)
  one_bad key x y kept bad cells told =
      let turn = kept.same.to cells told in
      subst (λ (p : PartPlan). IsBad p.kind (cell_at cells key)) kept.plan
      (bad_before y.over.kind key (cell_at cells key) (cell_at turn.0 key) (turn.2 key)
      (bad turn.0 turn.1))

  one_strange : (key : List ℕ) (x y : StatePart S) → KeepsCells tells count x y
      → ((cells : CellMap) → tells y.over.store cells
      → IsStrange y.over.kind key (cell_at cells key))
      → (cells : CellMap) → tells x.over.store cells → IsStrange x.over.kind key (cell_at cells key)
  one_strange key x y kept strange cells told =
      let turn = kept.same.to cells told in
      subst (λ (p : PartPlan). IsStrange p.kind key (cell_at cells key)) kept.plan
      (strange_before y.over.kind key (cell_at cells key) (cell_at turn.0 key) (turn.2 key)
      (strange turn.0 turn.1))

  one_told : (x y : StatePart S) → KeepsCells tells count x y → StillTells tells x y
  one_told x y kept = λ cells told. let turn = kept.same.to cells told in (turn.0, turn.1)

  same_plans : (xs ys : List (StatePart S)) → HaveSameCells tells count xs ys
      → plans_of ys ≡ plans_of xs
  same_plans [] [] kept = refl
  same_plans [] (y ∷ ys) kept = absurd kept
  same_plans (x ∷ xs) [] kept = absurd kept
  same_plans (x ∷ xs) (y ∷ ys) kept =
      ap (λ (p : PartPlan). p ∷ plans_of ys) kept.0.plan
      ∙ ap (λ (ps : List PartPlan). plan_of x ∷ ps) (same_plans xs ys kept.1)

  -- what the count of a part went by is said of the part as it was
  of_old : (P : ℕ → ℕ → ℕ → Type 0) (x y : StatePart S) → IsMigrated tells count x y
      → P y.component y.part (count y.over.store) → P x.component x.part (count x.over.store)
  of_old P x y migrated is =
      subst (λ (p : PartPlan). P p.component p.part (count x.over.store)) migrated.kept.plan
      (subst (P y.component y.part) migrated.same_count is)

  -- each store failed once at most
  once_at_most : (xs ys : List (StatePart S)) → SameCounts count xs ys ⊎ OneRaised count xs ys
      → AllButLastAreCounted count [] xs ys
  once_at_most [] [] (inl same) = tt
  once_at_most [] (y ∷ ys) (inl same) = absurd same
  once_at_most [] ys (inr one) = absurd one
  once_at_most (x ∷ xs) [] (inl same) = absurd same
  once_at_most (x ∷ xs) [] (inr one) = absurd one
  once_at_most (x ∷ xs) (y ∷ ys) (inl same) =
      ((count x.over.store, refl, inl same.0), once_at_most xs ys (inl same.1))
  once_at_most (x ∷ xs) (y ∷ ys) (inr (inl here)) =
      ((count x.over.store, refl, inr here.0), once_at_most xs ys (inl here.1))
  once_at_most (x ∷ xs) (y ∷ ys) (inr (inr later)) =
      ((count x.over.store, refl, inl later.0), once_at_most xs ys (inr later.1))

  -- parts that were migrated had no cell that a table does not take
  rows_each : (xs ys : List (StatePart S)) → AreMigrated tells count xs ys
      → AllByRecursion (HasRows tells) xs
  rows_each [] ys all = tt
  rows_each (x ∷ xs) [] all = absurd all
  rows_each (x ∷ xs) (y ∷ ys) all = (all.0.none_bad, rows_each xs ys all.1)

  pub had_rows : (xs ys : List (StatePart S)) → AreMigrated tells count xs ys
      → All (HasRows tells) xs
  had_rows xs ys all = All-from_recursion (HasRows tells) xs (rows_each xs ys all)

  module _ (t : Topology) (custom : Custom) (cut : Cut) (laws : PartLaws tells count t custom cut)
      (still : StandStill tells count) (old mid : List (StatePart S)) where
    module _ (kept : HaveSameCells tells count old mid) where
      stood : (batches : List (List Span)) → PartsStand tells t custom cut batches old
          → PartsStand tells t custom cut batches mid
      stood batches stands = record {
        stand = λ spans next.
            still.stand t custom (length batches) (writes_of t custom cut batches)
            (writes_at t custom cut spans) old mid kept (stands.stand spans next);
        at_end = λ all spans next.
            still.are_at t custom (length batches) (writes_of t custom cut batches)
            (writes_at t custom cut spans) old mid kept (stands.at_end all spans next);
      }

      strange_old : (key : List ℕ) → HasStrangeAt tells mid key → HasStrangeAt tells old key
      strange_old key has =
          let was = zip-back (KeepsCells tells count) old mid has.place has.at kept has.is_at in
          record {
            place = has.place;
            at = was.0;
            is_at = was.1;
            strange = one_strange key was.0 has.at was.2 has.strange;
          }

      bad_old : (key : List ℕ) → IsBadAt tells mid key → IsBadAt tells old key
      bad_old key has =
          let was = zip-back (KeepsCells tells count) old mid has.place has.was kept has.was_at in
          record {
            place = has.place;
            was = was.0;
            was_at = was.1;
            bad = one_bad key was.0 has.was was.2 has.bad;
          }

      kept_on : (new : List (StatePart S)) → AreKept tells mid new → AreKept tells old new
      kept_on new then = record {
        plans = then.plans ∙ same_plans old mid kept;
        told =
            through (KeepsCells tells count) (StillTells tells) (StillTells tells)
            (λ x y z one two. λ cells told.
            let turn = one.same.to cells told in two turn.0 turn.1)
            old mid new kept then.told;
      }

      less_on : (fates : List Attempt) (new : List (StatePart S))
          → StandLess tells t custom cut fates mid new → StandLess tells t custom cut fates old new
      less_on fates new less = λ earlier last is before are stands.
          less earlier last is before are (stood before stands)

    same_cells : AreMigrated tells count old mid → HaveSameCells tells count old mid
    same_cells migrated =
        zip-weaker (IsMigrated tells count) (KeepsCells tells count) (λ x y one. one.kept) old mid
        migrated

    -- what a run over the parts as they are tells, it tells over the parts as they were
    tells_on : AreMigrated tells count old mid → (ticks : ℕ) (answer : Result Ended Stop)
        (fates : List Attempt) (new : List (StatePart S))
        → RunTells tells count t custom cut ticks answer fates mid new
        → RunTells tells count t custom cut ticks answer fates old new
    tells_on migrated ticks answer fates new run = record {
      once = run.once;
      in_time = run.in_time;
      answers = run.answers;
      caused = run.caused;
      failed_in_turn = run.failed_in_turn;
      drops = run.drops;
      bad_cell = λ key is. bad_old kept key (run.bad_cell key is);
      strange = λ key has. strange_old kept key (run.strange key has);
      stands = λ before are stands. run.stands before are (stood kept before stands);
      stands_first = λ first empty.
          run.stands [] (none_before cut first) (stood kept [] (laws.begin old empty));
      counted = λ ok.
          through (IsMigrated tells count)
          (λ (y z : StatePart S).
          CountsRun y.component y.part (count y.over.store) fates (count z.over.store))
          (λ (x z : StatePart S).
          CountsRun x.component x.part (count x.over.store) fates (count z.over.store))
          (λ x y z one two.
          of_old (λ c p low. CountsRun c p low fates (count z.over.store)) x y one two)
          old mid new migrated (run.counted ok);
      but_last =
          through (IsMigrated tells count)
          (λ (y z : StatePart S).
          (high : ℕ) × CountsRun y.component y.part (count y.over.store) fates high
          × FailedOnceAtMost high (count z.over.store))
          (λ (x z : StatePart S).
          (high : ℕ) × CountsRun x.component x.part (count x.over.store) fates high
          × FailedOnceAtMost high (count z.over.store))
          (λ x y z one two.
          of_old
          (λ c p low.
          (high : ℕ) × CountsRun c p low fates high
          × FailedOnceAtMost high (count z.over.store))
          x y one two)
          old mid new migrated run.but_last;
      kept = kept_on kept new run.kept;
    }
      where
        kept : HaveSameCells tells count old mid
        kept = same_cells migrated

    -- what a run over them comes to
    pub runs_on : AreMigrated tells count old mid → (told : (ℕ → ℕ → ℕ) → Type 0) (ticks : ℕ)
        (done : Result (Unit {0}) Stop) (fates : List Attempt) (new : List (StatePart S))
        → Runs told tells count t custom cut ticks done fates mid new
        → Runs told tells count t custom cut ticks done fates old new
    runs_on migrated told ticks done fates new runs = record {
      tells_so = tells_on migrated ticks (ended done) fates new runs.tells_so;
      drawn = runs.drawn;
      less = λ txid is. less_on (same_cells migrated) fates new (runs.less txid is);
    }

    -- ---- where no run was begun

    -- what is told of parts over which no run was begun, as of one that wanted memory
    pub tells_none : IsOnce cut last_tick [] → HaveSameCells tells count old mid
        → SameCounts count old mid ⊎ OneRaised count old mid → (ticks : ℕ)
        → RunTells tells count t custom cut ticks (Err stop.Memory) [] old mid
    tells_none once kept counts ticks = record {
      once = once;
      in_time = λ ok. absurd ok;
      answers = tt;
      caused = λ ok. absurd ok;
      failed_in_turn = λ ok. absurd ok;
      drops = λ ok. absurd ok;
      bad_cell = λ key is. absurd (none key is);
      strange = strange_old kept;
      stands = λ before are stands.
          subst (λ (bs : List (List Span)). PartsStand tells t custom cut bs mid)
          (sym (append-nil before)) (stood kept before stands);
      stands_first = λ first empty. stood kept [] (laws.begin old empty);
      counted = λ ok. absurd ok;
      but_last = once_at_most old mid counts;
      kept = record {
        plans = same_plans old mid kept;
        told = zip-weaker (KeepsCells tells count) (StillTells tells) one_told old mid kept;
      };
    }
      where
        none : (key : List ℕ) → ◌≡◌ {A = Result Ended Stop} (Err stop.Memory) (Err (stop.BadCell key))
            → ⊥
        none key same = cc
