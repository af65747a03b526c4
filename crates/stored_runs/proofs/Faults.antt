-- How often a maker's stores failed, by the counts of the parts and by the fates.
use Rattle.std.proofs.Common.{◌≡◌, ◌≤◌, ◌<◌, ◌+◌, ◌-◌, ◌^◌, ◌⊎◌, inl, inr, ℕ, zero, suc, List, [], ◌∷◌, All, map, None, Some, slice_get, sum, refl, sym, ap, subst, ◌∙◌, arith}
use Rattle.std.specs.List.{AllByRecursion, AllZip}
use Rattle.std.proofs.lemmas.Bool.{cases_lt}
use Rattle.std.proofs.lemmas.List.Elements.{All-from_recursion, recursion_from_All}
use Rattle.std.proofs.lemmas.List.Sums.{sum_by-cons}
use Rattle.event_worlds.specs.attempt_fates.declared.fates.Attempt.{Attempt}
use Rattle.event_worlds.specs.attempt_fates.declared.fates.End.{End}
use Rattle.event_worlds.specs.attempt_fates.declared.fates.End.TheVariants as end
use Rattle.batch_commits.specs.Standing.{AllButLastAreCounted, CountsRun, FailsAtOneOf, FailuresAreCounted, failed_commits}
use Rattle.event_worlds.specs.bolt_ops.RowOp.{Custom}
use Rattle.event_worlds.specs.commit_turns.Account.{ended_of, ending_of, rows_at}
use Rattle.event_worlds.specs.Accounted.{AreCaused, IsCausedEnd}
use Rattle.schedule_core.specs.Driving.{StillTells}
use Rattle.event_worlds.specs.state_parts.Commits.{FailedOnceAtMost, SameCounts}
use Rattle.event_worlds.specs.state_parts.declared.parts.StatePart.{StatePart}
use Rattle.event_worlds.specs.state_parts.Makers.{Began, CameBack as PartCameBack, HasNotFailed, RoseBySum, faults_of}
use Rattle.event_worlds.specs.state_parts.PartPlans.{IsOneOf, PartPlan, plan_of, plans_of}
use Rattle.event_worlds.specs.state_parts.PartTables.{IsRead, OneRaised}
use Rattle.stored_runs.proofs.Lent.{Lent, at_map}
use Rattle.stored_runs.specs.Makers.{CountsOf, FaultsAreCounted, FaultsBeforeBadCell, ReadingFailed, StoreStood, maker_use}
use Rattle.storm_stores.specs.CellMaps.{CellMap}
use Rattle.event_worlds.specs.storm_values.Counts.{raised, raised_by}
use Rattle.event_worlds.specs.topology_plan.Topology.{Topology}
use Rattle.event_worlds.specs.taken_records.Cuts.{Cut}
use Rattle.event_worlds.specs.tuple_account.Ends.{CauseBy, IsPart}

-- ---- each part

module _ {S : Type 0} (count : S → ℕ) where
  -- the counts of these parts
  pub counts_of : List (StatePart S) → List ℕ
  counts_of parts = map (λ (at : StatePart S). count at.over.store) parts

  sum_is : (parts : List (StatePart S)) → sum (counts_of parts) ≡ faults_of count parts
  unfolding counts_of
  sum_is [] = refl
  sum_is (x ∷ xs) =
      sum_by-cons (λ (n : ℕ). n) (count x.over.store) (counts_of xs)
      ∙ ap (λ (n : ℕ). count x.over.store + n) (sum_is xs)

  -- the counts after a run, by the fates
  each_counted : (fates : List Attempt) (xs ys : List (StatePart S))
      → AllByRecursion (HasNotFailed count) xs → FailuresAreCounted count fates xs ys
      → AllZip
      (λ (part : PartPlan) (high : ℕ). CountsRun part.component part.part 0 fates high)
      (plans_of xs) (counts_of ys)
  unfolding counts_of
  each_counted fates [] [] none counted = tt
  each_counted fates [] (y ∷ ys) none counted = absurd counted
  each_counted fates (x ∷ xs) [] none counted = absurd counted
  each_counted fates (x ∷ xs) (y ∷ ys) none counted = (
    subst (λ (low : ℕ). CountsRun x.component x.part low fates (count y.over.store)) none.0
        counted.0,
    each_counted fates xs ys none.1 counted.1,
  )

  -- parts of which no store failed have the counts that they had
  same_sum : (ys zs : List (StatePart S)) → SameCounts count ys zs
      → faults_of count zs ≡ faults_of count ys
  same_sum [] [] same = refl
  same_sum [] (z ∷ zs) same = absurd same
  same_sum (y ∷ ys) [] same = absurd same
  same_sum (y ∷ ys) (z ∷ zs) same =
      let here = same.0 in let rest = same_sum ys zs same.1 in omega arith

  -- ---- a reading that failed

  -- the part whose store failed
  pub record Failed (ys : List (StatePart S)) : Type 0 where
    pub place : ℕ
    pub at : StatePart S
    pub is_at : slice_get ys place ≡ Some at

  failed_part : (ys zs : List (StatePart S)) → OneRaised count ys zs → Failed ys
  failed_part [] zs one = absurd one
  failed_part (y ∷ ys) [] one = absurd one
  failed_part (y ∷ ys) (z ∷ zs) (inl here) = record { place = 0; at = y; is_at = refl }
  failed_part (y ∷ ys) (z ∷ zs) (inr later) =
      let rest = failed_part ys zs later.1 in
      record { place = suc rest.place; at = rest.at; is_at = rest.is_at }

-- one more fault, up to where a count ends
abbrev OneMore : (before after : ℕ) → Type 0
OneMore before after = (after ≡ before + 1) ⊎ ((2 ^ 64 - 1 ≤ before) × (2 ^ 64 - 1 ≤ after))

-- a count that rose and did not fall
raised_more : (low high : ℕ) → high ≡ raised low → low ≤ high → OneMore low high
raised_more low high is up = by (cases_lt low (2 ^ 64 - 1))
  where
    by : (low < 2 ^ 64 - 1) ⊎ (2 ^ 64 - 1 ≤ low) → OneMore low high
    by (inl less) = inl (omega arith)
    by (inr most) = inr (most, omega arith)

module _ {S : Type 0} (tells : S → CellMap → Type 0) (count : S → ℕ) where
  read_more : (ys zs : List (StatePart S)) → AllZip (IsRead tells count) ys zs
      → faults_of count ys ≤ faults_of count zs
  read_more [] [] read = omega arith
  read_more [] (z ∷ zs) read = absurd read
  read_more (y ∷ ys) [] read = absurd read
  read_more (y ∷ ys) (z ∷ zs) read =
      let here = read.0.never_falls in let rest = read_more ys zs read.1 in omega arith

  one_more : (ys zs : List (StatePart S)) → AllZip (IsRead tells count) ys zs
      → OneRaised count ys zs → OneMore (faults_of count ys) (faults_of count zs)
  one_more [] zs read one = absurd one
  one_more (y ∷ ys) [] read one = absurd one
  one_more (y ∷ ys) (z ∷ zs) read (inl here) =
      by (raised_more (count y.over.store) (count z.over.store) here.0 read.0.never_falls)
    where
      rest : faults_of count zs ≡ faults_of count ys
      rest = same_sum count ys zs here.1

      by : OneMore (count y.over.store) (count z.over.store)
          → OneMore (faults_of count (y ∷ ys)) (faults_of count (z ∷ zs))
      by (inl more) = inl (omega (arith, rest))
      by (inr end) = let low = end.0 in let high = end.1 in inr (omega arith, omega arith)
  one_more (y ∷ ys) (z ∷ zs) read (inr later) = by (one_more ys zs read.1 later.1)
    where
      same : count z.over.store ≡ count y.over.store
      same = later.0

      by : OneMore (faults_of count ys) (faults_of count zs)
          → OneMore (faults_of count (y ∷ ys)) (faults_of count (z ∷ zs))
      by (inl more) = inl (omega (arith, same))
      by (inr end) = let low = end.0 in let high = end.1 in inr (omega arith, omega arith)

  -- ---- a commit that was broken off

  -- the counts that the fates give, and those after one more commit
  pub record Broken (fates : List Attempt) (plans : List PartPlan) (ends : List ℕ) : Type 0 where
    pub counts : List ℕ
    pub each : AllZip
        (λ (part : PartPlan) (high : ℕ). CountsRun part.component part.part 0 fates high)
        plans counts
    pub once_at_most : AllZip FailedOnceAtMost counts ends

  broken_off : (fates : List Attempt) (xs ys : List (StatePart S))
      → AllByRecursion (HasNotFailed count) xs → AllButLastAreCounted count fates xs ys
      → Broken fates (plans_of xs) (counts_of count ys)
  unfolding counts_of
  broken_off fates [] [] none counted = record { counts = []; each = tt; once_at_most = tt }
  broken_off fates [] (y ∷ ys) none counted = absurd counted
  broken_off fates (x ∷ xs) [] none counted = absurd counted
  broken_off fates (x ∷ xs) (y ∷ ys) none counted =
      let rest = broken_off fates xs ys none.1 counted.1 in
      record {
        counts = counted.0.0 ∷ rest.counts;
        each = (
          subst (λ (low : ℕ). CountsRun x.component x.part low fates counted.0.0) none.0
              counted.0.1,
          rest.each,
        );
        once_at_most = (counted.0.2, rest.once_at_most);
      }

-- ---- commits that failed

-- an attempt whose commit failed, failed at a part of a state
fails_at : (t : Topology) (custom : Custom) (cut : Cut) (ticks : ℕ) (a : Attempt)
    → IsCausedEnd t custom cut ticks a → (c p before after : ℕ)
    → a.end ≡ end.CommitFailed c p before after → IsPart t c p
fails_at t custom cut ticks a cause c p before after is =
    (subst (λ (e : End). CauseBy t custom (rows_at cut a.spans) ticks (ended_of a) (ending_of e))
    is cause).0

fails_each : {S : Type 0} (t : Topology) (custom : Custom) (cut : Cut) (ticks : ℕ)
    (parts : List (StatePart S))
    → ((c p : ℕ) → IsPart t c p → IsOneOf (plans_of parts) c p) → (fates : List Attempt)
    → AllByRecursion (IsCausedEnd t custom cut ticks) fates
    → AllByRecursion (FailsAtOneOf (plans_of parts)) fates
fails_each t custom cut ticks parts one [] each = tt
fails_each t custom cut ticks parts one (a ∷ fates) each = (
  λ c p before after is. one c p (fails_at t custom cut ticks a each.0 c p before after is),
  fails_each t custom cut ticks parts one fates each.1,
)

-- the commits that failed failed at parts
pub fail_at_parts : {S : Type 0} (t : Topology) (custom : Custom) (cut : Cut) (ticks : ℕ)
    (words : ℕ → ℕ → ℕ) (parts : List (StatePart S))
    → ((c p : ℕ) → IsPart t c p → IsOneOf (plans_of parts) c p) → (fates : List Attempt)
    → AreCaused t custom cut ticks words fates → All (FailsAtOneOf (plans_of parts)) fates
fail_at_parts t custom cut ticks words parts one fates caused =
    All-from_recursion (FailsAtOneOf (plans_of parts)) fates
    (fails_each t custom cut ticks parts one fates caused.each)

-- ---- the maker

-- a count that rose exactly by a sum rose by less
rose_by : (failed none all before after : ℕ) → RoseBySum failed none all
    → after ≡ raised_by before all → RoseBySum failed before after
rose_by failed none all before after (inl more) is = by (cases_lt (before + all) (2 ^ 64 - 1))
  where
    by : (before + all < 2 ^ 64 - 1) ⊎ (2 ^ 64 - 1 ≤ before + all) → RoseBySum failed before after
    by (inl less) = inl (omega arith)
    by (inr most) = inr (omega arith)
rose_by failed none all before after (inr end) is = inr (omega arith)

-- one fault more
with_one : (failed none ran closed : ℕ) → RoseBySum failed none ran → OneMore ran closed
    → RoseBySum (failed + 1) none closed
with_one failed none ran closed (inl rose) (inl more) = inl (omega arith)
with_one failed none ran closed rose (inr end) = inr end.1
with_one failed none ran closed (inr end) (inl more) = inr (omega arith)

same_end : (before ran closed : ℕ) → OneMore ran closed
    → raised_by before closed ≡ raised_by before (ran + 1)
same_end before ran closed (inl more) = ap (raised_by before) more
same_end before ran closed (inr end) = let low = end.0 in let high = end.1 in omega arith

module _ {S M : Type 0} (tells : S → CellMap → Type 0) (count : S → ℕ)
    (holds : M → ℕ → ℕ → CellMap → Type 0) (made : M → ℕ → ℕ → Type 0) (faults : M → ℕ)
    (t : Topology) (old mid new : M) (parts ran closed : List (StatePart S))
    (lent : Lent tells count holds faults t old mid new parts ran closed)
    (fates : List Attempt) where
  counts_are : FailuresAreCounted count fates parts ran → CountsOf t fates (counts_of count ran)
  counts_are counted =
      subst
      (λ (plans : List PartPlan).
      AllZip
      (λ (part : PartPlan) (high : ℕ). CountsRun part.component part.part 0 fates high)
      plans (counts_of count ran))
      lent.planned
      (each_counted count fates parts ran
      (recursion_from_All (HasNotFailed count) parts lent.no_fault) counted)

  raised_all : faults new ≡ raised_by (faults old) (faults_of count closed)
  raised_all =
      subst (λ (n : ℕ). faults new ≡ raised_by n (faults_of count closed)) lent.same_count
      lent.counted

  -- no store failed but as the fates tell
  pub counted_quiet : FailuresAreCounted count fates parts ran
      → RoseBySum (failed_commits fates) (faults_of count parts) (faults_of count ran)
      → SameCounts count ran closed
      → FaultsAreCounted t (maker_use tells count holds made faults old new) fates
  counted_quiet counted failed same =
      let all : faults_of count closed ≡ faults_of count ran = same_sum count ran closed same in
      let is : faults new ≡ raised_by (faults old) (faults_of count ran) =
      subst (λ (n : ℕ). faults new ≡ raised_by (faults old) n) all raised_all in
      record {
        counts = counts_of count ran;
        each = counts_are counted;
        by_counts =
            subst (λ (n : ℕ). faults new ≡ raised_by (faults old) n) (sym (sum_is count ran)) is;
        by_failures =
            rose_by (failed_commits fates) (faults_of count parts) (faults_of count ran)
            (faults old) (faults new) failed is;
      }

  -- ---- the part whose store failed at the last reading

  counted_at : (place : ℕ) (y : StatePart S) → slice_get ran place ≡ Some y
      → slice_get (counts_of count ran) place ≡ Some (count y.over.store)
  unfolding counts_of
  counted_at place y is = at_map (λ (x : StatePart S). count x.over.store) ran place y is

  one_stood : (x y z : StatePart S) → plan_of z ≡ plan_of y → plan_of y ≡ plan_of x
      → Began tells holds old x → StillTells tells x y → IsRead tells count y z
      → PartCameBack tells holds new z → (cells : CellMap) → holds old y.component y.part cells
      → (after : CellMap)
      × (holds new y.component y.part after
      × StoreStood tells count after (count y.over.store))
  one_stood x y z then first began told read back cells held =
      let after = told cells
      (began cells (subst (λ (p : PartPlan). holds old p.component p.part cells) first held)) in (
        after.0,
        (
          subst (λ (p : PartPlan). holds new p.component p.part after.0) then
              (back after.0 (read.same after.0 after.1)),
          record { store = y.over.store; told = after.1; counted = refl },
        ),
      )

  no_part : {X : Type 0} (x : X) → None ≡ Some x → ⊥
  no_part x e = cc

  stood_each : (xs ys zs : List (StatePart S)) → plans_of ys ≡ plans_of xs
      → plans_of zs ≡ plans_of ys → AllByRecursion (Began tells holds old) xs
      → AllZip (StillTells tells) xs ys → AllZip (IsRead tells count) ys zs
      → AllByRecursion (PartCameBack tells holds new) zs → (place : ℕ) (at : StatePart S)
      → slice_get ys place ≡ Some at → (cells : CellMap)
      → holds old at.component at.part cells
      → (after : CellMap)
      × (holds new at.component at.part after
      × StoreStood tells count after (count at.over.store))
  stood_each xs [] zs first then began told read back place at is = absurd (no_part at is)
  stood_each [] (y ∷ ys) zs first then began told read back place at is = absurd told
  stood_each (x ∷ xs) (y ∷ ys) [] first then began told read back place at is = absurd read
  stood_each (x ∷ xs) (y ∷ ys) (z ∷ zs) first then began told read back zero at is =
      let here : plan_of y ≡ plan_of x = cc in
      let now : plan_of z ≡ plan_of y = cc in
      let same : y ≡ at = cc in
      subst
      (λ (a : StatePart S).
      (cells : CellMap) → holds old a.component a.part cells
      → (after : CellMap)
      × (holds new a.component a.part after
      × StoreStood tells count after (count a.over.store)))
      same (one_stood x y z now here began.0 told.0 read.0 back.0)
  stood_each (x ∷ xs) (y ∷ ys) (z ∷ zs) first then began told read back (suc place) at is =
      let plans : plans_of ys ≡ plans_of xs = cc in
      let after : plans_of zs ≡ plans_of ys = cc in
      stood_each xs ys zs plans after began.1 told.1 read.1 back.1 place at is

  -- one more at the last reading
  pub counted_fault : FailuresAreCounted count fates parts ran
      → RoseBySum (failed_commits fates) (faults_of count parts) (faults_of count ran)
      → OneRaised count ran closed
      → ReadingFailed t (maker_use tells count holds made faults old new) fates
  counted_fault counted failed one =
      let at : Failed count ran = failed_part count ran closed one in
      let more : OneMore (faults_of count ran) (faults_of count closed) =
      one_more tells count ran closed lent.read one in
      record {
        counts = counts_of count ran;
        each = counts_are counted;
        place = at.place;
        part = plan_of at.at;
        before = count at.at.over.store;
        at = subst (λ (plans : List PartPlan). slice_get plans at.place ≡ Some (plan_of at.at))
            (lent.kept.plans ∙ lent.planned) (at_map (λ x. plan_of x) ran at.place at.at at.is_at);
        count_at = counted_at at.place at.at at.is_at;
        stood = stood_each parts ran closed lent.kept.plans lent.plans
            (recursion_from_All (Began tells holds old) parts lent.began) lent.kept.told lent.read
            (recursion_from_All (PartCameBack tells holds new) closed lent.back) at.place at.at
            at.is_at;
        by_counts =
            raised_all ∙ same_end (faults old) (faults_of count ran) (faults_of count closed) more
            ∙ ap (λ (n : ℕ). raised_by (faults old) (n + 1)) (sym (sum_is count ran));
        by_failures =
            rose_by (failed_commits fates + 1) (faults_of count parts) (faults_of count closed)
            (faults old) (faults new)
            (with_one (failed_commits fates) (faults_of count parts) (faults_of count ran)
            (faults_of count closed) failed more) raised_all;
      }

  -- a bad cell broke the last commit off
  pub counted_broken : AllButLastAreCounted count fates parts ran
      → RoseBySum (failed_commits fates) (faults_of count parts) (faults_of count ran)
      → SameCounts count ran closed
      → FaultsBeforeBadCell t (maker_use tells count holds made faults old new) fates
  counted_broken counted failed same =
      let all : faults_of count closed ≡ faults_of count ran = same_sum count ran closed same in
      let is : faults new ≡ raised_by (faults old) (faults_of count ran) =
      subst (λ (n : ℕ). faults new ≡ raised_by (faults old) n) all raised_all in
      let broken = broken_off tells count fates parts ran
      (recursion_from_All (HasNotFailed count) parts lent.no_fault) counted in
      record {
        counts = broken.counts;
        each = subst
            (λ (plans : List PartPlan).
            AllZip
            (λ (part : PartPlan) (high : ℕ). CountsRun part.component part.part 0 fates high)
            plans broken.counts)
            lent.planned broken.each;
        ends = counts_of count ran;
        once_at_most = broken.once_at_most;
        by_counts =
            subst (λ (n : ℕ). faults new ≡ raised_by (faults old) n) (sym (sum_is count ran)) is;
        by_failures =
            rose_by (failed_commits fates) (faults_of count parts) (faults_of count ran)
            (faults old) (faults new) failed is;
      }
