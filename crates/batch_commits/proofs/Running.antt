-- Counts that went along the ends of some attempts go on along those of others, and rise by as many as commits failed.
use Rattle.std.proofs.Common.{◌≡◌, ◌+◌, ◌*◌, ◌-◌, ◌^◌, ◌≤◌, ◌<◌, ◌⊎◌, inl, inr, ◌==◌, ◌&&◌, Bool, true, false, ℕ, suc, cond, List, [], ◌∷◌, ◌++◌, All, length, refl, sym, ap, subst, ◌∙◌, arith}
use Rattle.std.proofs.lemmas.Bool.{cases_lt, eq-eqb}
use Rattle.std.proofs.lemmas.List.Elements.{All-head, All-tail}
use Rattle.attempt_fates.specs.declared.fates.Attempt.{Attempt}
use Rattle.attempt_fates.specs.declared.fates.End.{End}
use Rattle.attempt_fates.specs.declared.fates.End.TheVariants as end
use Rattle.batch_commits.specs.Standing.{AllButLastAreCounted, CountStep, CountsRun, FailsAtOneOf, FailuresAreCounted, RoseByFailures, failed_commits}
use Rattle.attempt_fates.specs.Fates.{is_failed_commit}
use Rattle.state_parts.specs.Commits.{FailOnceAtMost, FailedOnceAtMost, FailureFollows, SameCounts}
use Rattle.state_parts.specs.declared.parts.StatePart.{StatePart}
use Rattle.state_parts.specs.Makers.{RoseBySum, faults_of}
use Rattle.state_parts.specs.PartPlans.{IsOneOf, PartPlan, plan_of, plans_of}
use Rattle.tuple_account.specs.storm_values.Counts.{raised}
use Rattle.batch_commits.proofs.Turning.{failed_of}

-- ---- counts run on

runs_on : (c p low mid high : ℕ) (xs ys : List Attempt) → CountsRun c p low xs mid → CountsRun c p mid ys high → CountsRun c p low (xs ++ ys) high
runs_on c p low mid high [] ys first then = subst (λ (n : ℕ). CountsRun c p n ys high) (sym first) then
runs_on c p low mid high (x ∷ xs) ys first then = (first.0, first.1, runs_on c p first.0 mid high xs ys first.2 then)

-- how many commits failed where one more attempt came to this end
abbrev failed_with : End → Attempt → List Attempt → ℕ
failed_with e x xs = length (cond (is_failed_commit e) (x ∷ failed_of xs) (failed_of xs))

-- where no commit failed a count stays
pub runs_quiet : (c p low : ℕ) (xs : List Attempt) → failed_commits xs ≡ 0 → CountsRun c p low xs low
runs_quiet c p low [] none = refl
runs_quiet c p low (x ∷ xs) none = at (λ few. runs_quiet c p low xs few) x.end none
  where
    at : (failed_commits xs ≡ 0 → CountsRun c p low xs low) → (e : End) → failed_with e x xs ≡ 0
        → (mid : ℕ) × CountStep c p e low mid × CountsRun c p mid xs low
    at rest (end.Committed list) few = (low, refl, rest few)
    at rest (end.Failed path) few = (low, refl, rest few)
    at rest end.TimedOut few = (low, refl, rest few)
    at rest (end.Coincided list) few = (low, refl, rest few)
    at rest (end.CommitFailed component part before after) few = absurd (omega arith)
    at rest (end.Dropped by) few = (low, refl, rest few)

stays_quiet : (c p low high : ℕ) (xs : List Attempt) → failed_commits xs ≡ 0 → CountsRun c p low xs high → high ≡ low
stays_quiet c p low high [] none run = sym run
stays_quiet c p low high (x ∷ xs) none run = at (λ few. stays_quiet c p run.0 high xs few run.2) x.end none run.1
  where
    at : (failed_commits xs ≡ 0 → high ≡ run.0) → (e : End) → failed_with e x xs ≡ 0 → CountStep c p e low run.0 → high ≡ low
    at rest (end.Committed list) few step = rest few ∙ step
    at rest (end.Failed path) few step = rest few ∙ step
    at rest end.TimedOut few step = rest few ∙ step
    at rest (end.Coincided list) few step = rest few ∙ step
    at rest (end.CommitFailed component part before after) few step = absurd (omega arith)
    at rest (end.Dropped by) few step = rest few ∙ step

module _ {S : Type 0} (count : S → ℕ) where
  part_runs_on : (us vs : List Attempt) (x y : StatePart S) (high : ℕ) → plan_of y ≡ plan_of x → CountsRun x.component x.part (count x.over.store) us (count y.over.store)
      → CountsRun y.component y.part (count y.over.store) vs high → CountsRun x.component x.part (count x.over.store) (us ++ vs) high
  part_runs_on us vs x y high same first then =
      runs_on x.component x.part (count x.over.store) (count y.over.store) high us vs first
      (subst (λ (p : PartPlan). CountsRun p.component p.part (count y.over.store) vs high) same then)

  pub counted_on : (us vs : List Attempt) (a b c : List (StatePart S)) → plans_of b ≡ plans_of a → FailuresAreCounted count us a b → FailuresAreCounted count vs b c → FailuresAreCounted count (us ++ vs) a c
  counted_on us vs [] [] [] same first then = tt
  counted_on us vs [] [] (z ∷ zs) same first then = absurd then
  counted_on us vs [] (y ∷ ys) c same first then = absurd first
  counted_on us vs (x ∷ xs) [] c same first then = absurd first
  counted_on us vs (x ∷ xs) (y ∷ ys) [] same first then = absurd then
  counted_on us vs (x ∷ xs) (y ∷ ys) (z ∷ zs) same first then =
      let plan : plan_of y ≡ plan_of x = cc in
      let plans : plans_of ys ≡ plans_of xs = cc in
      (part_runs_on us vs x y (count z.over.store) plan first.0 then.0, counted_on us vs xs ys zs plans first.1 then.1)

  pub none_counted : (parts : List (StatePart S)) → FailuresAreCounted count [] parts parts
  none_counted [] = tt
  none_counted (x ∷ xs) = (refl, none_counted xs)

  pub quiet_counted : (us : List Attempt) (parts : List (StatePart S)) → failed_commits us ≡ 0 → FailuresAreCounted count us parts parts
  quiet_counted us [] none = tt
  quiet_counted us (x ∷ xs) none = (runs_quiet x.component x.part (count x.over.store) us none, quiet_counted us xs none)

  pub same_counted : (us : List Attempt) (a b : List (StatePart S)) → failed_commits us ≡ 0 → FailuresAreCounted count us a b → SameCounts count a b
  same_counted us [] [] none counted = tt
  same_counted us [] (y ∷ ys) none counted = absurd counted
  same_counted us (x ∷ xs) [] none counted = absurd counted
  same_counted us (x ∷ xs) (y ∷ ys) none counted =
      (stays_quiet x.component x.part (count x.over.store) (count y.over.store) us none counted.0, same_counted us xs ys none counted.1)

  -- ---- a last commit

  pub last_counted : (us : List Attempt) (a b c : List (StatePart S)) → FailuresAreCounted count us a b → FailOnceAtMost count b c → AllButLastAreCounted count us a c
  last_counted us [] [] [] first last = tt
  last_counted us [] [] (z ∷ zs) first last = absurd last
  last_counted us [] (y ∷ ys) c first last = absurd first
  last_counted us (x ∷ xs) [] c first last = absurd first
  last_counted us (x ∷ xs) (y ∷ ys) [] first last = absurd last
  last_counted us (x ∷ xs) (y ∷ ys) (z ∷ zs) first last = ((count y.over.store, first.0, last.0), last_counted us xs ys zs first.1 last.1)

  pub last_on : (us vs : List Attempt) (a b c : List (StatePart S)) → plans_of b ≡ plans_of a → FailuresAreCounted count us a b → AllButLastAreCounted count vs b c → AllButLastAreCounted count (us ++ vs) a c
  last_on us vs [] [] [] same first then = tt
  last_on us vs [] [] (z ∷ zs) same first then = absurd then
  last_on us vs [] (y ∷ ys) c same first then = absurd first
  last_on us vs (x ∷ xs) [] c same first then = absurd first
  last_on us vs (x ∷ xs) (y ∷ ys) [] same first then = absurd then
  last_on us vs (x ∷ xs) (y ∷ ys) (z ∷ zs) same first then =
      let plan : plan_of y ≡ plan_of x = cc in
      let plans : plans_of ys ≡ plans_of xs = cc in
      ((then.0.0, part_runs_on us vs x y then.0.0 plan first.0 then.0.1, then.0.2), last_on us vs xs ys zs plans first.1 then.1)

  pub told_counted : (us : List Attempt) (a b : List (StatePart S)) → FailuresAreCounted count us a b → AllButLastAreCounted count us a b
  told_counted us [] [] counted = tt
  told_counted us [] (y ∷ ys) counted = absurd counted
  told_counted us (x ∷ xs) [] counted = absurd counted
  told_counted us (x ∷ xs) (y ∷ ys) counted = ((count y.over.store, counted.0, inl refl), told_counted us xs ys counted.1)

-- ---- as many as commits failed

-- how many commits are told to have failed at a part
own_of : (c p : ℕ) → End → ℕ
own_of c p (end.Committed list) = 0
own_of c p (end.Failed path) = 0
own_of c p end.TimedOut = 0
own_of c p (end.Coincided list) = 0
own_of c p (end.CommitFailed component part before after) = cond ((component == c) && (part == p)) 1 0
own_of c p (end.Dropped by) = 0

owns_of : (c p : ℕ) → List Attempt → ℕ
owns_of c p [] = 0
owns_of c p (x ∷ xs) = own_of c p x.end + owns_of c p xs

-- What a walk along the ends of attempts makes of a count that has not passed its end.
record Walked (own failed low high : ℕ) : Type 0 where
  least : RoseBySum own low high
  most : high ≤ low + failed
  up : low ≤ high
  within : high ≤ 2 ^ 64 - 1

walked_none : (low high : ℕ) → low ≡ high → low ≤ 2 ^ 64 - 1 → Walked 0 0 low high
walked_none low high same ends = record { least = inl (omega arith); most = omega arith; up = omega arith; within = omega arith }

least_none : (own low high : ℕ) → RoseBySum own low high → RoseBySum (0 + own) low high
least_none own low high (inl rose) = inl (omega arith)
least_none own low high (inr full) = inr full

-- a step that leaves the count
walked_still : (own failed low mid high : ℕ) → mid ≡ low → Walked own failed mid high → Walked (0 + own) failed low high
walked_still own failed low mid high same rest =
    let there = subst (λ (n : ℕ). Walked own failed n high) same rest in
    record { least = least_none own low high there.least; most = there.most; up = there.up; within = there.within }

-- a commit failed, at this part or at another one
least_more : (own low mid high : ℕ) → mid ≡ raised low → mid ≤ high → RoseBySum own mid high → RoseBySum (1 + own) low high
least_more own low mid high is up (inl rose) = at (cases_lt low (2 ^ 64 - 1))
  where
    at : (low < 2 ^ 64 - 1) ⊎ (2 ^ 64 - 1 ≤ low) → RoseBySum (1 + own) low high
    at (inl room) = inl (omega arith)
    at (inr full) = inr (omega arith)
least_more own low mid high is up (inr full) = inr full

least_other : (own low mid high : ℕ) → low ≤ mid → RoseBySum own mid high → RoseBySum own low high
least_other own low mid high up (inl rose) = inl (omega arith)
least_other own low mid high up (inr full) = inr full

raised_up : (low mid : ℕ) → low ≤ 2 ^ 64 - 1 → mid ≡ raised low → (low ≤ mid) × (mid ≤ low + 1) × (mid ≤ 2 ^ 64 - 1)
raised_up low mid ends is = (omega arith, omega arith, omega arith)

once_up : (low mid : ℕ) → low ≤ 2 ^ 64 - 1 → FailedOnceAtMost low mid → (low ≤ mid) × (mid ≤ low + 1) × (mid ≤ 2 ^ 64 - 1)
once_up low mid ends (inl same) = (omega arith, omega arith, omega arith)
once_up low mid ends (inr is) = raised_up low mid ends is

-- the count after a step that told of a failed commit
failed_up : (own : Bool) (before after low mid : ℕ) → low ≤ 2 ^ 64 - 1 → FailureFollows own before after low mid → (low ≤ mid) × (mid ≤ low + 1) × (mid ≤ 2 ^ 64 - 1)
failed_up true before after low mid ends step = raised_up low mid ends (step.1 ∙ step.2 ∙ ap raised (sym step.0))
failed_up false before after low mid ends step = once_up low mid ends step

walked_failed : (own : Bool) (before after rest failed low mid high : ℕ) → low ≤ 2 ^ 64 - 1 → FailureFollows own before after low mid → Walked rest failed mid high → Walked (cond own 1 0 + rest) (suc failed) low high
walked_failed own before after rest failed low mid high ends step walked =
    let up = failed_up own before after low mid ends step in
    let a = up.0 in
    let b = up.1 in
    let c = walked.most in
    let d = walked.up in
    record { least = at own step; most = omega arith; up = omega arith; within = walked.within }
  where
    at : (b : Bool) → FailureFollows b before after low mid → RoseBySum (cond b 1 0 + rest) low high
    at true told = least_more rest low mid high (told.1 ∙ told.2 ∙ ap raised (sym told.0)) walked.up walked.least
    at false told = least_none rest low high (least_other rest low mid high (once_up low mid ends told).0 walked.least)

walk : (c p low high : ℕ) (xs : List Attempt) → low ≤ 2 ^ 64 - 1 → CountsRun c p low xs high → Walked (owns_of c p xs) (failed_commits xs) low high
unfolding own_of owns_of
walk c p low high [] ends run = walked_none low high run ends
walk c p low high (x ∷ xs) ends run = at (λ fits. walk c p run.0 high xs fits run.2) x.end run.1
  where
    stays : (run.0 ≤ 2 ^ 64 - 1 → Walked (owns_of c p xs) (failed_commits xs) run.0 high) → run.0 ≡ low
        → Walked (0 + owns_of c p xs) (failed_commits xs) low high
    stays rest step =
        walked_still (owns_of c p xs) (failed_commits xs) low run.0 high step (rest (subst (λ (n : ℕ). n ≤ 2 ^ 64 - 1) (sym step) ends))

    at : (run.0 ≤ 2 ^ 64 - 1 → Walked (owns_of c p xs) (failed_commits xs) run.0 high) → (e : End) → CountStep c p e low run.0
        → Walked (own_of c p e + owns_of c p xs) (failed_with e x xs) low high
    at rest (end.Committed list) step = stays rest step
    at rest (end.Failed path) step = stays rest step
    at rest end.TimedOut step = stays rest step
    at rest (end.Coincided list) step = stays rest step
    at rest (end.CommitFailed component part before after) step =
        let up = failed_up ((component == c) && (part == p)) before after low run.0 ends step in
        walked_failed ((component == c) && (part == p)) before after (owns_of c p xs) (failed_commits xs) low run.0 high ends step (rest up.2)
    at rest (end.Dropped by) step = stays rest step

-- how many failures are told of these parts
told_of : List PartPlan → List Attempt → ℕ
told_of [] fates = 0
told_of (p ∷ ps) fates = owns_of p.component p.part fates + told_of ps fates

told_end : List PartPlan → End → ℕ
told_end [] e = 0
told_end (p ∷ ps) e = own_of p.component p.part e + told_end ps e

told_more : (ps : List PartPlan) (x : Attempt) (xs : List Attempt) → told_of ps (x ∷ xs) ≡ told_end ps x.end + told_of ps xs
unfolding told_of told_end owns_of
told_more [] x xs = refl
told_more (p ∷ ps) x xs = let rest = told_more ps x xs in omega arith

own_here : (c p before after component part : ℕ) → c ≡ component → p ≡ part → own_of component part (end.CommitFailed c p before after) ≡ 1
unfolding own_of
own_here c p before after component part one two =
    let a = eq-eqb c component one in
    let b = eq-eqb p part two in
    rw (a, b) refl

told_one : (ps : List PartPlan) (c p before after : ℕ) → IsOneOf ps c p → 1 ≤ told_end ps (end.CommitFailed c p before after)
unfolding told_end
told_one [] c p before after one = absurd one
told_one (q ∷ ps) c p before after (inl here) = let own = own_here c p before after q.component q.part here.0 here.1 in omega arith
told_one (q ∷ ps) c p before after (inr later) = let rest = told_one ps c p before after later in omega arith

-- each commit that failed is told of one of the parts at least
few_failed : (ps : List PartPlan) (xs : List Attempt) → All (FailsAtOneOf ps) xs → failed_commits xs ≤ told_of ps xs
few_failed ps [] all = omega arith
few_failed ps (x ∷ xs) all = at x.end refl (few_failed ps xs (All-tail (FailsAtOneOf ps) x xs all))
  where
    at : (e : End) → x.end ≡ e → failed_commits xs ≤ told_of ps xs → failed_with e x xs ≤ told_of ps (x ∷ xs)
    at (end.Committed list) is rest = let more = told_more ps x xs in omega arith
    at (end.Failed path) is rest = let more = told_more ps x xs in omega arith
    at end.TimedOut is rest = let more = told_more ps x xs in omega arith
    at (end.Coincided list) is rest = let more = told_more ps x xs in omega arith
    at (end.CommitFailed c p before after) is rest =
        let more = told_more ps x xs in
        let one = told_one ps c p before after (All-head (FailsAtOneOf ps) x xs all c p before after is) in
        let here : told_end ps x.end ≡ told_end ps (end.CommitFailed c p before after) = ap (told_end ps) is in
        omega arith
    at (end.Dropped by) is rest = let more = told_more ps x xs in omega arith

both_sum : (s r a b c d : ℕ) → RoseBySum s a b → RoseBySum r c d → RoseBySum (s + r) (a + c) (b + d)
both_sum s r a b c d (inl one) (inl two) = inl (omega arith)
both_sum s r a b c d (inl one) (inr end) = inr (omega arith)
both_sum s r a b c d (inr end) two = inr (omega arith)

fewer_sum : (few many a b : ℕ) → few ≤ many → RoseBySum many a b → RoseBySum few a b
fewer_sum few many a b less (inl rose) = inl (omega arith)
fewer_sum few many a b less (inr end) = inr end

-- one failure more at most takes nothing away
once_more : (own low mid high : ℕ) → RoseBySum own low mid → FailedOnceAtMost mid high → RoseBySum own low high
once_more own low mid high rose (inl same) = subst (RoseBySum own low) (sym same) rose
once_more own low mid high rose (inr up) = by rose (cases_lt mid (2 ^ 64 - 1))
  where
    by : RoseBySum own low mid → (mid < 2 ^ 64 - 1) ⊎ (2 ^ 64 - 1 ≤ mid) → RoseBySum own low high
    by (inl more) (inl less) = inl (omega (arith, up))
    by (inr end) (inl less) = absurd (omega arith)
    by either (inr most) = inr (omega (arith, up))

-- what all counts come to
record Summed (told parts failed before after : ℕ) : Type 0 where
  least : RoseBySum told before after
  most : after ≤ before + failed * parts
  up : before ≤ after

one_more_part : (own told parts failed low high before after : ℕ) → Walked own failed low high → Summed told parts failed before after → Summed (own + told) (suc parts) failed (low + before) (high + after)
one_more_part own told parts failed low high before after walked summed =
    let a = walked.most in
    let b = summed.most in
    let c = walked.up in
    let d = summed.up in
    let e : failed * suc parts ≡ failed + failed * parts = omega arith in
    record { least = both_sum own told low high before after walked.least summed.least; most = omega arith; up = omega arith }

-- where nothing failed nothing rose
none_rose : (parts failed before after : ℕ) → after ≤ before + failed * parts → before ≤ after → failed ≡ 0 → after ≡ before
none_rose parts failed before after most up none =
    let flat : after ≤ before + 0 * parts = subst (λ (n : ℕ). after ≤ before + n * parts) none most in
    omega arith

module _ {S : Type 0} (count : S → ℕ) (ends : (s : S) → count s ≤ 2 ^ 64 - 1) where
  parts_sum : (xs : List Attempt) (a b : List (StatePart S)) → FailuresAreCounted count xs a b → Summed (told_of (plans_of a) xs) (length a) (failed_commits xs) (faults_of count a) (faults_of count b)
  unfolding told_of
  parts_sum xs [] [] counted = record { least = inl (omega arith); most = omega arith; up = omega arith }
  parts_sum xs [] (y ∷ ys) counted = absurd counted
  parts_sum xs (x ∷ olds) [] counted = absurd counted
  parts_sum xs (x ∷ olds) (y ∷ ys) counted =
      one_more_part (owns_of x.component x.part xs) (told_of (plans_of olds) xs) (length olds) (failed_commits xs) (count x.over.store) (count y.over.store) (faults_of count olds) (faults_of count ys)
      (walk x.component x.part (count x.over.store) (count y.over.store) xs (ends x.over.store) counted.0) (parts_sum xs olds ys counted.1)

  pub failed_sum : (xs : List Attempt) (a b : List (StatePart S)) → All (FailsAtOneOf (plans_of a)) xs → FailuresAreCounted count xs a b → RoseByFailures (length a) (failed_commits xs) (faults_of count a) (faults_of count b)
  failed_sum xs a b all counted =
      let sum = parts_sum xs a b counted in record {
        at_least = fewer_sum (failed_commits xs) (told_of (plans_of a) xs) (faults_of count a) (faults_of count b) (few_failed (plans_of a) xs all) sum.least;
        at_most = sum.most;
        never_falls = sum.up;
        none = none_rose (length a) (failed_commits xs) (faults_of count a) (faults_of count b) sum.most sum.up;
      }

  last_parts : (xs : List Attempt) (a b : List (StatePart S)) → AllButLastAreCounted count xs a b → RoseBySum (told_of (plans_of a) xs) (faults_of count a) (faults_of count b)
  unfolding told_of
  last_parts xs [] [] counted = inl (omega arith)
  last_parts xs [] (y ∷ ys) counted = absurd counted
  last_parts xs (x ∷ olds) [] counted = absurd counted
  last_parts xs (x ∷ olds) (y ∷ ys) counted =
      let walked = walk x.component x.part (count x.over.store) counted.0.0 xs (ends x.over.store) counted.0.1 in
      both_sum (owns_of x.component x.part xs) (told_of (plans_of olds) xs) (count x.over.store) (count y.over.store) (faults_of count olds) (faults_of count ys)
      (once_more (owns_of x.component x.part xs) (count x.over.store) counted.0.0 (count y.over.store) walked.least counted.0.2) (last_parts xs olds ys counted.1)

  -- with a last commit that no fate tells the counts rose by one at least for each that is told
  pub last_sum : (xs : List Attempt) (a b : List (StatePart S)) → All (FailsAtOneOf (plans_of a)) xs → AllButLastAreCounted count xs a b → RoseBySum (failed_commits xs) (faults_of count a) (faults_of count b)
  last_sum xs a b all counted =
      fewer_sum (failed_commits xs) (told_of (plans_of a) xs) (faults_of count a) (faults_of count b) (few_failed (plans_of a) xs all) (last_parts xs a b counted)
