-- Where a run of which nothing is lost is over, every batch is committed: the last attempt of a
-- transaction does not end without a commit, and with partitions none does.
use Rattle.std.proofs.Common.{◌≡◌, ◌≢◌, ◌<◌, ◌≤◌, inl, inr, ℕ, zero, suc, ◌+◌, ◌-◌, ◌==◌, ◌&&◌, nat_lt, Bool, true, false, cond, List, [], ◌∷◌, length, get_or, filter, slice_get, Option, None, Some, refl, sym, ap, subst, ◌∙◌, arith, eq-eqb}
use Rattle.std.specs.Prelude.{All, is_some}
use Rattle.std.specs.List.{AllByRecursion, range_with_len}
use Rattle.std.specs.Option.{option_map_or}
use Rattle.std.proofs.lemmas.Bool.{cases_lt, ltb-false, ltb-true}
use Rattle.std.proofs.lemmas.List.Elements.{All-from_recursion, recursion_from_All}
use Rattle.std.proofs.lemmas.Option.{slice_get-get_or, slice_get_past}
use Rattle.event_worlds.specs.attempt_fates.declared.fates.Attempt.{Attempt}
use Rattle.event_worlds.specs.attempt_fates.declared.fates.End.{End}
use Rattle.event_worlds.specs.attempt_fates.declared.fates.End.TheVariants as end
use Rattle.event_worlds.specs.attempt_fates.Fates.{aborts_of, attempt_numbers, is_abort, is_failed_commit}
use Rattle.event_worlds.specs.bolt_ops.Operations.{fails_at, is_mute_at, out}
use Rattle.event_worlds.specs.bolt_ops.RowOp.{Custom}
use Rattle.event_worlds.specs.bolt_ops.declared.operation.Outcome.TheVariants as outcome
use Rattle.event_worlds.specs.commit_turns.Account.{ended_of, ending_of, rows_at}
use Rattle.event_worlds.specs.counted_items.Weights.{weigh}
use Rattle.event_worlds.specs.commit_turns.Turns.{is_finished}
use Rattle.event_worlds.proofs.counted_items.Each.{each-both, each-weaker}
use Rattle.event_worlds.proofs.counted_items.Weighing.{each-weighs, weigh-le_each, weigh-map}
use Rattle.event_worlds.specs.Accounted.{station_of, IsCausedEnd, IsInput}
use Rattle.event_worlds.specs.Worlds.{Known, is_over}
use Rattle.event_worlds.specs.storm_values.declared.value.Value.{Value}
use Rattle.event_worlds.specs.topology_plan.declared.parts.Body.{Body}
use Rattle.event_worlds.specs.topology_plan.declared.parts.Body.TheVariants.{Bolt, State}
use Rattle.event_worlds.specs.topology_plan.declared.parts.Component.{Component}
use Rattle.event_worlds.specs.topology_plan.declared.parts.Op.{Op}
use Rattle.event_worlds.specs.topology_plan.Topology.{Topology}
use Rattle.event_worlds.specs.tree_model.Courses.{course_at, course_by, course_of}
use Rattle.event_worlds.specs.tree_model.Trees.{Node}
use Rattle.event_worlds.specs.taken_records.Cuts.{Cut}
use Rattle.event_worlds.specs.tuple_account.Ends.{CauseBy}
use Rattle.event_worlds.specs.tuple_account.Histories.{History}
use Rattle.event_worlds.proofs.Ending.{own-causes}
use Rattle.event_worlds.specs.tuple_tickets.Trees.{fails, goes, mute}
use Rattle.event_worlds.specs.Rounds.{CanFinish, DoesNotCoincide, EndsByBody, EndsByOp}
use Rattle.world_progress.specs.Lasting.{IsFine, Lasting, NoneAborted}
use Rattle.world_progress.proofs.Resting.{at_first, at_last}
use Rattle.world_progress.proofs.Tallying.{filter-weighs}

-- ---- lists

weigh-filter : {X : Type 0} (test : X → Bool) (f : X → ℕ) (xs : List X) → weigh (λ (x : X). cond (test x) (f x) 0) xs ≡ weigh f (filter test xs)
weigh-filter test f [] = refl
weigh-filter test f (x ∷ xs) = by (test x) (weigh-filter test f xs)
  where
    by : (b : Bool) → weigh (λ (y : _). cond (test y) (f y) 0) xs ≡ weigh f (filter test xs)
        → cond b (f x) 0 + weigh (λ (y : _). cond (test y) (f y) 0) xs ≡ weigh f (cond b (x ∷ filter test xs) (filter test xs))
    by true rest = omega arith
    by false rest = omega arith

-- of the numbers from one on few lie below a bound
abbrev below : ℕ → ℕ → ℕ
below most n = cond (nat_lt n most) 1 0

few_below : (most a n : ℕ) → a ≤ most → weigh (below most) (range_with_len a n) ≤ most - a
few_below most a zero low = omega arith
few_below most a (suc n) low =
    elim (cases_lt a most) [
      | inl less ↦ (let r = few_below most (a + 1) n (omega arith) in let o = at_most (nat_lt a most) in omega arith)
      | inr last ↦ (let z = none_below most a (suc n) last in omega arith)
    ]
  where
    at_most : (b : Bool) → cond {A = ℕ} b 1 0 ≤ 1
    at_most true = omega arith
    at_most false = omega arith

    none_below : (most a n : ℕ) → most ≤ a → weigh (below most) (range_with_len a n) ≡ 0
    none_below most a zero past = refl
    none_below most a (suc n) past = by (nat_lt a most) refl (none_below most (a + 1) n (omega arith))
      where
        by : (b : Bool) → nat_lt a most ≡ b → weigh (below most) (range_with_len (a + 1) n) ≡ 0 → cond {A = ℕ} b 1 0 + weigh (below most)
            (range_with_len (a + 1) n) ≡ 0
        by true less rest = let l = ltb-true a most less in absurd (omega arith)
        by false not_less rest = omega arith

-- ---- attempts that do not fail

goes_fails : goes ≡ fails → ⊥
goes_fails e = cc

mute_fails : mute ≡ fails → ⊥
mute_fails e = cc

-- no operation fails at an attempt
abbrev AllPass : Topology → ℕ → Type 0
AllPass t attempt = (o : Op) → EndsByOp t o → fails_at o attempt ≡ false

body_passes : (t : Topology) (custom : Custom) (body : Body) (row : List Value) (attempt : ℕ) → AllPass t attempt → EndsByBody t body
    → course_by custom body row attempt ≢ fails
body_passes t custom (State spec) row attempt pass ends = goes_fails
body_passes t custom (Bolt o) row attempt pass ends = by (fails_at o attempt) (is_mute_at o attempt) (pass o ends)
  where
    by : (f m : Bool) → f ≡ false → course_of (cond f outcome.Fail (cond m outcome.Mute (outcome.Rows (out custom o row)))) ≢ fails
    by false true off = mute_fails
    by false false off = goes_fails
    by true m off = absurd (never off)
      where
        never : true ≡ false → ⊥
        never e = cc

passes : (t : Topology) (custom : Custom) → CanFinish t → (attempt : ℕ) (node : Node) → AllPass t attempt → course_at t custom attempt node ≢ fails
passes t custom can attempt node pass = by t.components can
  where
    by : (cs : List Component) → All (λ (x : Component). EndsByBody t x.body) cs → option_map_or (λ (x : Component). course_by custom x.body node.row attempt) (slice_get cs node.component) mute ≢ fails
    by [] all = mute_fails
    by (x ∷ xs) all =
        elim (cases_lt node.component (length (x ∷ xs))) [
          | inl below ↦ subst (λ (o : Option Component). option_map_or (λ (y : Component). course_by custom y.body node.row attempt) o mute ≢ fails) (sym (slice_get-get_or (x ∷ xs) node.component x below))
              (body_passes t custom (get_or (x ∷ xs) node.component x).body node.row attempt pass (all node.component x below))
          | inr past ↦ subst (λ (o : Option Component). option_map_or (λ (y : Component). course_by custom y.body node.row attempt) o mute ≢ fails) (sym (slice_get_past (x ∷ xs) node.component past)) mute_fails
        ]

-- ---- no transaction runs out of attempts

module _ (t : Topology) (custom : Custom) (cut : Cut) (words : ℕ → ℕ → ℕ) (input : IsInput t cut) (can : CanFinish t) (h : History) (k : Known) (last : Lasting t custom cut words h k) (short : k.world.tick < t.buckets)
    (apart : All DoesNotCoincide k.world.fates) where
  record MayBeLast (a : Attempt) : Type 0 where
    cause : IsCausedEnd t custom cut k.world.desk.tick a
    fine : IsFine a
    own : DoesNotCoincide a

  fates_are : AllByRecursion MayBeLast k.world.fates
  fates_are =
      each-weaker (λ (a : Attempt). (IsCausedEnd t custom cut k.world.desk.tick a × IsFine a) × DoesNotCoincide a) MayBeLast
      (λ a is. record { cause = is.0.0; fine = is.0.1; own = is.1 }) k.world.fates
      (each-both (λ (a : Attempt). IsCausedEnd t custom cut k.world.desk.tick a × IsFine a) DoesNotCoincide k.world.fates
      (each-both (IsCausedEnd t custom cut k.world.desk.tick) IsFine k.world.fates (own-causes t custom cut words input h k (station_of k) last.led) last.fine)
      (recursion_from_All DoesNotCoincide k.world.fates apart))

  -- from this number on no attempt fails
  module _ (least : ℕ) (some : 1 ≤ least) (pass : (attempt : ℕ) → least ≤ attempt → AllPass t attempt) where
    -- an attempt aborts only below it
    not_last : (a : Attempt) → MayBeLast a → is_abort a.end ≡ true → least ≤ a.root.attempt → ⊥
    not_last a is aborts enough = by a.end refl is.cause is.fine aborts
      where
        never : true ≡ false → ⊥
        never e = cc

        by : (e : End) → a.end ≡ e → CauseBy t custom (rows_at cut a.spans) k.world.desk.tick (ended_of a) (ending_of e) → is_failed_commit e ≡ false
            → is_abort e ≡ true → ⊥
        by (end.Committed list) same cause fine abort = never (sym abort)
        by (end.Failed path) same cause fine abort = passes t custom can a.root.attempt cause.0 (pass a.root.attempt enough) cause.2
        by end.TimedOut same cause fine abort = let x = cause.0 in let y = cause.1 in let z = last.led.ticks in absurd (omega arith)
        by (end.Coincided list) same cause fine abort = is.own list same
        by (end.CommitFailed component part before after) same cause fine abort = never fine
        by (end.Dropped other) same cause fine abort = never (sym abort)

    -- fewer attempts of a transaction abort
    few_abort : (txid : ℕ) → aborts_of txid k.world.fates < least
    few_abort txid =
        let fates = k.world.fates in
        let f = filter-weighs (λ (a : Attempt). (a.root.txid == txid) && is_abort a.end) fates in
        let l = weigh-le_each (λ (a : Attempt). cond {A = ℕ} ((a.root.txid == txid) && is_abort a.end) 1 0)
        (λ (a : Attempt). cond (a.root.txid == txid) (below least a.root.attempt) 0) MayBeLast
        (λ a is. one a is (a.root.txid == txid) (is_abort a.end) (nat_lt a.root.attempt least) refl refl) fates fates_are in
        let g = weigh-filter (λ (a : Attempt). a.root.txid == txid) (λ (a : Attempt). below least a.root.attempt) fates in
        let m = weigh-map (below least) (λ (a : Attempt). a.root.attempt) (filter (λ (a : Attempt). a.root.txid == txid) fates) in
        let e = ap (weigh (below least)) (last.led.kept.once.numbered txid) in
        let b = few_below least 1 (length (attempt_numbers txid fates)) some in omega arith
      where
        one : (a : Attempt) → MayBeLast a → (x y z : Bool) → is_abort a.end ≡ y → nat_lt a.root.attempt least ≡ z
            → cond {A = ℕ} (x && y) 1 0 ≤ cond x (cond {A = ℕ} z 1 0) 0
        one a is false y z abort less = omega arith
        one a is true false true abort less = omega arith
        one a is true false false abort less = omega arith
        one a is true true true abort less = omega arith
        one a is true true false abort less = let n = ltb-false a.root.attempt least less in absurd (not_last a is abort n)

  never_out : (txid : ℕ) → k.world.desk.exhausted ≡ Some txid → ⊥
  never_out txid out =
      let r = last.led.kept.ran_out txid out in
      let f = few_abort t.attempts input.valid.attempts.0 (λ attempt enough o ends. at_last t o attempt enough ends) txid in
      let e = r.0 in absurd (omega arith)

  -- with partitions none aborts
  pub none_aborts : NoneAborted cut k.world.fates
  none_aborts some =
      All-from_recursion (λ (a : Attempt). is_abort a.end ≡ false) k.world.fates
      (each-weaker (λ (a : Attempt). (f : Attempt → ℕ) → f a ≤ weigh f k.world.fates) (λ (a : Attempt). is_abort a.end ≡ false) one k.world.fates
      (each-weighs k.world.fates))
    where
      partitioned : 0 < t.partitions
      partitioned = let e = input.partitions in omega (arith, some, e)

      one : (a : Attempt) → ((f : Attempt → ℕ) → f a ≤ weigh f k.world.fates) → is_abort a.end ≡ false
      one a stands = by (is_abort a.end) refl
        where
          by : (b : Bool) → is_abort a.end ≡ b → b ≡ false
          by false is = refl
          by true is =
              let f = few_abort 1 (omega arith) (λ attempt first o ends. at_first t o attempt partitioned first ends) a.root.txid in
              let x = filter-weighs (λ (b : Attempt). (b.root.txid == a.root.txid) && is_abort b.end) k.world.fates in
              let w = stands (λ (b : Attempt). cond {A = ℕ} ((b.root.txid == a.root.txid) && is_abort b.end) 1 0) in
              let here : cond {A = ℕ} ((a.root.txid == a.root.txid) && is_abort a.end) 1 0 ≡ 1 =
              ap (λ (b : Bool). cond {A = ℕ} (b && is_abort a.end) 1 0) (eq-eqb a.root.txid a.root.txid refl)
              ∙ ap (λ (b : Bool). cond {A = ℕ} b 1 0) is in absurd (omega arith)

  -- what is over is finished
  pub finished : is_over t cut k.world ≡ true → is_finished t cut k.world.desk ≡ true
  finished over = by k.world.desk.exhausted refl over
    where
      by : (o : Option ℕ) → k.world.desk.exhausted ≡ o → cond (is_some o) true (is_finished t cut k.world.desk) ≡ true → is_finished t cut k.world.desk ≡ true
      by None is e = e
      by (Some txid) is e = absurd (never_out txid is)
