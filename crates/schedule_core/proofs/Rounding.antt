-- Rounds with the ticks that a source answers.
use Rattle.std.proofs.Common.{◌≡◌, ◌≤◌, ◌<◌, ℕ, zero, suc, ◌+◌, ◌-◌, ◌^◌, Bool, true, false, cond, List, [], ◌∷◌, ◌++◌, ◌==◌, All, length, map, drop, get_or, fold, refl, sym, ap, subst, ◌∙◌, append_assoc, append-nil, arith, true≢false}
use Rattle.std.specs.Prelude.{nat_le, replicate}
use Rattle.std.specs.List.{AllByRecursion, range_with_len}
use Rattle.std.proofs.lemmas.Bool.{leb-false}
use Rattle.std.proofs.lemmas.Nat.Bits.{bit_at-zero}
use Rattle.std.proofs.lemmas.List.{length-append}
use Rattle.std.proofs.lemmas.List.Elements.{All-from_recursion}
use Rattle.std.proofs.lemmas.List.FromFn.{fill_by_all, map-range_with_len_more}
use Rattle.std.proofs.lemmas.List.Sums.{fold-append}
use Rattle.event_worlds.specs.bolt_ops.RowOp.{Custom}
use Rattle.event_worlds.specs.commit_turns.Turns.{last_tick}
use Rattle.event_engine.specs.declared.engine.Engine.{Engine}
use Rattle.event_engine.specs.Engines.{Gives, Goes, HasOutcomes, shape}
use Rattle.event_engine.specs.Shutting.{shutting, shutting_steps}
use Rattle.event_worlds.proofs.counted_items.Each.{each-append}
use Rattle.event_worlds.specs.Rounds.{HasRounds, round_with, ticks_in}
use Rattle.event_worlds.specs.record_offers.Offers.{is_shut}
use Rattle.event_worlds.specs.Worlds.{Known, Step, World, coordinator_steps, of_acker, of_open, of_outcome, of_shut, of_task, of_tick, of_turn, outcomes_of, run}
use Rattle.schedule_core.proofs.Ending.{Allows}
use Rattle.schedule_core.proofs.TicksOfRuns.{run-tick, ticks-of-rounds}
use Rattle.schedule_core.specs.Rounding.{Asked, AskedShut, closing_steps}
use Rattle.schedule_core.specs.Runs.{HasRoundsOf, IsWork, first_answers, ticks_between}
use Rattle.event_worlds.specs.storm_ids.declared.ids.Ids.{Ghosts}
use Rattle.storm_ticks.specs.Ticking.{first_answer, handed_on}
use Rattle.event_worlds.specs.topology_plan.Topology.{Topology, tasks_in_all}
use Rattle.event_worlds.specs.taken_records.Cuts.{Cut}
use Rattle.world_progress.specs.Rounding.{ShutsNone}

-- ---- what a source was asked

first-is : (xs : List ℕ) → first_answer xs ≡ get_or xs 0 0
first-is [] = refl
first-is (x ∷ xs) = refl

first-there : (xs : List ℕ) (i : ℕ) → get_or (drop i xs) 0 0 ≡ get_or xs i 0
first-there [] zero = refl
first-there [] (suc i) = refl
first-there (x ∷ xs) zero = refl
first-there (x ∷ xs) (suc i) = first-there xs i

drop-next : (xs : List ℕ) (i : ℕ) → drop 1 (drop i xs) ≡ drop (suc i) xs
drop-next [] zero = refl
drop-next [] (suc i) = refl
drop-next (x ∷ xs) zero = refl
drop-next (x ∷ xs) (suc i) = drop-next xs i

-- a source that gave the first of its answers to come gave one more
module _ {T : Type 0} (telling : T → List ℕ → Type 0) (answers : List ℕ) (n : ℕ) (before mid after : T)
    (first : (xs : List ℕ) → telling before xs → answers ≡ first_answers (length answers) xs)
    (rest : (xs : List ℕ) → telling before xs → telling mid (drop (length answers) xs)) where
  more-first : ((xs : List ℕ) → telling mid xs → n ≡ get_or xs 0 0)
      → (xs : List ℕ) → telling before xs → answers ++ n ∷ [] ≡ first_answers (length (answers ++ n ∷ [])) xs
  more-first told xs is =
      let here : n ≡ get_or xs (length answers) 0 =
      told (drop (length answers) xs) (rest xs is) ∙ first-there xs (length answers) in
      (λ i. first xs is i ++ here i ∷ [])
      ∙ sym (map-range_with_len_more (λ (k : ℕ). get_or xs k 0) 0 (length answers) (length answers) (omega arith))
      ∙ ap (λ (k : ℕ). first_answers k xs) (sym (length-append answers (n ∷ [])))

  more-rest : ((xs : List ℕ) → telling mid xs → telling after (drop 1 xs))
      → (xs : List ℕ) → telling before xs → telling after (drop (length (answers ++ n ∷ [])) xs)
  more-rest tells xs is =
      let many : suc (length answers) ≡ length (answers ++ n ∷ []) =
      (let e = length-append answers (n ∷ []) in omega arith) in
      subst (telling after) (drop-next xs (length answers) ∙ ap (λ (k : ℕ). drop k xs) many)
      (tells (drop (length answers) xs) (rest xs is))

module _ {V : Type 0} (availing : V → List ℕ → Type 0) where
  pub asked_shut-none : (v : V) → AskedShut availing [] v v
  asked_shut-none v = record { first = λ to_come told. refl; rest = λ to_come told. told }

  -- it was asked once more
  pub asked_shut-more : (shuts : List ℕ) (n : ℕ) (before mid after : V) → AskedShut availing shuts before mid
      → ((xs : List ℕ) → availing mid xs → n ≡ get_or xs 0 0)
      → ((xs : List ℕ) → availing mid xs → availing after (drop 1 xs))
      → AskedShut availing (shuts ++ n ∷ []) before after
  asked_shut-more shuts n before mid after so told rest = record {
    first = more-first availing shuts n before mid after so.first so.rest told;
    rest = more-rest availing shuts n before mid after so.first so.rest rest;
  }

module _ {T : Type 0} (handed : T → ℕ) (ticking : T → List ℕ → Type 0) where
  pub asked-none : (x : T) → Asked handed ticking [] x x
  asked-none x = record {
    handed_out = refl;
    first = λ to_come told. refl;
    rest = λ to_come told. told;
  }

  -- it was asked once more
  pub asked-more : (answers : List ℕ) (n : ℕ) (before mid after : T)
      → Asked handed ticking answers before mid → handed after ≡ handed_on (handed mid) n
      → ((xs : List ℕ) → ticking mid xs → n ≡ first_answer xs)
      → ((xs : List ℕ) → ticking mid xs → ticking after (drop 1 xs))
      → Asked handed ticking (answers ++ n ∷ []) before after
  asked-more answers n before mid after so counted told rest = record {
    handed_out =
        counted ∙ ap (λ (k : ℕ). handed_on k n) so.handed_out
        ∙ sym (fold-append handed_on (handed before) answers (n ∷ []));
    first = more-first ticking answers n before mid after so.first so.rest (λ xs is. told xs is ∙ first-is xs);
    rest = more-rest ticking answers n before mid after so.first so.rest rest;
  }

-- ---- ticks of rounds

no-tasks : (xs : List ℕ) → ticks_in (map of_task xs) ≡ 0
no-tasks [] = refl
no-tasks (x ∷ xs) = no-tasks xs

no-ackers : (xs : List ℕ) → ticks_in (map of_acker xs) ≡ 0
no-ackers [] = refl
no-ackers (x ∷ xs) = no-ackers xs

all-ticks : (n : ℕ) → ticks_in (replicate n of_tick) ≡ n
all-ticks zero = refl
all-ticks (suc n) = ap (λ (k : ℕ). suc k) (all-ticks n)

ticks-of-round : (t : Topology) (n : ℕ) → ticks_in (round_with t n) ≡ n
ticks-of-round t n =
    let tasks : List Step = map of_task (range_with_len 0 (tasks_in_all t)) in
    let ackers : List Step = map of_acker (range_with_len 0 t.ackers) in
    let ticks : List Step = replicate n of_tick in
    let a = ticks-of-rounds (tasks ++ ackers ++ ticks) coordinator_steps in
    let b = ticks-of-rounds (tasks ++ ackers) ticks in
    let c = ticks-of-rounds tasks ackers in
    let d : ticks_in coordinator_steps ≡ 0 = refl in
    let e = no-tasks (range_with_len 0 (tasks_in_all t)) in
    let f = no-ackers (range_with_len 0 t.ackers) in
    let h = all-ticks n in omega arith

-- a round shuts no partition
pub open-round : (t : Topology) (n : ℕ) → AllByRecursion ShutsNone (round_with t n)
open-round t n =
    let tasks : List Step = map of_task (range_with_len 0 (tasks_in_all t)) in
    let ackers : List Step = map of_acker (range_with_len 0 t.ackers) in
    let ticks : List Step = replicate n of_tick in
    each-append ShutsNone (tasks ++ ackers ++ ticks) coordinator_steps
    (each-append ShutsNone (tasks ++ ackers) ticks
    (each-append ShutsNone tasks ackers (open-tasks (range_with_len 0 (tasks_in_all t))) (open-ackers (range_with_len 0 t.ackers))) (open-ticks n))
    (tt, (tt, tt))
  where
    open-tasks : (xs : List ℕ) → AllByRecursion ShutsNone (map of_task xs)
    open-tasks [] = tt
    open-tasks (x ∷ xs) = (tt, open-tasks xs)

    open-ackers : (xs : List ℕ) → AllByRecursion ShutsNone (map of_acker xs)
    open-ackers [] = tt
    open-ackers (x ∷ xs) = (tt, open-ackers xs)

    open-ticks : (k : ℕ) → AllByRecursion ShutsNone (replicate k of_tick)
    open-ticks zero = tt
    open-ticks (suc k) = (tt, open-ticks k)

-- ---- steps before a round

-- steps of tasks and ackers have no ticks
pub no-ticks-work : (events : List Step) → AllByRecursion IsWork events → ticks_in events ≡ 0
no-ticks-work [] work = refl
no-ticks-work (of_task n ∷ events) work = no-ticks-work events work.1
no-ticks-work (of_acker n ∷ events) work = no-ticks-work events work.1
no-ticks-work (of_turn ∷ events) work = absurd work.0
no-ticks-work (of_outcome ∷ events) work = absurd work.0
no-ticks-work (of_tick ∷ events) work = absurd work.0
no-ticks-work (of_shut q ∷ events) work = absurd work.0
no-ticks-work (of_open q ∷ events) work = absurd work.0

-- and shut no partition
pub open-work : (events : List Step) → AllByRecursion IsWork events → AllByRecursion ShutsNone events
open-work [] work = tt
open-work (of_task n ∷ events) work = (tt, open-work events work.1)
open-work (of_acker n ∷ events) work = (tt, open-work events work.1)
open-work (of_turn ∷ events) work = absurd work.0
open-work (of_outcome ∷ events) work = absurd work.0
open-work (of_tick ∷ events) work = absurd work.0
open-work (of_shut q ∷ events) work = absurd work.0
open-work (of_open q ∷ events) work = absurd work.0

-- steps that shut and open partitions have no ticks
no-ticks-shutting : (shut : ℕ) (qs : List ℕ) → ticks_in (map (shutting shut) qs) ≡ 0
no-ticks-shutting shut [] = refl
no-ticks-shutting shut (q ∷ qs) = ticks-of-rounds (shutting shut q ∷ []) (map (shutting shut) qs) ∙ (λ i. one (is_shut shut q) i + no-ticks-shutting shut qs i)
  where
    one : (b : Bool) → ticks_in (cond b (of_shut q) (of_open q) ∷ []) ≡ 0
    one true = refl
    one false = refl

-- and shut none by no bit
open-shutting : (shut : ℕ) (qs : List ℕ) → shut ≡ 0 → AllByRecursion ShutsNone (map (shutting shut) qs)
open-shutting shut [] none = tt
open-shutting shut (q ∷ qs) none = (one (is_shut shut q) (ap (λ (n : ℕ). is_shut n q) none ∙ ap (λ (bit : ℕ). bit == 1) (bit_at-zero q)), open-shutting shut qs none)
  where
    one : (b : Bool) → b ≡ false → ShutsNone (cond b (of_shut q) (of_open q))
    one true is = absurd (true≢false is)
    one false is = tt

-- what comes before a round has no ticks
pub no-ticks-before : (partitions shut : ℕ) (events : List Step) → AllByRecursion IsWork events → ticks_in (shutting_steps partitions shut ++ events) ≡ 0
no-ticks-before partitions shut events work =
    ticks-of-rounds (shutting_steps partitions shut) events ∙ (λ i. no-ticks-shutting shut (range_with_len 0 partitions) i + no-ticks-work events work i)

-- and shuts none by no bit, or where there is no partition
pub open-before : (partitions shut : ℕ) (events : List Step) → (0 < partitions → shut ≡ 0) → AllByRecursion IsWork events → AllByRecursion ShutsNone (shutting_steps partitions shut ++ events)
open-before zero shut events none work = open-work events work
open-before (suc p) shut events none work =
    each-append ShutsNone (shutting_steps (suc p) shut) events (open-shutting shut (range_with_len 0 (suc p)) (none (omega arith))) (open-work events work)

-- the steps of rounds, where all partitions are told to be open
open-rounds : (t : Topology) (answers shuts : List ℕ) (steps : List Step) → HasRoundsOf t answers shuts steps → (0 < t.partitions → AllByRecursion (λ (shut : ℕ). shut ≡ 0) shuts) → AllByRecursion ShutsNone steps
open-rounds t [] [] steps has none = subst (AllByRecursion ShutsNone) (sym has) tt
open-rounds t [] (shut ∷ shuts) steps has none = absurd has
open-rounds t (n ∷ answers) [] steps has none = absurd has
open-rounds t (n ∷ answers) (shut ∷ shuts) steps has none =
    subst (AllByRecursion ShutsNone) (sym (has.2 ∙ sym (append_assoc (shutting_steps t.partitions shut) has.0 (round_with t n ++ has.1))))
    (each-append ShutsNone (shutting_steps t.partitions shut ++ has.0) (round_with t n ++ has.1) (open-before t.partitions shut has.0 (λ some. (none some).0) has.3)
    (each-append ShutsNone (round_with t n) has.1 (open-round t n) (open-rounds t answers shuts has.1 has.4 (λ some. (none some).1))))

-- the answers of a source that tells that all partitions are open
all-open : (shuts : List ℕ) → shuts ≡ first_answers (length shuts) [] → AllByRecursion (λ (shut : ℕ). shut ≡ 0) shuts
all-open shuts are = subst (AllByRecursion (λ (shut : ℕ). shut ≡ 0)) (sym are) (zeros (range_with_len 0 (length shuts)))
  where
    zeros : (ks : List ℕ) → AllByRecursion (λ (shut : ℕ). shut ≡ 0) (map (λ (k : ℕ). get_or [] k 0) ks)
    zeros [] = tt
    zeros (k ∷ ks) = (refl, zeros ks)

-- rounds shut no partition where all are told to be open, or where there is none
pub rounds-open : (t : Topology) (availing : List ℕ → Type 0) (answers shuts : List ℕ) (steps : List Step) → ((xs : List ℕ) → availing xs → shuts ≡ first_answers (length shuts) xs) → HasRoundsOf t answers shuts steps → (0 < t.partitions → availing []) → All ShutsNone steps
rounds-open t availing answers shuts steps first has open_all = All-from_recursion ShutsNone steps (open-rounds t answers shuts steps has (λ some. all-open shuts (first [] (open_all some))))

-- ---- rounds

-- they have a whole round for each answer
pub has-rounds : (t : Topology) (answers shuts : List ℕ) (steps : List Step) → HasRoundsOf t answers shuts steps → HasRounds t (length answers) steps
has-rounds t [] shuts steps has = tt
has-rounds t (n ∷ answers) [] steps has = absurd has
has-rounds t (n ∷ answers) (shut ∷ shuts) steps has = (
  shutting_steps t.partitions shut ++ has.0,
  has.1,
  n,
  has.2 ∙ sym (append_assoc (shutting_steps t.partitions shut) has.0 (round_with t n ++ has.1)),
  has-rounds t answers shuts has.1 has.4,
)

pub total : List ℕ → ℕ
total [] = 0
total (n ∷ ns) = n + total ns

pub total-none : total [] ≡ 0
unfolding total
total-none = refl

pub total-more : (answers : List ℕ) (n : ℕ) → total (answers ++ n ∷ []) ≡ total answers + n
unfolding total
total-more [] n = omega arith
total-more (m ∷ answers) n = let rest = total-more answers n in omega arith

-- the steps have no other ticks
ticks-of-answers : (t : Topology) (answers shuts : List ℕ) (steps : List Step) → HasRoundsOf t answers shuts steps
    → ticks_in steps ≡ total answers
unfolding total
ticks-of-answers t [] [] steps has = ap ticks_in has
ticks-of-answers t [] (shut ∷ shuts) steps has = absurd has
ticks-of-answers t (n ∷ ns) [] steps has = absurd has
ticks-of-answers t (n ∷ ns) (shut ∷ shuts) steps has =
    let front : List Step = shutting_steps t.partitions shut in
    let a = ticks-of-rounds front (has.0 ++ (round_with t n ++ has.1)) in
    let b = ticks-of-rounds has.0 (round_with t n ++ has.1) in
    let c = ticks-of-rounds (round_with t n) has.1 in
    let d = ticks-of-round t n in
    let e = ticks-of-answers t ns shuts has.1 has.4 in
    let f = ap ticks_in has.2 in
    let h = no-ticks-shutting shut (range_with_len 0 t.partitions) in
    let k = no-ticks-work has.0 has.3 in omega arith

-- what comes before a round
abbrev pub before_round : ℕ → List Step → Topology → List Step
before_round shut events t = shutting_steps t.partitions shut ++ events

-- and the round behind it
abbrev pub turn_of : (shut : ℕ) → List Step → (n : ℕ) → Topology → List Step
turn_of shut events n t = before_round shut events t ++ round_with t n

-- one more round
pub one-round-more : (t : Topology) (answers shuts : List ℕ) (steps : List Step) (shut : ℕ) (events : List Step) (n : ℕ)
    → AllByRecursion IsWork events → HasRoundsOf t answers shuts steps
    → HasRoundsOf t (answers ++ n ∷ []) (shuts ++ shut ∷ []) (steps ++ turn_of shut events n t)
one-round-more t [] [] steps shut events n work has =
    let front : List Step = shutting_steps t.partitions shut in (
      events,
      [],
      ap (λ (zs : List Step). zs ++ turn_of shut events n t) has
          ∙ append_assoc front events (round_with t n)
          ∙ ap (λ (zs : List Step). front ++ (events ++ zs)) (sym (append-nil (round_with t n))),
      work,
      refl,
    )
one-round-more t [] (s ∷ shuts) steps shut events n work has = absurd has
one-round-more t (m ∷ ms) [] steps shut events n work has = absurd has
one-round-more t (m ∷ ms) (s ∷ shuts) steps shut events n work has =
    let front : List Step = shutting_steps t.partitions s in
    let more : List Step = turn_of shut events n t in (
      has.0,
      has.1 ++ more,
      ap (λ (zs : List Step). zs ++ more) has.2
          ∙ append_assoc front (has.0 ++ (round_with t m ++ has.1)) more
          ∙ ap (λ (zs : List Step). front ++ zs) (append_assoc has.0 (round_with t m ++ has.1) more)
          ∙ ap (λ (zs : List Step). front ++ (has.0 ++ zs)) (append_assoc (round_with t m) has.1 more),
      has.3,
      one-round-more t ms shuts has.1 shut events n work has.4,
    )

-- ---- ticks that were handed out

-- a count that does not stand at its end is the sum
sum-below : (answers : List ℕ) (before : ℕ) → fold handed_on before answers < 2 ^ 64 - 1
    → fold handed_on before answers ≡ before + total answers
unfolding total
sum-below [] before below = omega arith
sum-below (n ∷ ns) before below =
    let rest = sum-below ns (handed_on before n) below in omega arith

-- as many ticks as were answered are as many as were handed out between
pub answered-between : (answers : List ℕ) (before after : ℕ) → after ≡ fold handed_on before answers
    → (n : ℕ) → n ≤ total answers → n ≤ last_tick → n ≤ ticks_between before after
answered-between answers before after is n most last = by (nat_le (2 ^ 64 - 1) after) refl
  where
    by : (b : Bool) → nat_le (2 ^ 64 - 1) after ≡ b
        → n ≤ cond b (2 ^ 64 - 1) (after - before)
    by true full = last
    by false open_still =
        let below : after < 2 ^ 64 - 1 = leb-false (2 ^ 64 - 1) after open_still in
        let all = sum-below answers before (subst (λ (k : ℕ). k < 2 ^ 64 - 1) is below) in
        omega arith

-- the coordinator may count what was handed out between
pub allows-between : (t : Topology) (answers shuts : List ℕ) (steps : List Step) (before after : ℕ)
    → HasRoundsOf t answers shuts steps → after ≡ fold handed_on before answers
    → Allows steps (ticks_between before after)
allows-between t answers shuts steps before after has is n most last =
    let ticks = ticks-of-answers t answers shuts steps has in
    answered-between answers before after is n (omega arith) last

-- ---- ticks of an engine

module _ {I : Type 0} {g : Ghosts I} (tells : I → (ℕ → ℕ) → ℕ → Type 0) (t : Topology)
    (custom : Custom) (cut : Cut) where
  -- its ticks rise by those among its steps at most
  pub ticks-gone : (steps : List Step) (old new : Engine I g)
      → Goes tells t custom cut steps old new → (shape new).tick ≤ (shape old).tick + ticks_in steps
  ticks-gone steps old new goes =
      let words : ℕ → ℕ → ℕ = λ s k. get_or (goes.given s) k 0 in
      let gives : Gives words (λ s. 0) goes.given =
      λ s. sym (fill_by_all (words s) (goes.given s) (length (goes.given s)) 0 refl (λ k below. refl)) in
      let outcomes = outcomes_of new.fates in
      let has : HasOutcomes outcomes new.fates =
      record { rest = []; first = sym (append-nil outcomes) } in
      let start : Known = record { world = shape old; counts = λ s. 0 } in
      let same : (run t custom cut words outcomes steps start).world.tick ≡ (shape new).tick =
      ap (λ (w : World). w.tick) (goes.runs words (λ s. 0) outcomes gives has).0 in
      let most = run-tick t custom cut words outcomes steps start in omega arith

  -- so a round's rest adds no more than its ticks
  pub ticks-closed : (n : ℕ) (old new : Engine I g)
      → Goes tells t custom cut (closing_steps n) old new → (shape new).tick ≤ (shape old).tick + n
  ticks-closed n old new goes =
      let all = ticks-gone (closing_steps n) old new goes in
      let both = ticks-of-rounds (replicate n of_tick) coordinator_steps in
      let none : ticks_in coordinator_steps ≡ 0 = refl in
      let own = all-ticks n in omega arith
