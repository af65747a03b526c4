-- The first steps of a run: the rounds among them, the fates that they left, and that nothing
-- changes when all is over.
use Rattle.std.proofs.Common.{◌≡◌, ◌≤◌, ◌+◌, ℕ, zero, suc, Bool, true, false, cond, List, [], ◌∷◌, ◌++◌, length, map, filter, replicate, get_or, sum, Option, None, Some, is_some, refl, sym, ap, subst, ◌∙◌, append_assoc, append-nil, arith}
use Rattle.std.specs.List.{AllByRecursion, range_with_len}
use Rattle.std.proofs.lemmas.List.{length-append}
use Rattle.std.proofs.lemmas.List.Elements.{filter-append}
use Rattle.std.proofs.lemmas.List.Sums.{sum_by-cons}
use Rattle.event_worlds.specs.attempt_fates.declared.fates.Attempt.{Attempt}
use Rattle.event_worlds.specs.bolt_ops.RowOp.{Custom}
use Rattle.event_worlds.specs.commit_turns.Desks.{Progress}
use Rattle.event_worlds.specs.commit_turns.Turns.{decided, is_finished}
use Rattle.event_worlds.specs.Rounds.{HasRounds, is_tick, round_with, ticks_in}
use Rattle.event_worlds.specs.Worlds.{Acted, Known, Step, World, acted, coordinator_steps, delivered, is_over, next, next_outcome, next_words, of_acker, of_open, of_outcome, of_shut, of_task, of_tick, of_turn, run, sent, step, task_at, task_needs, turn_needs, turn_past, with_progress, with_task}
use Rattle.event_worlds.proofs.counted_items.Each.{each-append, each-back, each-front}
use Rattle.event_engine.specs.Shutting.{shutting_steps}
use Rattle.schedule_core.proofs.Rounding.{no-ticks-before, open-round}
use Rattle.schedule_core.specs.Runs.{HasRoundsOf, first_answers}
use Rattle.event_worlds.specs.state_parts.declared.answer.CommitOutcome.{CommitOutcome}
use Rattle.event_worlds.specs.topology_plan.Topology.{Topology, tasks_in_all}
use Rattle.event_worlds.specs.tree_model.declared.messages.Parcel.{Parcel}
use Rattle.event_worlds.specs.tree_model.declared.messages.Parcel.TheVariants.{ToAcker, ToTask}
use Rattle.event_worlds.specs.taken_records.Cuts.{Cut}
use Rattle.world_progress.specs.Rounding.{ShutsNone}

-- ---- ticks

ticks-both : (xs ys : List Step) → ticks_in (xs ++ ys) ≡ ticks_in xs + ticks_in ys
ticks-both xs ys =
    ap length (filter-append is_tick xs ys)
    ∙ length-append (filter is_tick xs) (filter is_tick ys)

ticks-tasks : (ns : List ℕ) → ticks_in (map of_task ns) ≡ 0
ticks-tasks [] = refl
ticks-tasks (n ∷ ns) = ticks-tasks ns

ticks-ackers : (ns : List ℕ) → ticks_in (map of_acker ns) ≡ 0
ticks-ackers [] = refl
ticks-ackers (n ∷ ns) = ticks-ackers ns

ticks-ticks : (n : ℕ) → ticks_in (replicate n of_tick) ≡ n
ticks-ticks zero = refl
ticks-ticks (suc n) = ap suc (ticks-ticks n)

ticks-of_round : (t : Topology) (n : ℕ) → ticks_in (round_with t n) ≡ n
ticks-of_round t n =
    let tasks : List Step = map of_task (range_with_len 0 (tasks_in_all t)) in
    let ackers : List Step = map of_acker (range_with_len 0 t.ackers) in
    let ticks : List Step = replicate n of_tick in
    let a = ticks-both (tasks ++ ackers ++ ticks) coordinator_steps in
    let b = ticks-both (tasks ++ ackers) ticks in
    let c = ticks-both tasks ackers in
    let d = ticks-tasks (range_with_len 0 (tasks_in_all t)) in
    let e = ticks-ackers (range_with_len 0 t.ackers) in
    let f = ticks-ticks n in omega arith

-- ---- rounds

-- so many rounds without a tick
pub quiet_rounds : Topology → ℕ → List Step
quiet_rounds t zero = []
quiet_rounds t (suc n) = round_with t 0 ++ quiet_rounds t n

quiet-rounds : (t : Topology) (n : ℕ) (first : List Step)
    → HasRounds t n (first ++ quiet_rounds t n)
unfolding quiet_rounds
quiet-rounds t zero first = tt
quiet-rounds t (suc n) first = (first, quiet_rounds t n, 0, refl, quiet-rounds t n [])

ticks-quiet : (t : Topology) (n : ℕ) → ticks_in (quiet_rounds t n) ≡ 0
unfolding quiet_rounds
ticks-quiet t zero = refl
ticks-quiet t (suc n) =
    let both = ticks-both (round_with t 0) (quiet_rounds t n) in
    let none = ticks-of_round t 0 in let rest = ticks-quiet t n in omega arith

open-quiet : (t : Topology) (n : ℕ) → AllByRecursion ShutsNone (quiet_rounds t n)
unfolding quiet_rounds
open-quiet t zero = tt
open-quiet t (suc n) =
    each-append ShutsNone (round_with t 0) (quiet_rounds t n) (open-round t 0) (open-quiet t n)

-- the sum of the first so many
pub sum_first : ℕ → List ℕ → ℕ
sum_first zero ns = 0
sum_first (suc k) [] = 0
sum_first (suc k) (n ∷ ns) = n + sum_first k ns

sum_first-le : (f : ℕ → ℕ) (a n k : ℕ)
    → sum_first k (map f (range_with_len a n)) ≤ sum (map f (range_with_len a k))
unfolding sum_first
sum_first-le f a n zero = omega arith
sum_first-le f a zero (suc k) = omega arith
sum_first-le f a (suc n) (suc k) =
    let rest = sum_first-le f (a + 1) n k in
    let all = sum_by-cons (λ (m : ℕ). m) (f a) (map f (range_with_len (a + 1) k)) in omega arith

-- of answers that are the first of those to come, the first have no larger sum
pub sum_of_first : (to_come answers : List ℕ) (k : ℕ)
    → answers ≡ first_answers (length answers) to_come
    → sum_first k answers ≤ sum (first_answers k to_come)
sum_of_first to_come answers k are =
    subst (λ (ns : List ℕ). sum_first k ns ≤ sum (first_answers k to_come)) (sym are)
    (sum_first-le (λ (j : ℕ). get_or to_come j 0) 0 (length answers) k)

-- Steps of rounds, with more rounds where there are too few, begin with so many rounds, whose ticks
-- are the first of the answers. They shut no partition where the steps shut none.
pub record Front (t : Topology) (count : ℕ) (answers : List ℕ) (steps : List Step) : Type 0 where
  pub front : List Step
  pub rest : List Step
  pub more : List Step
  pub same : steps ++ more ≡ front ++ rest
  pub rounds : HasRounds t count front
  pub ticks : ticks_in front ≡ sum_first count answers
  pub shut_none : AllByRecursion ShutsNone steps → AllByRecursion ShutsNone front

regrouped : (first round xs more ys rest : List Step) → xs ++ more ≡ ys ++ rest
    → (first ++ (round ++ xs)) ++ more ≡ (first ++ (round ++ ys)) ++ rest
regrouped first round xs more ys rest same =
    append_assoc first (round ++ xs) more
    ∙ ap (λ (zs : List Step). first ++ zs)
    (append_assoc round xs more ∙ ap (λ (zs : List Step). round ++ zs) same
    ∙ sym (append_assoc round ys rest))
    ∙ sym (append_assoc first (round ++ ys) rest)

pub front_of : (t : Topology) (count : ℕ) (answers shuts : List ℕ) (steps : List Step)
    → HasRoundsOf t answers shuts steps → Front t count answers steps
unfolding sum_first
front_of t zero answers shuts steps has = record {
  front = [];
  rest = steps;
  more = [];
  same = append-nil steps;
  rounds = tt;
  ticks = refl;
  shut_none = λ all. tt;
}
front_of t (suc n) [] (shut ∷ shuts) steps has = absurd has
front_of t (suc n) (a ∷ answers) [] steps has = absurd has
front_of t (suc n) [] [] steps has = record {
  front = steps ++ quiet_rounds t (suc n);
  rest = [];
  more = quiet_rounds t (suc n);
  same = sym (append-nil (steps ++ quiet_rounds t (suc n)));
  rounds = quiet-rounds t (suc n) steps;
  ticks =
      let both = ticks-both steps (quiet_rounds t (suc n)) in
      let own = ap ticks_in has in
      let none = ticks-quiet t (suc n) in omega arith;
  shut_none = λ all.
      each-append ShutsNone steps (quiet_rounds t (suc n)) all (open-quiet t (suc n));
}
front_of t (suc n) (a ∷ answers) (shut ∷ shuts) steps has =
    let before : List Step = shutting_steps t.partitions shut ++ has.0 in
    let is : steps ≡ before ++ (round_with t a ++ has.1) =
    has.2 ∙ sym (append_assoc (shutting_steps t.partitions shut) has.0 (round_with t a ++ has.1)) in
    let none : ticks_in before ≡ 0 = no-ticks-before t.partitions shut has.0 has.3 in
    let later : Front t n answers has.1 = front_of t n answers shuts has.1 has.4 in
    record {
      front = before ++ (round_with t a ++ later.front);
      rest = later.rest;
      more = later.more;
      same =
          ap (λ (xs : List Step). xs ++ later.more) is
          ∙ regrouped before (round_with t a) has.1 later.more later.front later.rest later.same;
      rounds = (before, later.front, a, refl, later.rounds);
      ticks =
          let both = ticks-both before (round_with t a ++ later.front) in
          let own = ticks-both (round_with t a) later.front in
          let first = none in
          let round = ticks-of_round t a in
          let last = later.ticks in omega arith;
      shut_none = λ all.
          let parts : AllByRecursion ShutsNone (before ++ (round_with t a ++ has.1)) =
          subst (AllByRecursion ShutsNone) is all in
          let own = each-back ShutsNone before (round_with t a ++ has.1) parts in
          each-append ShutsNone before (round_with t a ++ later.front)
          (each-front ShutsNone before (round_with t a ++ has.1) parts)
          (each-append ShutsNone (round_with t a) later.front (open-round t a)
          (later.shut_none (each-back ShutsNone (round_with t a) has.1 own)));
    }

-- ---- fates

-- the later fates begin with the earlier ones
pub record Grows (old new : List Attempt) : Type 0 where
  pub more : List Attempt
  pub added : new ≡ old ++ more

grows-none : (old new : List Attempt) → new ≡ old → Grows old new
grows-none old new same = record { more = []; added = same ∙ sym (append-nil old) }

grows-both : (a b c : List Attempt) → Grows a b → Grows b c → Grows a c
grows-both a b c first then = record {
  more = first.more ++ then.more;
  added =
      then.added ∙ ap (λ (xs : List Attempt). xs ++ then.more) first.added
      ∙ append_assoc a first.more then.more;
}

module _ (t : Topology) where
  fates-delivered : (p : Parcel) (w : World) → (delivered t p w).fates ≡ w.fates
  fates-delivered (ToTask n tuple) w = refl
  fates-delivered (ToAcker n m) w = refl

  fates-sent : (p : Option Parcel) (w : World) → (sent t p w).fates ≡ w.fates
  fates-sent None w = refl
  fates-sent (Some p) w = fates-delivered p w

  grows-turn : (cut : Cut) (ids : List ℕ) (w : World) (orders : List Parcel)
      → Grows w.fates (turn_past t cut ids w orders).fates
  grows-turn cut ids w [] = record { more = _; added = refl }
  grows-turn cut ids w (p ∷ rest) =
      grows-none w.fates _ (fates-delivered p (record w { orders = rest }))

grows-told : (b : Bool) (v w : World) → Grows w.fates v.fates → Grows w.fates (cond b v w).fates
grows-told true v w grows = grows
grows-told false v w grows = grows-none w.fates w.fates refl

module _ (t : Topology) (custom : Custom) (cut : Cut) (words : ℕ → ℕ → ℕ)
    (outcomes : List CommitOutcome) where
  grows-step : (s : Step) (k : Known)
      → Grows k.world.fates (step t custom cut words outcomes s k).world.fates
  unfolding step
  grows-step (of_task n) k =
      let ids =
      next_words words k.counts n (task_needs t custom (task_at t n k.world)) in
      let done : Acted = acted t custom n ids (task_at t n k.world) in
      grows-none k.world.fates _ (fates-sent t done.parcel (with_task n done.side k.world))
  grows-step (of_acker n) k = grows-none k.world.fates k.world.fates refl
  grows-step of_turn k =
      let ids = next_words words k.counts (tasks_in_all t) (turn_needs t cut k.world) in
      grows-turn t cut ids k.world k.world.orders
  grows-step of_outcome k =
      let how = next_outcome outcomes k.world.fates in
      let to : Progress = decided t cut how k.world.desk in
      grows-told k.world.desk.out (with_progress t cut to k.world) k.world
      (record { more = to.ended; added = refl })
  grows-step of_tick k = grows-none k.world.fates k.world.fates refl
  grows-step (of_shut q) k = grows-none k.world.fates k.world.fates refl
  grows-step (of_open q) k = grows-none k.world.fates k.world.fates refl

  grows-next : (s : Step) (k : Known)
      → Grows k.world.fates (next t custom cut words outcomes s k).world.fates
  grows-next s k =
      by (is_over t cut k.world) (step t custom cut words outcomes s k) (grows-step s k)
    where
      by : (b : Bool) (l : Known) → Grows k.world.fates l.world.fates
          → Grows k.world.fates (cond b k l).world.fates
      by true l grows = grows-none k.world.fates k.world.fates refl
      by false l grows = grows

  -- fates only grow
  pub grows-run : (steps : List Step) (k : Known)
      → Grows k.world.fates (run t custom cut words outcomes steps k).world.fates
  grows-run [] k = grows-none k.world.fates k.world.fates refl
  grows-run (s ∷ steps) k =
      let then : Known = next t custom cut words outcomes s k in
      grows-both k.world.fates then.world.fates
      (run t custom cut words outcomes steps then).world.fates
      (grows-next s k) (grows-run steps then)

  -- steps one after another
  pub run-both : (xs ys : List Step) (k : Known)
      → run t custom cut words outcomes (xs ++ ys) k
      ≡ run t custom cut words outcomes ys (run t custom cut words outcomes xs k)
  run-both [] ys k = refl
  run-both (s ∷ xs) ys k = run-both xs ys (next t custom cut words outcomes s k)

  -- when all is over nothing changes
  pub run-over : (steps : List Step) (k : Known) → is_over t cut k.world ≡ true
      → run t custom cut words outcomes steps k ≡ k
  run-over [] k over = refl
  run-over (s ∷ steps) k over =
      ap
      (λ (b : Bool).
      run t custom cut words outcomes steps (cond b k (step t custom cut words outcomes s k)))
      over
      ∙ run-over steps k over

-- where no record is left uncommitted all is over
pub over-finished : (t : Topology) (cut : Cut) (w : World)
    → is_finished t cut w.desk ≡ true → is_over t cut w ≡ true
over-finished t cut w done = by (is_some w.desk.exhausted)
  where
    by : (b : Bool) → cond b true (is_finished t cut w.desk) ≡ true
    by true = refl
    by false = done
