-- Runs: what was done never falls, and runs in which nothing was done.
use Rattle.std.proofs.Common.{◌≡◌, ◌<◌, ◌≤◌, inl, inr, ℕ, ◌+◌, ◌-◌, ◌^◌, Bool, true, false, cond, List, [], ◌∷◌, length, get_or, Option, None, Some, refl, sym, ap, ◌∙◌, subst, arith}
use Rattle.std.specs.List.{AllByRecursion}
use Rattle.std.specs.Prelude.{All}
use Rattle.std.proofs.lemmas.Bool.{cases_lt}
use Rattle.std.proofs.lemmas.List.{get_or_past}
use Rattle.event_worlds.specs.bolt_ops.RowOp.{Custom}
use Rattle.event_worlds.specs.Accounted.{LedTo}
use Rattle.event_worlds.specs.Added.{added, step_adds}
use Rattle.event_worlds.specs.Worlds.{Known, Step, World, acted_past, delivered, is_over, next, next_outcome, next_words, of_acker, of_open, of_outcome, of_shut, of_task, of_tick, of_turn, open_with, outcome_step, outcomes_of, run, sent, step, task_at, task_needs, turn_needs, turn_past, with_progress, with_task}
use Rattle.event_worlds.specs.commit_turns.Turns.{decided}
use Rattle.event_worlds.specs.state_parts.declared.answer.CommitOutcome.{CommitOutcome}
use Rattle.event_worlds.specs.state_parts.declared.answer.CommitOutcome.TheVariants as outcome
use Rattle.event_worlds.specs.topology_plan.Topology.{Topology, tasks_in_all}
use Rattle.event_worlds.specs.tree_model.declared.messages.Parcel.{Parcel}
use Rattle.event_worlds.specs.tree_model.declared.messages.Parcel.TheVariants.{ToTask, ToAcker}
use Rattle.event_worlds.specs.taken_records.Cuts.{Cut}
use Rattle.event_worlds.specs.tuple_account.Histories.{History, joined, nothing}
use Rattle.event_worlds.specs.Rounds.{ticks_in}
use Rattle.world_progress.proofs.Answering.{acker_does}
use Rattle.world_progress.specs.Doing.{done}
use Rattle.world_progress.specs.Lasting.{Lasting}
use Rattle.world_progress.specs.Rounding.{IsOpen, ShutsNone}
use Rattle.event_worlds.specs.record_offers.Offers.{is_shut}
use Rattle.world_progress.specs.Running as specs
use Rattle.world_progress.proofs.Doing.{Stepped, begun-joined, kept, rose, taken-joined, task_beyond, task_there}
use Rattle.world_progress.proofs.Lasting.{lasting-next}
use Rattle.world_progress.proofs.Turning.{outcome_does, turn_does}

-- ---- ticks

pub ticks-cons : (s : Step) (steps : List Step) → ticks_in (s ∷ steps) ≡ ticks_in (s ∷ []) + ticks_in steps
ticks-cons (of_task n) steps = omega arith
ticks-cons (of_acker n) steps = omega arith
ticks-cons of_turn steps = omega arith
ticks-cons of_outcome steps = omega arith
ticks-cons of_tick steps = omega arith
ticks-cons (of_shut q) steps = omega arith
ticks-cons (of_open q) steps = omega arith

tick-delivered : (t : Topology) (p : Parcel) (w : World) → (delivered t p w).tick ≡ w.tick
tick-delivered t (ToTask n tuple) w = refl
tick-delivered t (ToAcker n m) w = refl

tick-sent : (t : Topology) (o : Option Parcel) (w : World) → (sent t o w).tick ≡ w.tick
tick-sent t None w = refl
tick-sent t (Some p) w = tick-delivered t p w

tick-turn : (t : Topology) (cut : Cut) (ids : List ℕ) (w : World) (out : List Parcel) → (turn_past t cut ids w out).tick ≡ w.tick
tick-turn t cut ids w [] = refl
tick-turn t cut ids w (p ∷ rest) = tick-delivered t p (record w { orders = rest })

tick-outcome : (t : Topology) (cut : Cut) (how : CommitOutcome) (w : World) (b : Bool) → (cond b (with_progress t cut (decided t cut how w.desk) w) w).tick ≡ w.tick
tick-outcome t cut how w true = refl
tick-outcome t cut how w false = refl

-- ---- partitions

shut-delivered : (t : Topology) (p : Parcel) (w : World) → (delivered t p w).shut ≡ w.shut
shut-delivered t (ToTask n tuple) w = refl
shut-delivered t (ToAcker n m) w = refl

shut-sent : (t : Topology) (o : Option Parcel) (w : World) → (sent t o w).shut ≡ w.shut
shut-sent t None w = refl
shut-sent t (Some p) w = shut-delivered t p w

shut-turn : (t : Topology) (cut : Cut) (ids : List ℕ) (w : World) (out : List Parcel) → (turn_past t cut ids w out).shut ≡ w.shut
shut-turn t cut ids w [] = refl
shut-turn t cut ids w (p ∷ rest) = shut-delivered t p (record w { orders = rest })

shut-outcome : (t : Topology) (cut : Cut) (how : CommitOutcome) (w : World) (b : Bool)
    → (cond b (with_progress t cut (decided t cut how w.desk) w) w).shut ≡ w.shut
shut-outcome t cut how w true = refl
shut-outcome t cut how w false = refl

stays_open : (q : ℕ) → open_with q 0 ≡ 0
stays_open q = by (is_shut 0 q)
  where
    by : (b : Bool) → cond b (0 - 2 ^ q) 0 ≡ 0
    by true = omega arith
    by false = refl

-- ---- outcomes

pub sure-done : (outcomes : List CommitOutcome) (n : ℕ) → All (λ (how : CommitOutcome). how ≡ outcome.Done) outcomes → get_or outcomes n outcome.Done ≡ outcome.Done
sure-done outcomes n all =
    elim (cases_lt n (length outcomes)) [
      | inl below ↦ all n outcome.Done below
      | inr past ↦ get_or_past outcomes n outcome.Done past
    ]

pub risen : {Q : Type 0} (a b : ℕ) → Stepped a b Q → a ≤ b
risen a b (rose more) = omega arith
risen a b (kept same quiet) = omega arith

pub quiet_in : {Q : Type 0} (a b : ℕ) → Stepped a b Q → b ≤ a → Q
quiet_in a b (rose more) not_more = absurd (omega arith)
quiet_in a b (kept same quiet) not_more = quiet

module _ (t : Topology) (custom : Custom) (cut : Cut) (words : ℕ → ℕ → ℕ) (outcomes : List CommitOutcome) where
  abbrev so_far : List Step → History → Known → History
  so_far steps h k = specs.so_far t custom cut words outcomes steps h k

  abbrev pub goes : Step → Known → Known
  goes s k = step t custom cut words outcomes s k

  abbrev pub goes_all : List Step → Known → Known
  goes_all steps k = run t custom cut words outcomes steps k

  -- each step leads on
  abbrev pub LeadsOn : Type 0
  LeadsOn = (s : Step) (h : History) (k : Known) → LedTo t custom cut words h k → LedTo t custom cut words (joined h (added t custom cut words s k)) (next t custom cut words outcomes s k)

  tick_of : (s : Step) (k : Known) → (goes s k).world.tick ≤ k.world.tick + ticks_in (s ∷ [])
  unfolding step
  tick_of (of_task n) k =
      let words_n = next_words words k.counts n (task_needs t custom (task_at t n k.world)) in
      let a = acted_past t custom n words_n (task_at t n k.world) (task_at t n k.world).outbox in
      let e = tick-sent t a.parcel (with_task n a.side k.world) in omega arith
  tick_of (of_acker n) k = omega arith
  tick_of of_turn k = let e = tick-turn t cut (next_words words k.counts (tasks_in_all t) (turn_needs t cut k.world)) k.world k.world.orders in omega arith
  tick_of of_outcome k = let e = tick-outcome t cut (next_outcome outcomes k.world.fates) k.world k.world.desk.out in omega arith
  tick_of of_tick k = omega arith
  tick_of (of_shut q) k = omega arith
  tick_of (of_open q) k = omega arith

  tick_next : (s : Step) (k : Known) → (next t custom cut words outcomes s k).world.tick ≤ k.world.tick + ticks_in (s ∷ [])
  tick_next s k = by (is_over t cut k.world)
    where
      by : (b : Bool) → (cond b k (goes s k)).world.tick ≤ k.world.tick + ticks_in (s ∷ [])
      by true = omega arith
      by false = tick_of s k

  shut_of : (s : Step) (k : Known) → ShutsNone s → k.world.shut ≡ 0 → (goes s k).world.shut ≡ 0
  unfolding step
  shut_of (of_task n) k none is =
      let words_n = next_words words k.counts n (task_needs t custom (task_at t n k.world)) in
      let a = acted_past t custom n words_n (task_at t n k.world) (task_at t n k.world).outbox in
      shut-sent t a.parcel (with_task n a.side k.world) ∙ is
  shut_of (of_acker n) k none is = is
  shut_of of_turn k none is = shut-turn t cut (next_words words k.counts (tasks_in_all t) (turn_needs t cut k.world)) k.world k.world.orders ∙ is
  shut_of of_outcome k none is = shut-outcome t cut (next_outcome outcomes k.world.fates) k.world k.world.desk.out ∙ is
  shut_of of_tick k none is = is
  shut_of (of_shut q) k none is = absurd none
  shut_of (of_open q) k none is = ap (open_with q) is ∙ stays_open q

  open_next : (s : Step) (k : Known) → (0 < cut.partitions → ShutsNone s) → IsOpen cut k.world → IsOpen cut (next t custom cut words outcomes s k).world
  open_next s k none is_open = by (is_over t cut k.world)
    where
      by : (b : Bool) → IsOpen cut (cond b k (goes s k)).world
      by true = is_open
      by false = λ some. shut_of s k (none some) (is_open some)

  -- where no step shuts a partition none is shut after them
  pub open_all : (steps : List Step) (k : Known) → (0 < cut.partitions → AllByRecursion ShutsNone steps) → IsOpen cut k.world → IsOpen cut
      (goes_all steps k).world
  open_all [] k none is_open = is_open
  open_all (s ∷ steps) k none is_open = open_all steps (next t custom cut words outcomes s k) (λ some. (none some).1)
      (open_next s k (λ some. (none some).0) is_open)

  -- when all is over nothing changes
  pub over_stays : (steps : List Step) (k : Known) → is_over t cut k.world ≡ true → goes_all steps k ≡ k
  over_stays [] k over = refl
  over_stays (s ∷ steps) k over =
      let e : next t custom cut words outcomes s k ≡ k = ap (λ (b : Bool). cond b k (goes s k)) over in
      ap (goes_all steps) e ∙ over_stays steps k over

  module _ (leads : LeadsOn) (all_done : All (λ (how : CommitOutcome). how ≡ outcome.Done) outcomes) where
    does : (s : Step) (h : History) (k : Known) → Lasting t custom cut words h k → done h k.world ≤ done (joined h (step_adds t custom cut words s k)) (goes s k).world
    unfolding step
    does (of_task n) h k last =
        elim (cases_lt n (tasks_in_all t)) [
          | inl there ↦ risen _ _ (task_there t custom k.world last.led.orderly h n (k.counts n) (next_words words k.counts n (task_needs t custom (task_at t n k.world))) there)
          | inr beyond ↦ risen _ _ (task_beyond t custom k.world last.led.orderly h n (k.counts n) (next_words words k.counts n (task_needs t custom (task_at t n k.world))) beyond)
        ]
    does (of_acker n) h k last = risen _ _ (acker_does t k.world h n)
    does of_turn h k last = risen _ _ (turn_does t cut k.world h (k.counts (tasks_in_all t)) (next_words words k.counts (tasks_in_all t) (turn_needs t cut k.world)) last.led.orderly)
    does of_outcome h k last =
        let r = risen _ _ (outcome_does t cut k.world h) in
        subst (λ (how : CommitOutcome). done h k.world ≤ done (joined h nothing) (outcome_step t cut how k.world)) (sym (sure-done outcomes (length (outcomes_of k.world.fates)) all_done)) r
    does of_tick h k last = let x = taken-joined h nothing in let y = begun-joined h nothing in omega arith
    does (of_shut q) h k last = let x = taken-joined h nothing in let y = begun-joined h nothing in omega arith
    does (of_open q) h k last = let x = taken-joined h nothing in let y = begun-joined h nothing in omega arith

    does_next : (s : Step) (h : History) (k : Known) → Lasting t custom cut words h k → done h k.world ≤ done (joined h (added t custom cut words s k)) (next t custom cut words outcomes s k).world
    does_next s h k last = by (is_over t cut k.world)
      where
        by : (b : Bool) → done h k.world ≤ done (joined h (cond b nothing (step_adds t custom cut words s k))) (cond b k (goes s k)).world
        by true = let x = taken-joined h nothing in let y = begun-joined h nothing in omega arith
        by false = does s h k last

    pub lasts-next : (s : Step) (h : History) (k : Known) → Lasting t custom cut words h k → k.world.tick < t.buckets
        → Lasting t custom cut words (joined h (added t custom cut words s k)) (next t custom cut words outcomes s k)
    lasts-next s h k last short = lasting-next t custom cut words outcomes h k last short (sure-done outcomes (length (outcomes_of k.world.fates)) all_done) s (leads s h k last.led)

    -- ---- runs

    -- A run from a world in which nothing is lost, with fewer ticks than buckets in all.
    pub record Starts (steps : List Step) (h : History) (k : Known) : Type 0 where
      pub last : Lasting t custom cut words h k
      pub short : k.world.tick + ticks_in steps < t.buckets

    pub starts-next : (s : Step) (steps : List Step) (h : History) (k : Known) → Starts (s ∷ steps) h k → Starts steps (joined h (added t custom cut words s k)) (next t custom cut words outcomes s k)
    starts-next s steps h k is = record {
      last = lasts-next s h k is.last (let z = is.short in omega arith);
      short = (let z = is.short in let c = ticks-cons s steps in let n = tick_next s k in omega arith);
    }

    -- where it comes to
    pub record Comes (steps : List Step) (h : History) (k : Known) : Type 0 where
      pub last : Lasting t custom cut words (so_far steps h k) (goes_all steps k)
      pub more : done h k.world ≤ done (so_far steps h k) (goes_all steps k).world
      pub ticks : (goes_all steps k).world.tick ≤ k.world.tick + ticks_in steps

    pub comes : (steps : List Step) (h : History) (k : Known) → Starts steps h k → Comes steps h k
    comes [] h k is = record { last = is.last; more = omega arith; ticks = omega arith }
    comes (s ∷ steps) h k is =
        let rest = comes steps (joined h (added t custom cut words s k)) (next t custom cut words outcomes s k) (starts-next s steps h k is) in
        let m = rest.more in
        let d = does_next s h k is.last in
        let c = ticks-cons s steps in
        let n = tick_next s k in
        let z = rest.ticks in
        record { last = rest.last; more = omega arith; ticks = omega arith }

    -- ---- a run in which nothing is done

    pub record Still (steps : List Step) (h : History) (k : Known) : Type 0 where
      pub starts : Starts steps h k
      pub same : done (so_far steps h k) (goes_all steps k).world ≤ done h k.world
      pub open_end : is_over t cut (goes_all steps k).world ≡ false

    -- it did not end before
    pub not_over : (steps : List Step) (h : History) (k : Known) → Still steps h k → is_over t cut k.world ≡ false
    not_over steps h k is = by (is_over t cut k.world) refl
      where
        by : (b : Bool) → is_over t cut k.world ≡ b → is_over t cut k.world ≡ false
        by false e = e
        by true e = ap (λ (j : Known). is_over t cut j.world) (sym (over_stays steps k e)) ∙ is.open_end

    -- after the first step it goes on so, and the step did nothing
    pub record StillAfter (s : Step) (steps : List Step) (h : History) (k : Known) : Type 0 where
      pub rest : Still steps (joined h (step_adds t custom cut words s k)) (goes s k)
      pub nothing_done : done (joined h (step_adds t custom cut words s k)) (goes s k).world ≤ done h k.world

    pub still-next : (s : Step) (steps : List Step) (h : History) (k : Known) → Still (s ∷ steps) h k → StillAfter s steps h k
    still-next s steps h k is = by (is_over t cut k.world) (not_over (s ∷ steps) h k is) now (let c = comes steps _ _ now.starts in let m = c.more in let l = is.same in omega arith)
      where
        now : Still steps (joined h (added t custom cut words s k)) (next t custom cut words outcomes s k)
        now = record {
          starts = starts-next s steps h k is.starts;
          same = (let d = does_next s h k is.starts.last in let l = is.same in omega arith);
          open_end = is.open_end;
        }

        by : (b : Bool) → b ≡ false → Still steps (joined h (cond b nothing (step_adds t custom cut words s k))) (cond b k (goes s k))
            → done (joined h (cond b nothing (step_adds t custom cut words s k))) (cond b k (goes s k)).world ≤ done h k.world → StillAfter s steps h k
        by false e rest less = record { rest = rest; nothing_done = less }
        by true e rest less = absurd (never e)
          where
            never : true ≡ false → ⊥
            never e = cc
