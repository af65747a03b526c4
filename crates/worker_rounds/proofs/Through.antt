-- A round in a world with empty outboxes takes what it takes from inboxes.
use Rattle.std.proofs.Common.{◌≡◌, ◌<◌, ◌≤◌, ℕ, zero, suc, ◌+◌, ◌-◌, Bool, true, false, cond, List, [], ◌∷◌, ◌++◌, length, map, get_or, set, append_assoc, sym, refl, ap, subst, ◌∙◌, length-set, arith}
use Rattle.std.specs.Prelude.{replicate}
use Rattle.std.specs.List.{range_with_len}
use Rattle.std.specs.Option.{option_to_list}
use Rattle.std.proofs.lemmas.List.{get_or-set_other}
use Rattle.event_worlds.specs.acker_core.declared.verdict.Verdict.{Verdict}
use Rattle.event_worlds.specs.bolt_ops.RowOp.{Custom}
use Rattle.worker_stretches.specs.box_account.Hearing.{HeardBeforeFailing}
use Rattle.worker_stretches.specs.box_account.Inboxes.{weigh_acker_inboxes, weigh_inboxes, weigh_task_inboxes}
use Rattle.event_worlds.specs.counted_items.Weights.{weigh}
use Rattle.event_worlds.proofs.counted_items.Weighing.{weigh-append}
use Rattle.event_worlds.specs.Accounted.{LedTo}
use Rattle.event_worlds.specs.Added.{acker_adds, acker_adds_past, added, executes, meets_front, lost, step_adds, task_adds, task_adds_past, turn_adds, turn_adds_past}
use Rattle.event_worlds.specs.Rounds.{round_with}
use Rattle.event_worlds.specs.Worlds.{AckerSide, Known, Step, TaskSide, World, acker_at, acker_step, acted_past, aged, answered_past, coordinator_steps, counted_up, executed, is_over, meets, next, next_outcome, next_words, no_acker, no_task, of_acker, of_open, of_outcome, of_shut, of_task, of_tick, of_turn, outcome_step, run, sent, step, task_at, task_needs, task_step, turn_needs, turn_past, turn_step, with_progress, with_task}
use Rattle.event_worlds.proofs.Waiting.{weigh-front}
use Rattle.event_worlds.specs.commit_turns.Turns.{decided}
use Rattle.event_worlds.specs.record_offers.Offers.{is_shut}
use Rattle.event_worlds.specs.state_parts.declared.answer.CommitOutcome.{CommitOutcome}
use Rattle.event_worlds.specs.topology_plan.Topology.{Topology, tasks_in_all}
use Rattle.event_worlds.specs.tree_model.declared.messages.AckMsg.{AckMsg}
use Rattle.event_worlds.specs.tree_model.declared.messages.Parcel.{Parcel}
use Rattle.event_worlds.specs.tree_model.declared.messages.Parcel.TheVariants.{ToTask, ToAcker}
use Rattle.event_worlds.specs.tree_model.declared.messages.Tuple.{Tuple}
use Rattle.event_worlds.specs.taken_records.Cuts.{Cut}
use Rattle.event_worlds.specs.tuple_account.Histories.{History, Packet, joined, nothing, of_parcel, of_verdict, taken}
use Rattle.event_worlds.proofs.tuple_account.Moving.{taken-joined}
use Rattle.worker_rounds.specs.Running.{round_by}
use Rattle.worker_stretches.specs.event_engine.Shutting.{shutting}
use Rattle.worker_stretches.specs.world_progress.Running as specs

-- ---- inboxes with one changed

tasks-from : (f : Packet → ℕ) (a : ℕ) (sides : List TaskSide) (i n : ℕ) (y d : TaskSide) → i < length sides → n ≡ a + i
    → weigh_task_inboxes f a (set sides i y) + weigh (λ (x : Tuple). f (of_parcel (ToTask n x))) (get_or sides i d).inbox ≡ weigh_task_inboxes f a sides + weigh (λ (x : Tuple). f (of_parcel (ToTask n x))) y.inbox
tasks-from f a [] i n y d below at = absurd (omega arith)
tasks-from f a (x ∷ xs) zero n y d below at = let e : n ≡ a = omega arith in rw e (omega arith)
tasks-from f a (x ∷ xs) (suc i) n y d below at = let rest = tasks-from f (a + 1) xs i n y d (omega arith) (omega arith) in omega arith

ackers-from : (f : Packet → ℕ) (a : ℕ) (sides : List AckerSide) (i n : ℕ) (y d : AckerSide) → i < length sides → n ≡ a + i
    → weigh_acker_inboxes f a (set sides i y) + weigh (λ (x : AckMsg). f (of_parcel (ToAcker n x))) (get_or sides i d).inbox ≡ weigh_acker_inboxes f a sides + weigh (λ (x : AckMsg). f (of_parcel (ToAcker n x))) y.inbox
ackers-from f a [] i n y d below at = absurd (omega arith)
ackers-from f a (x ∷ xs) zero n y d below at = let e : n ≡ a = omega arith in rw e (omega arith)
ackers-from f a (x ∷ xs) (suc i) n y d below at = let rest = ackers-from f (a + 1) xs i n y d (omega arith) (omega arith) in omega arith

-- ---- what a step takes

module _ (t : Topology) (custom : Custom) (cut : Cut) (f : Packet → ℕ) where
  through-task : (n at : ℕ) (ids : List ℕ) (w : World) → n < length w.tasks → (task_at t n w).outbox ≡ []
      → taken f (task_adds t custom n at ids (task_at t n w)) + weigh_inboxes f (task_step t custom n ids w) ≡ weigh_inboxes f w
  through-task n at ids w below empty = outer (task_at t n w).outbox empty
    where
      inner : (box : List Tuple) → (task_at t n w).inbox ≡ box
          → taken f (executes t custom n at ids (task_at t n w).stand box) + weigh_inboxes f (with_task n (executed t custom n ids (task_at t n w) box) w) ≡ weigh_inboxes f w
      inner [] is = let s = tasks-from f 0 w.tasks n n (task_at t n w) (no_task t) below (omega arith) in omega arith
      inner (tuple ∷ rest) is =
          let s = tasks-from f 0 w.tasks n n (executed t custom n ids (task_at t n w) (tuple ∷ rest)) (no_task t) below (omega arith) in
          let b = ap (weigh (λ (x : Tuple). f (of_parcel (ToTask n x)))) is in omega arith

      outer : (out : List Parcel) → out ≡ []
          → taken f (task_adds_past t custom n at ids (task_at t n w) out) + weigh_inboxes f (sent t (acted_past t custom n ids (task_at t n w) out).parcel (with_task n (acted_past t custom n ids (task_at t n w) out).side w)) ≡ weigh_inboxes f w
      outer [] is = inner (task_at t n w).inbox refl
      outer (p ∷ rest) is = absurd (let l = ap length is in omega arith)

  through-acker : (n : ℕ) (w : World) → n < length w.ackers → (acker_at n w).outbox ≡ []
      → taken f (acker_adds n t.buckets w.tick (acker_at n w)) + weigh_inboxes f (acker_step t n w) ≡ weigh_inboxes f w
  through-acker n w below empty = outer (acker_at n w).outbox empty
    where
      inner : (box : List AckMsg) → (acker_at n w).inbox ≡ box
          → taken f (record (meets_front n box (aged t.buckets (w.tick - (acker_at n w).counted) (acker_at n w).entries)) { dropped = lost t.buckets (w.tick - (acker_at n w).counted) (acker_at n w).entries })
          + weigh_inboxes f (record w { ackers = set w.ackers n (meets (counted_up t.buckets w.tick (acker_at n w)) box); verdicts = w.verdicts ++ [] }) ≡ weigh_inboxes f w
      inner [] is =
          let s = ackers-from f 0 w.ackers n n (counted_up t.buckets w.tick (acker_at n w)) no_acker below (omega arith) in
          let v = weigh-append (λ (v : Verdict). f (of_verdict v)) w.verdicts [] in omega arith
      inner (m ∷ rest) is =
          let s = ackers-from f 0 w.ackers n n (meets (counted_up t.buckets w.tick (acker_at n w)) (m ∷ rest)) no_acker below (omega arith) in
          let b = ap (weigh (λ (x : AckMsg). f (of_parcel (ToAcker n x)))) is in
          let v = weigh-append (λ (v : Verdict). f (of_verdict v)) w.verdicts [] in omega arith

      outer : (out : List Verdict) → out ≡ []
          → taken f (acker_adds_past n t.buckets w.tick (acker_at n w) out)
          + weigh_inboxes f (record w { ackers = set w.ackers n (answered_past t.buckets w.tick (acker_at n w) out).side; verdicts = w.verdicts ++ option_to_list (answered_past t.buckets w.tick (acker_at n w) out).verdict }) ≡ weigh_inboxes f w
      outer [] is = inner (acker_at n w).inbox refl
      outer (v ∷ rest) is = absurd (let l = ap length is in omega arith)

  through-turn : (at : ℕ) (ids : List ℕ) (w : World) → w.orders ≡ [] → taken f (turn_adds t cut at ids w) + weigh_inboxes f (turn_step t cut ids w) ≡ weigh_inboxes f w
  through-turn at ids w empty = outer w.orders empty
    where
      outer : (out : List Parcel) → out ≡ [] → taken f (turn_adds_past t cut at ids w out) + weigh_inboxes f (turn_past t cut ids w out) ≡ weigh_inboxes f w
      outer [] is = let e = weigh-front (λ (v : Verdict). f (of_verdict v)) w.verdicts in omega arith
      outer (p ∷ rest) is = absurd (let l = ap length is in omega arith)

  through-outcome : (how : CommitOutcome) (w : World) → weigh_inboxes f (outcome_step t cut how w) ≡ weigh_inboxes f w
  through-outcome how w = by w.desk.out
    where
      by : (b : Bool) → weigh_inboxes f (cond b (with_progress t cut (decided t cut how w.desk) w) w) ≡ weigh_inboxes f w
      by true = refl
      by false = refl

-- ---- worlds in which nothing is to be handed over by those that come next

-- tasks and ackers from these numbers on have nothing to hand over, nor has the coordinator
pub record IsFree (t : Topology) (a b : ℕ) (w : World) : Type 0 where
  pub task_count : length w.tasks ≡ tasks_in_all t
  pub acker_count : length w.ackers ≡ t.ackers
  pub tasks : (n : ℕ) → a ≤ n → (task_at t n w).outbox ≡ []
  pub ackers : (n : ℕ) → b ≤ n → (acker_at n w).outbox ≡ []
  pub orders : w.orders ≡ []

module _ (t : Topology) (custom : Custom) (cut : Cut) where
  free-task : (a b n : ℕ) (ids : List ℕ) (w : World) → a ≤ n → IsFree t a b w → IsFree t (n + 1) b (task_step t custom n ids w)
  free-task a b n ids w from is = outer (task_at t n w).outbox (is.tasks n from)
    where
      outer : (out : List Parcel) → out ≡ [] → IsFree t (n + 1) b (sent t (acted_past t custom n ids (task_at t n w) out).parcel (with_task n (acted_past t custom n ids (task_at t n w) out).side w))
      outer [] e = record {
        task_count = length-set w.tasks n (executed t custom n ids (task_at t n w) (task_at t n w).inbox) ∙ is.task_count;
        acker_count = is.acker_count;
        tasks = λ m past.
            ap (λ (side : TaskSide). side.outbox) (get_or-set_other w.tasks n m (executed t custom n ids (task_at t n w) (task_at t n w).inbox) (no_task t) (λ same. omega arith))
            ∙ is.tasks m (omega arith);
        ackers = is.ackers;
        orders = is.orders;
      }
      outer (p ∷ rest) e = absurd (let l = ap length e in omega arith)

  free-acker : (a b n : ℕ) (w : World) → b ≤ n → IsFree t a b w → IsFree t a (n + 1) (acker_step t n w)
  free-acker a b n w from is = record {
    task_count = is.task_count;
    acker_count = length-set w.ackers n (answered_past t.buckets w.tick (acker_at n w) (acker_at n w).outbox).side ∙ is.acker_count;
    tasks = is.tasks;
    ackers = λ m past.
        ap (λ (side : AckerSide). side.outbox) (get_or-set_other w.ackers n m (answered_past t.buckets w.tick (acker_at n w) (acker_at n w).outbox).side no_acker (λ same. omega arith))
        ∙ is.ackers m (omega arith);
    orders = is.orders;
  }

  free-outcome : (a b : ℕ) (how : CommitOutcome) (w : World) → IsFree t a b w → IsFree t a b (outcome_step t cut how w)
  free-outcome a b how w is = by w.desk.out
    where
      by : (c : Bool) → IsFree t a b (cond c (with_progress t cut (decided t cut how w.desk) w) w)
      by true = record { task_count = is.task_count; acker_count = is.acker_count; tasks = is.tasks; ackers = is.ackers; orders = is.orders }
      by false = is

-- ---- steps in the order of a round

-- outcomes and ticks alone
abbrev pub IsQuiet : List Step → Type 0
IsQuiet [] = Unit {0}
IsQuiet (of_task n ∷ steps) = ⊥
IsQuiet (of_acker n ∷ steps) = ⊥
IsQuiet (of_turn ∷ steps) = ⊥
IsQuiet (of_outcome ∷ steps) = IsQuiet steps
IsQuiet (of_tick ∷ steps) = IsQuiet steps
IsQuiet (of_shut q ∷ steps) = ⊥
IsQuiet (of_open q ∷ steps) = ⊥

-- partitions that are shut and opened, tasks and ackers by rising numbers, from these on, and one turn
-- at most
abbrev pub IsRising : Topology → ℕ → ℕ → List Step → Type 0
IsRising t a b [] = Unit {0}
IsRising t a b (of_task n ∷ steps) = (a ≤ n) × (n < tasks_in_all t) × IsRising t (n + 1) b steps
IsRising t a b (of_acker n ∷ steps) = (b ≤ n) × (n < t.ackers) × IsRising t a (n + 1) steps
IsRising t a b (of_turn ∷ steps) = IsQuiet steps
IsRising t a b (of_outcome ∷ steps) = IsRising t a b steps
IsRising t a b (of_tick ∷ steps) = IsRising t a b steps
IsRising t a b (of_shut q ∷ steps) = IsRising t a b steps
IsRising t a b (of_open q ∷ steps) = IsRising t a b steps

quiet-first : (xs ys : List Step) → IsQuiet (xs ++ ys) → IsQuiet xs
quiet-first [] ys is = tt
quiet-first (of_task n ∷ xs) ys is = is
quiet-first (of_acker n ∷ xs) ys is = is
quiet-first (of_turn ∷ xs) ys is = is
quiet-first (of_outcome ∷ xs) ys is = quiet-first xs ys is
quiet-first (of_tick ∷ xs) ys is = quiet-first xs ys is
quiet-first (of_shut q ∷ xs) ys is = is
quiet-first (of_open q ∷ xs) ys is = is

-- the parts of a round
pub parts-of-round : (t : Topology) (ticks : ℕ)
    → round_with t ticks ≡ map of_task (range_with_len 0 (tasks_in_all t)) ++ (map of_acker (range_with_len 0 t.ackers) ++ (replicate ticks of_tick ++ coordinator_steps))
parts-of-round t ticks =
    let tasks : List Step = map of_task (range_with_len 0 (tasks_in_all t)) in
    let ackers : List Step = map of_acker (range_with_len 0 t.ackers) in
    append_assoc (tasks ++ ackers) (replicate ticks of_tick) coordinator_steps ∙ append_assoc tasks ackers (replicate ticks of_tick ++ coordinator_steps)

module _ (t : Topology) where
  pub rising-first : (a b : ℕ) (xs ys : List Step) → IsRising t a b (xs ++ ys) → IsRising t a b xs
  rising-first a b [] ys is = tt
  rising-first a b (of_task n ∷ xs) ys is = (is.0, is.1, rising-first (n + 1) b xs ys is.2)
  rising-first a b (of_acker n ∷ xs) ys is = (is.0, is.1, rising-first a (n + 1) xs ys is.2)
  rising-first a b (of_turn ∷ xs) ys is = quiet-first xs ys is
  rising-first a b (of_outcome ∷ xs) ys is = rising-first a b xs ys is
  rising-first a b (of_tick ∷ xs) ys is = rising-first a b xs ys is
  rising-first a b (of_shut q ∷ xs) ys is = rising-first a b xs ys is
  rising-first a b (of_open q ∷ xs) ys is = rising-first a b xs ys is

  rising-tasks : (a b count : ℕ) (rest : List Step) → a + count ≤ tasks_in_all t → ((c : ℕ) → IsRising t c b rest) → IsRising t a b (map of_task (range_with_len a count) ++ rest)
  rising-tasks a b zero rest below on = on a
  rising-tasks a b (suc count) rest below on = (omega arith, omega arith, rising-tasks (a + 1) b count rest (omega arith) on)

  rising-ackers : (a b count : ℕ) (rest : List Step) → b + count ≤ t.ackers → ((c : ℕ) → IsRising t a c rest) → IsRising t a b (map of_acker (range_with_len b count) ++ rest)
  rising-ackers a b zero rest below on = on b
  rising-ackers a b (suc count) rest below on = (omega arith, omega arith, rising-ackers a (b + 1) count rest (omega arith) on)

  rising-ticks : (a b ticks : ℕ) → IsRising t a b (replicate ticks of_tick ++ coordinator_steps)
  rising-ticks a b zero = tt
  rising-ticks a b (suc ticks) = rising-ticks a b ticks

  rising-round : (ticks : ℕ) → IsRising t 0 0 (round_with t ticks)
  rising-round ticks =
      subst (IsRising t 0 0) (sym (parts-of-round t ticks))
      (rising-tasks 0 0 (tasks_in_all t) (map of_acker (range_with_len 0 t.ackers) ++ (replicate ticks of_tick ++ coordinator_steps)) (omega arith)
      (λ a. rising-ackers a 0 t.ackers (replicate ticks of_tick ++ coordinator_steps) (omega arith) (λ b. rising-ticks a b ticks)))

  rising-shut : (a b shut : ℕ) (qs : List ℕ) (rest : List Step) → IsRising t a b rest → IsRising t a b (map (shutting shut) qs ++ rest)
  rising-shut a b shut [] rest is = is
  rising-shut a b shut (q ∷ qs) rest is = by (is_shut shut q) (rising-shut a b shut qs rest is)
    where
      by : (c : Bool) → IsRising t a b (map (shutting shut) qs ++ rest) → IsRising t a b (cond c (of_shut q) (of_open q) ∷ (map (shutting shut) qs ++ rest))
      by true more = more
      by false more = more

  -- a round is in order
  pub rising-by : (shut ticks : ℕ) → IsRising t 0 0 (round_by t shut ticks)
  rising-by shut ticks = rising-shut 0 0 shut (range_with_len 0 t.partitions) (round_with t ticks) (rising-round ticks)

-- ---- runs

module _ (t : Topology) (custom : Custom) (cut : Cut) (words : ℕ → ℕ → ℕ) (outcomes : List CommitOutcome) where
  abbrev so_far : List Step → History → Known → History
  so_far steps h k = specs.so_far t custom cut words outcomes steps h k

  abbrev goes : Step → Known → Known
  goes s k = step t custom cut words outcomes s k

  abbrev after : Step → Known → Known
  after s k = next t custom cut words outcomes s k

  abbrev adds : Step → Known → History
  adds s k = step_adds t custom cut words s k

  abbrev goes_all : List Step → Known → Known
  goes_all steps k = run t custom cut words outcomes steps k

  -- what was taken from boxes and what stands in inboxes come to what they came to
  abbrev pub Uses : (Packet → ℕ) → History → Known → History → Known → Type 0
  Uses f h k later new = taken f later + weigh_inboxes f new.world ≡ taken f h + weigh_inboxes f k.world

  uses-next : (f : Packet → ℕ) (s : Step) (h : History) (k : Known) → taken f (adds s k) + weigh_inboxes f (goes s k).world ≡ weigh_inboxes f k.world
      → Uses f h k (joined h (added t custom cut words s k)) (after s k)
  uses-next f s h k same = by (is_over t cut k.world)
    where
      by : (b : Bool) → taken f (joined h (cond b nothing (adds s k))) + weigh_inboxes f (cond b k (goes s k)).world ≡ taken f h + weigh_inboxes f k.world
      by true = let j = taken-joined f h nothing in omega arith
      by false = let j = taken-joined f h (adds s k) in omega arith

  task-same : (f : Packet → ℕ) (n : ℕ) (k : Known) → n < length k.world.tasks → (task_at t n k.world).outbox ≡ [] → taken f (adds (of_task n) k) + weigh_inboxes f (goes (of_task n) k).world ≡ weigh_inboxes f k.world
  unfolding step
  task-same f n k below empty = through-task t custom cut f n (k.counts n) (next_words words k.counts n (task_needs t custom (task_at t n k.world))) k.world below empty

  acker-same : (f : Packet → ℕ) (n : ℕ) (k : Known) → n < length k.world.ackers → (acker_at n k.world).outbox ≡ [] → taken f (adds (of_acker n) k) + weigh_inboxes f (goes (of_acker n) k).world ≡ weigh_inboxes f k.world
  unfolding step
  acker-same f n k below empty = through-acker t custom cut f n k.world below empty

  turn-same : (f : Packet → ℕ) (k : Known) → k.world.orders ≡ [] → taken f (adds of_turn k) + weigh_inboxes f (goes of_turn k).world ≡ weigh_inboxes f k.world
  unfolding step
  turn-same f k empty = through-turn t custom cut f (k.counts (tasks_in_all t)) (next_words words k.counts (tasks_in_all t) (turn_needs t cut k.world)) k.world empty

  outcome-same : (f : Packet → ℕ) (k : Known) → taken f (adds of_outcome k) + weigh_inboxes f (goes of_outcome k).world ≡ weigh_inboxes f k.world
  unfolding step
  outcome-same f k = let e = through-outcome t custom cut f (next_outcome outcomes k.world.fates) k.world in omega arith

  shut-same : (f : Packet → ℕ) (q : ℕ) (k : Known) → taken f (adds (of_shut q) k) + weigh_inboxes f (goes (of_shut q) k).world ≡ weigh_inboxes f k.world
  unfolding step
  shut-same f q k = omega arith

  open-same : (f : Packet → ℕ) (q : ℕ) (k : Known) → taken f (adds (of_open q) k) + weigh_inboxes f (goes (of_open q) k).world ≡ weigh_inboxes f k.world
  unfolding step
  open-same f q k = omega arith

  tick-same : (f : Packet → ℕ) (k : Known) → taken f (adds of_tick k) + weigh_inboxes f (goes of_tick k).world ≡ weigh_inboxes f k.world
  unfolding step
  tick-same f k = omega arith

  free-of_task : (a b n : ℕ) (k : Known) → a ≤ n → IsFree t a b k.world → IsFree t (n + 1) b (goes (of_task n) k).world
  unfolding step
  free-of_task a b n k from is = free-task t custom cut a b n (next_words words k.counts n (task_needs t custom (task_at t n k.world))) k.world from is

  free-of_acker : (a b n : ℕ) (k : Known) → b ≤ n → IsFree t a b k.world → IsFree t a (n + 1) (goes (of_acker n) k).world
  unfolding step
  free-of_acker a b n k from is = free-acker t custom cut a b n k.world from is

  free-of_outcome : (a b : ℕ) (k : Known) → IsFree t a b k.world → IsFree t a b (goes of_outcome k).world
  unfolding step
  free-of_outcome a b k is = free-outcome t custom cut a b (next_outcome outcomes k.world.fates) k.world is

  free-of_tick : (a b : ℕ) (k : Known) → IsFree t a b k.world → IsFree t a b (goes of_tick k).world
  unfolding step
  free-of_tick a b k is = record { task_count = is.task_count; acker_count = is.acker_count; tasks = is.tasks; ackers = is.ackers; orders = is.orders }

  free-of_shut : (a b q : ℕ) (k : Known) → IsFree t a b k.world → IsFree t a b (goes (of_shut q) k).world
  unfolding step
  free-of_shut a b q k is = record { task_count = is.task_count; acker_count = is.acker_count; tasks = is.tasks; ackers = is.ackers; orders = is.orders }

  free-of_open : (a b q : ℕ) (k : Known) → IsFree t a b k.world → IsFree t a b (goes (of_open q) k).world
  unfolding step
  free-of_open a b q k is = record { task_count = is.task_count; acker_count = is.acker_count; tasks = is.tasks; ackers = is.ackers; orders = is.orders }

  free-next : (c d : ℕ) (s : Step) (k : Known) → IsFree t c d k.world → IsFree t c d (goes s k).world → IsFree t c d (after s k).world
  free-next c d s k was is = by (is_over t cut k.world)
    where
      by : (b : Bool) → IsFree t c d (cond b k (goes s k)).world
      by true = was
      by false = is

  free-later : (a b c d : ℕ) (w : World) → a ≤ c → b ≤ d → IsFree t a b w → IsFree t c d w
  free-later a b c d w up on is = record {
    task_count = is.task_count;
    acker_count = is.acker_count;
    tasks = λ n past. is.tasks n (omega arith);
    ackers = λ n past. is.ackers n (omega arith);
    orders = is.orders;
  }

  uses-quiet : (f : Packet → ℕ) (steps : List Step) (h : History) (k : Known) → IsQuiet steps → Uses f h k (so_far steps h k) (goes_all steps k)
  uses-quiet f [] h k is = refl
  uses-quiet f (of_task n ∷ steps) h k is = absurd is
  uses-quiet f (of_acker n ∷ steps) h k is = absurd is
  uses-quiet f (of_turn ∷ steps) h k is = absurd is
  uses-quiet f (of_outcome ∷ steps) h k is = uses-quiet f steps (joined h (added t custom cut words of_outcome k)) (after of_outcome k) is ∙ uses-next f of_outcome h k (outcome-same f k)
  uses-quiet f (of_tick ∷ steps) h k is = uses-quiet f steps (joined h (added t custom cut words of_tick k)) (after of_tick k) is ∙ uses-next f of_tick h k (tick-same f k)
  uses-quiet f (of_shut q ∷ steps) h k is = absurd is
  uses-quiet f (of_open q ∷ steps) h k is = absurd is

  -- steps in the order of a round take what they take from inboxes
  pub uses-run : (f : Packet → ℕ) (a b : ℕ) (steps : List Step) (h : History) (k : Known) → IsRising t a b steps → IsFree t a b k.world → Uses f h k (so_far steps h k) (goes_all steps k)
  uses-run f a b [] h k is free = refl
  uses-run f a b (of_task n ∷ steps) h k is free =
      let there : n < length k.world.tasks = (let c = free.task_count in let x = is.1 in omega arith) in
      let from : a ≤ n = is.0 in
      uses-run f (n + 1) b steps (joined h (added t custom cut words (of_task n) k)) (after (of_task n) k) is.2
      (free-next (n + 1) b (of_task n) k (free-later a b (n + 1) b k.world (omega arith) (omega arith) free) (free-of_task a b n k from free))
      ∙ uses-next f (of_task n) h k (task-same f n k there (free.tasks n from))
  uses-run f a b (of_acker n ∷ steps) h k is free =
      let there : n < length k.world.ackers = (let c = free.acker_count in let x = is.1 in omega arith) in
      let from : b ≤ n = is.0 in
      uses-run f a (n + 1) steps (joined h (added t custom cut words (of_acker n) k)) (after (of_acker n) k) is.2
      (free-next a (n + 1) (of_acker n) k (free-later a b a (n + 1) k.world (omega arith) (omega arith) free) (free-of_acker a b n k from free))
      ∙ uses-next f (of_acker n) h k (acker-same f n k there (free.ackers n from))
  uses-run f a b (of_turn ∷ steps) h k is free =
      uses-quiet f steps (joined h (added t custom cut words of_turn k)) (after of_turn k) is ∙ uses-next f of_turn h k (turn-same f k free.orders)
  uses-run f a b (of_outcome ∷ steps) h k is free =
      uses-run f a b steps (joined h (added t custom cut words of_outcome k)) (after of_outcome k) is (free-next a b of_outcome k free (free-of_outcome a b k free)) ∙ uses-next f of_outcome h k (outcome-same f k)
  uses-run f a b (of_tick ∷ steps) h k is free =
      uses-run f a b steps (joined h (added t custom cut words of_tick k)) (after of_tick k) is (free-next a b of_tick k free (free-of_tick a b k free)) ∙ uses-next f of_tick h k (tick-same f k)
  uses-run f a b (of_shut q ∷ steps) h k is free =
      uses-run f a b steps (joined h (added t custom cut words (of_shut q) k)) (after (of_shut q) k) is (free-next a b (of_shut q) k free (free-of_shut a b q k free)) ∙ uses-next f (of_shut q) h k (shut-same f q k)
  uses-run f a b (of_open q ∷ steps) h k is free =
      uses-run f a b steps (joined h (added t custom cut words (of_open q) k)) (after (of_open q) k) is (free-next a b (of_open q) k free (free-of_open a b q k free)) ∙ uses-next f (of_open q) h k (open-same f q k)

  -- ---- what led to a world, and what was heard

  -- each step leads on, with what it adds
  abbrev pub LeadsOn : Type 0
  LeadsOn = (s : Step) (h : History) (k : Known) → LedTo t custom cut words h k → LedTo t custom cut words (joined h (added t custom cut words s k)) (after s k)

  -- and before a commit fails a verdict is heard
  abbrev pub HearsOn : Type 0
  HearsOn =
      (s : Step) (h : History) (k : Known) → LedTo t custom cut words h k → HeardBeforeFailing h k.world.fates
      → HeardBeforeFailing (joined h (added t custom cut words s k)) (after s k).world.fates

  pub led-run : LeadsOn → (steps : List Step) (h : History) (k : Known) → LedTo t custom cut words h k → LedTo t custom cut words (so_far steps h k) (goes_all steps k)
  led-run leads [] h k led = led
  led-run leads (s ∷ steps) h k led = led-run leads steps (joined h (added t custom cut words s k)) (after s k) (leads s h k led)

  pub heard-run : LeadsOn → HearsOn → (steps : List Step) (h : History) (k : Known) → LedTo t custom cut words h k → HeardBeforeFailing h k.world.fates → HeardBeforeFailing (so_far steps h k) (goes_all steps k).world.fates
  heard-run leads hears [] h k led heard = heard
  heard-run leads hears (s ∷ steps) h k led heard = heard-run leads hears steps (joined h (added t custom cut words s k)) (after s k) (leads s h k led) (hears s h k led heard)
