-- The ticks of a round, and the partitions that are shut before it.
use Rattle.std.proofs.Common.{◌≡◌, ◌≤◌, ◌<◌, ℕ, zero, suc, ◌+◌, ◌-◌, ◌^◌, Bool, true, false, cond, List, [], ◌∷◌, ◌++◌, append-nil, map, Option, None, Some, refl, sym, ap, subst, ◌∙◌, arith}
use Rattle.std.specs.Prelude.{min, replicate}
use Rattle.std.specs.List.{AllByRecursion, range_with_len}
use Rattle.event_worlds.specs.bolt_ops.RowOp.{Custom}
use Rattle.event_worlds.specs.commit_turns.Desks.{Desk}
use Rattle.event_worlds.specs.commit_turns.Turns.{decided}
use Rattle.event_worlds.proofs.counted_items.Each.{each-append}
use Rattle.event_worlds.specs.record_offers.Offers.{is_shut}
use Rattle.event_worlds.specs.Rounds.{round_with, ticks_in}
use Rattle.schedule_core.proofs.Rounding.{no-ticks-before, open-before, open-round}
use Rattle.event_worlds.specs.Worlds.{Known, Step, World, acted_past, coordinator_steps, delivered, is_over, next, next_outcome, next_words, of_acker, of_open, of_outcome, of_shut, of_task, of_tick, of_turn, run, sent, step, task_at, task_needs, turn_needs, turn_past, with_progress, with_task}
use Rattle.event_worlds.specs.state_parts.declared.answer.CommitOutcome.{CommitOutcome}
use Rattle.event_worlds.specs.topology_plan.Topology.{Topology, tasks_in_all}
use Rattle.event_worlds.specs.tree_model.declared.messages.Parcel.{Parcel}
use Rattle.event_worlds.specs.tree_model.declared.messages.Parcel.TheVariants.{ToTask, ToAcker}
use Rattle.event_worlds.specs.taken_records.Cuts.{Cut}
use Rattle.worker_rounds.proofs.Through.{parts-of-round}
use Rattle.worker_rounds.specs.Running.{round_by}
use Rattle.worker_stretches.specs.event_engine.Shutting.{shutting, shutting_steps}
use Rattle.worker_stretches.specs.world_progress.Rounding.{ShutsNone}

-- a tick's number and the coordinator's desk stay as they are
record IsTimeless (old new : World) : Type 0 where
  tick : new.tick ≡ old.tick
  desk : new.desk ≡ old.desk

timeless-none : (w : World) → IsTimeless w w
timeless-none w = record { tick = refl; desk = refl }

timeless-delivered : (t : Topology) (p : Parcel) (w : World) → IsTimeless w (delivered t p w)
timeless-delivered t (ToTask n tuple) w = record { tick = refl; desk = refl }
timeless-delivered t (ToAcker n m) w = record { tick = refl; desk = refl }

timeless-sent : (t : Topology) (o : Option Parcel) (w : World) → IsTimeless w (sent t o w)
timeless-sent t None w = timeless-none w
timeless-sent t (Some p) w = timeless-delivered t p w

tick-turn : (t : Topology) (cut : Cut) (ids : List ℕ) (w : World) (out : List Parcel) → (turn_past t cut ids w out).tick ≡ w.tick
tick-turn t cut ids w [] = refl
tick-turn t cut ids w (p ∷ rest) = (timeless-delivered t p (record w { orders = rest })).tick

tick-outcome : (t : Topology) (cut : Cut) (how : CommitOutcome) (w : World) (b : Bool) → (cond b (with_progress t cut (decided t cut how w.desk) w) w).tick ≡ w.tick
tick-outcome t cut how w true = refl
tick-outcome t cut how w false = refl

module _ (t : Topology) (custom : Custom) (cut : Cut) (words : ℕ → ℕ → ℕ) (outcomes : List CommitOutcome) where
  abbrev goes : Step → Known → Known
  goes s k = step t custom cut words outcomes s k

  abbrev after : Step → Known → Known
  after s k = next t custom cut words outcomes s k

  abbrev goes_all : List Step → Known → Known
  goes_all steps k = run t custom cut words outcomes steps k

  pub run-joined : (xs ys : List Step) (k : Known) → goes_all (xs ++ ys) k ≡ goes_all ys (goes_all xs k)
  run-joined [] ys k = refl
  run-joined (x ∷ xs) ys k = run-joined xs ys (after x k)

  timeless-task : (n : ℕ) (k : Known) → IsTimeless k.world (goes (of_task n) k).world
  unfolding step
  timeless-task n k =
      let a = acted_past t custom n (next_words words k.counts n (task_needs t custom (task_at t n k.world))) (task_at t n k.world) (task_at t n k.world).outbox in
      let s = timeless-sent t a.parcel (with_task n a.side k.world) in record { tick = s.tick; desk = s.desk }

  timeless-acker : (n : ℕ) (k : Known) → IsTimeless k.world (goes (of_acker n) k).world
  unfolding step
  timeless-acker n k = record { tick = refl; desk = refl }

  timeless-next : (s : Step) (k : Known) → IsTimeless k.world (goes s k).world → IsTimeless k.world (after s k).world
  timeless-next s k is = by (is_over t cut k.world)
    where
      by : (b : Bool) → IsTimeless k.world (cond b k (goes s k)).world
      by true = timeless-none k.world
      by false = is

  timeless-then : (u v w : World) → IsTimeless u v → IsTimeless v w → IsTimeless u w
  timeless-then u v w one two = record { tick = two.tick ∙ one.tick; desk = two.desk ∙ one.desk }

  timeless-tasks : (xs : List ℕ) (k : Known) → IsTimeless k.world (goes_all (map of_task xs) k).world
  timeless-tasks [] k = timeless-none k.world
  timeless-tasks (x ∷ xs) k =
      timeless-then k.world (after (of_task x) k).world (goes_all (map of_task xs) (after (of_task x) k)).world (timeless-next (of_task x) k (timeless-task x k)) (timeless-tasks xs (after (of_task x) k))

  timeless-ackers : (xs : List ℕ) (k : Known) → IsTimeless k.world (goes_all (map of_acker xs) k).world
  timeless-ackers [] k = timeless-none k.world
  timeless-ackers (x ∷ xs) k =
      timeless-then k.world (after (of_acker x) k).world (goes_all (map of_acker xs) (after (of_acker x) k)).world (timeless-next (of_acker x) k (timeless-acker x k)) (timeless-ackers xs (after (of_acker x) k))

  timeless-of_shut : (q : ℕ) (k : Known) → IsTimeless k.world (goes (of_shut q) k).world
  unfolding step
  timeless-of_shut q k = record { tick = refl; desk = refl }

  timeless-of_open : (q : ℕ) (k : Known) → IsTimeless k.world (goes (of_open q) k).world
  unfolding step
  timeless-of_open q k = record { tick = refl; desk = refl }

  timeless-shut : (shut : ℕ) (qs : List ℕ) (k : Known) → IsTimeless k.world (goes_all (map (shutting shut) qs) k).world
  timeless-shut shut [] k = timeless-none k.world
  timeless-shut shut (q ∷ qs) k = by (is_shut shut q) (timeless-shut shut qs)
    where
      by : (b : Bool) → ((j : Known) → IsTimeless j.world (goes_all (map (shutting shut) qs) j).world) → IsTimeless k.world (goes_all (map (shutting shut) qs) (after (cond b (of_shut q) (of_open q)) k)).world
      by true rest = timeless-then k.world (after (of_shut q) k).world (goes_all (map (shutting shut) qs) (after (of_shut q) k)).world (timeless-next (of_shut q) k (timeless-of_shut q k)) (rest (after (of_shut q) k))
      by false rest = timeless-then k.world (after (of_open q) k).world (goes_all (map (shutting shut) qs) (after (of_open q) k)).world (timeless-next (of_open q) k (timeless-of_open q k)) (rest (after (of_open q) k))

  over-same : (u v : World) → IsTimeless u v → is_over t cut u ≡ false → is_over t cut v ≡ false
  over-same u v same on = ap (λ (d : Desk). is_over t cut (record u { desk = d })) same.desk ∙ on

  -- a tick, where all is not over
  record Ticked (k : Known) : Type 0 where
    tick : (after of_tick k).world.tick ≡ min (k.world.tick + 1) (2 ^ 64 - 1)
    on : is_over t cut (after of_tick k).world ≡ false

  ticked-one : (k : Known) → is_over t cut k.world ≡ false → Ticked k
  unfolding step
  ticked-one k on = record {
    tick = ap (λ (b : Bool). (cond b k (goes of_tick k)).world.tick) on;
    on = ap (λ (b : Bool). is_over t cut (cond b k (goes of_tick k)).world) on ∙ on;
  }

  ticked-all : (n : ℕ) (k : Known) → is_over t cut k.world ≡ false → k.world.tick ≤ 2 ^ 64 - 1 → (goes_all (replicate n of_tick) k).world.tick ≡ min (k.world.tick + n) (2 ^ 64 - 1)
  ticked-all zero k on low = omega arith
  ticked-all (suc n) k on low =
      let one = ticked-one k on in
      let e = one.tick in
      let rest = ticked-all n (after of_tick k) one.on (omega arith) in omega arith

  tick-of_turn : (k : Known) → (goes of_turn k).world.tick ≡ k.world.tick
  unfolding step
  tick-of_turn k = tick-turn t cut (next_words words k.counts (tasks_in_all t) (turn_needs t cut k.world)) k.world k.world.orders

  tick-of_outcome : (k : Known) → (goes of_outcome k).world.tick ≡ k.world.tick
  unfolding step
  tick-of_outcome k = tick-outcome t cut (next_outcome outcomes k.world.fates) k.world k.world.desk.out

  tick-next : (s : Step) (k : Known) → (goes s k).world.tick ≡ k.world.tick → (after s k).world.tick ≡ k.world.tick
  tick-next s k is = by (is_over t cut k.world)
    where
      by : (b : Bool) → (cond b k (goes s k)).world.tick ≡ k.world.tick
      by true = refl
      by false = is

  tick-closed : (k : Known) → (goes_all coordinator_steps k).world.tick ≡ k.world.tick
  tick-closed k = tick-next of_outcome (after of_turn k) (tick-of_outcome (after of_turn k)) ∙ tick-next of_turn k (tick-of_turn k)

  round-tick : (ticks : ℕ) (k : Known) → is_over t cut k.world ≡ false → k.world.tick ≤ 2 ^ 64 - 1 → (goes_all (round_with t ticks) k).world.tick ≡ min (k.world.tick + ticks) (2 ^ 64 - 1)
  round-tick ticks k on low =
      let tasks : List Step = map of_task (range_with_len 0 (tasks_in_all t)) in
      let ackers : List Step = map of_acker (range_with_len 0 t.ackers) in
      let one : Known = goes_all tasks k in
      let two : Known = goes_all ackers one in
      let first : IsTimeless k.world one.world = timeless-tasks (range_with_len 0 (tasks_in_all t)) k in
      let second : IsTimeless one.world two.world = timeless-ackers (range_with_len 0 t.ackers) one in
      let both : IsTimeless k.world two.world = timeless-then k.world one.world two.world first second in
      let same = both.tick in
      let three : Known = goes_all (replicate ticks of_tick) two in
      let is : goes_all (round_with t ticks) k ≡ goes_all coordinator_steps three =
      ap (λ (steps : List Step). goes_all steps k) (parts-of-round t ticks)
      ∙ run-joined tasks (ackers ++ (replicate ticks of_tick ++ coordinator_steps)) k
      ∙ run-joined ackers (replicate ticks of_tick ++ coordinator_steps) one
      ∙ run-joined (replicate ticks of_tick) coordinator_steps two in
      ap (λ (j : Known). j.world.tick) is ∙ tick-closed three ∙ ticked-all ticks two (over-same k.world two.world both on) (omega arith)
      ∙ ap (λ (n : ℕ). min (n + ticks) (2 ^ 64 - 1)) same

  -- a round from a world that is not over has so many ticks
  pub tick-round : (shut ticks : ℕ) (k : Known) → is_over t cut k.world ≡ false → k.world.tick ≤ 2 ^ 64 - 1 → (goes_all (round_by t shut ticks) k).world.tick ≡ min (k.world.tick + ticks) (2 ^ 64 - 1)
  tick-round shut ticks k on low =
      let begun : Known = goes_all (shutting_steps t.partitions shut) k in
      let first : IsTimeless k.world begun.world = timeless-shut shut (range_with_len 0 t.partitions) k in
      let same = first.tick in
      ap (λ (j : Known). j.world.tick) (run-joined (shutting_steps t.partitions shut) (round_with t ticks) k)
      ∙ round-tick ticks begun (over-same k.world begun.world first on) (omega arith)
      ∙ ap (λ (n : ℕ). min (n + ticks) (2 ^ 64 - 1)) same

-- ---- partitions

-- by no bit a partition is shut
pub open-first : (t : Topology) (shut : ℕ) → (0 < t.partitions → shut ≡ 0) → AllByRecursion ShutsNone (shutting_steps t.partitions shut)
open-first t shut none = subst (AllByRecursion ShutsNone) (append-nil (shutting_steps t.partitions shut)) (open-before t.partitions shut [] none tt)

pub open-by : (t : Topology) (shut ticks : ℕ) → (0 < t.partitions → shut ≡ 0) → AllByRecursion ShutsNone (round_by t shut ticks)
open-by t shut ticks none = each-append ShutsNone (shutting_steps t.partitions shut) (round_with t ticks) (open-first t shut none) (open-round t ticks)

-- partitions that are shut and opened are no ticks
pub ticks-of-first : (t : Topology) (shut : ℕ) → ticks_in (shutting_steps t.partitions shut) ≡ 0
ticks-of-first t shut = ap ticks_in (sym (append-nil (shutting_steps t.partitions shut))) ∙ no-ticks-before t.partitions shut [] tt
