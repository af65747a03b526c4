-- How many ticks a run of steps hands out, and how many the coordinator counts.
use Rattle.std.proofs.Common.{◌≡◌, ℕ, ◌+◌, ◌≤◌, Bool, true, false, cond, List, [], ◌∷◌, ◌++◌, length, filter, Option, None, Some, refl, ap, ◌∙◌, arith}
use Rattle.std.proofs.lemmas.List.{length-append}
use Rattle.std.proofs.lemmas.List.Elements.{filter-append}
use Rattle.event_worlds.specs.attempt_fates.declared.fates.Attempt.{Attempt}
use Rattle.event_worlds.specs.bolt_ops.RowOp.{Custom}
use Rattle.event_worlds.specs.commit_turns.Account.{ended_of, ending_of, rows_at}
use Rattle.event_worlds.specs.commit_turns.Turns.{decided}
use Rattle.event_worlds.proofs.counted_items.Each.{each-weaker}
use Rattle.event_worlds.specs.Accounted.{Accounted, AreCaused, IsCausedEnd}
use Rattle.event_worlds.specs.Rounds.{is_tick, ticks_in}
use Rattle.event_worlds.specs.Worlds.{Acted, Known, Step, World, acted, delivered, ended, is_over, next, next_outcome, next_words, of_acker, of_open, of_outcome, of_shut, of_task, of_tick, of_turn, run, sent, step, task_at, task_needs, turn_needs, turn_past, with_progress, with_task}
use Rattle.event_worlds.specs.state_parts.declared.answer.CommitOutcome.{CommitOutcome}
use Rattle.event_worlds.specs.topology_plan.Topology.{Topology, tasks_in_all}
use Rattle.event_worlds.specs.tree_model.declared.messages.Parcel.{Parcel}
use Rattle.event_worlds.specs.tree_model.declared.messages.Parcel.TheVariants.{ToAcker, ToTask}
use Rattle.event_worlds.specs.taken_records.Cuts.{Cut}
use Rattle.event_worlds.specs.tuple_account.Ends.{CauseBy, Ended, Ending, committed, failed, timed_out, coincided, commit_failed, dropped}
use Rattle.event_worlds.specs.storm_values.declared.value.Value.{Value}

-- ---- numbers

none-more : (a b : ℕ) → a ≡ b → a ≤ b + 0
none-more a b same = omega arith

one-more : (tick : ℕ) → ended (tick + 1) ≤ tick + 1
one-more tick = omega arith

stays : (tick more : ℕ) → tick ≤ tick + more
stays tick more = omega arith

up-to : (a b c : ℕ) → a ≤ b → b ≤ c → a ≤ c
up-to a b c low high = omega arith

from-none : (a b c : ℕ) → a ≤ b → b ≤ 0 + c → a ≤ c
from-none a b c low high = omega arith

adds : (last next tick one more all : ℕ) → last ≤ next + more → next ≤ tick + one
    → all ≡ one + more → last ≤ tick + all
adds last next tick one more all after here is = omega arith

-- ---- ticks among steps

-- the ticks of steps that follow one another add up
pub ticks-of-rounds : (xs ys : List Step) → ticks_in (xs ++ ys) ≡ ticks_in xs + ticks_in ys
ticks-of-rounds xs ys =
    ap length (filter-append is_tick xs ys)
    ∙ length-append (filter is_tick xs) (filter is_tick ys)

-- ---- a step

module _ (t : Topology) where
  delivered-tick : (p : Parcel) (w : World) → (delivered t p w).tick ≡ w.tick
  delivered-tick (ToTask n tuple) w = refl
  delivered-tick (ToAcker n m) w = refl

  sent-tick : (p : Option Parcel) (w : World) → (sent t p w).tick ≡ w.tick
  sent-tick None w = refl
  sent-tick (Some p) w = delivered-tick p w

  turned-tick : (cut : Cut) (ids : List ℕ) (w : World) (orders : List Parcel)
      → (turn_past t cut ids w orders).tick ≡ w.tick
  turned-tick cut ids w [] = refl
  turned-tick cut ids w (p ∷ rest) = delivered-tick p (record w { orders = rest })

told-tick : (b : Bool) (v w : World) → v.tick ≡ w.tick → (cond b v w).tick ≡ w.tick
told-tick true v w same = same
told-tick false v w same = refl

module _ (t : Topology) (custom : Custom) (cut : Cut) (words : ℕ → ℕ → ℕ)
    (outcomes : List CommitOutcome) where
  -- a step hands out a tick at most, and none where it is no tick
  step-tick : (s : Step) (k : Known)
      → (step t custom cut words outcomes s k).world.tick ≤ k.world.tick + ticks_in (s ∷ [])
  unfolding step
  step-tick (of_task n) k =
      let ids =
      next_words words k.counts n (task_needs t custom (task_at t n k.world)) in
      let done : Acted = acted t custom n ids (task_at t n k.world) in
      none-more _ _ (sent-tick t done.parcel (with_task n done.side k.world))
  step-tick (of_acker n) k = none-more k.world.tick k.world.tick refl
  step-tick of_turn k =
      let ids = next_words words k.counts (tasks_in_all t) (turn_needs t cut k.world) in
      none-more _ _ (turned-tick t cut ids k.world k.world.orders)
  step-tick of_outcome k =
      let how = next_outcome outcomes k.world.fates in
      let done = with_progress t cut (decided t cut how k.world.desk) k.world in
      none-more _ _ (told-tick k.world.desk.out done k.world refl)
  step-tick of_tick k = one-more k.world.tick
  step-tick (of_shut q) k = none-more k.world.tick k.world.tick refl
  step-tick (of_open q) k = none-more k.world.tick k.world.tick refl

  next-tick : (s : Step) (k : Known)
      → (next t custom cut words outcomes s k).world.tick ≤ k.world.tick + ticks_in (s ∷ [])
  next-tick s k = by (is_over t cut k.world) (step t custom cut words outcomes s k) (step-tick s k)
    where
      by : (b : Bool) (l : Known) → l.world.tick ≤ k.world.tick + ticks_in (s ∷ [])
          → (cond b k l).world.tick ≤ k.world.tick + ticks_in (s ∷ [])
      by true l few = stays k.world.tick (ticks_in (s ∷ []))
      by false l few = few

  -- the tick rises by the ticks among the steps at most
  pub run-tick : (steps : List Step) (k : Known)
      → (run t custom cut words outcomes steps k).world.tick ≤ k.world.tick + ticks_in steps
  run-tick [] k = stays k.world.tick 0
  run-tick (s ∷ steps) k =
      let then : Known = next t custom cut words outcomes s k in
      adds _ then.world.tick k.world.tick (ticks_in (s ∷ [])) (ticks_in steps)
      (ticks_in (s ∷ steps)) (run-tick steps then) (next-tick s k)
      (ticks-of-rounds (s ∷ []) steps)

-- ---- the coordinator's ticks

-- the coordinator counts no ticks but those that were handed out
pub desk-tick : (t : Topology) (custom : Custom) (cut : Cut) (words : ℕ → ℕ → ℕ) (k : Known)
    → Accounted t custom cut words k → k.world.desk.tick ≤ k.world.tick
desk-tick t custom cut words k accounted = accounted.1.ticks

-- ---- causes

module _ (t : Topology) (custom : Custom) (cut : Cut) (a b : ℕ) (later : a ≤ b) where
  cause-later : (rows : List (List Value)) (e : Ended) (ending : Ending)
      → CauseBy t custom rows a e ending → CauseBy t custom rows b e ending
  cause-later rows e (committed list) cause = cause
  cause-later rows e (failed path) cause = cause
  cause-later rows e timed_out cause = (cause.0, up-to e.finish a b cause.1 later)
  cause-later rows e (coincided list) cause = cause
  cause-later rows e (commit_failed component part before after) cause = cause
  cause-later rows e (dropped by) cause = cause

-- more ticks may have been handed out
pub caused-later : (t : Topology) (custom : Custom) (cut : Cut) (a b : ℕ) (words : ℕ → ℕ → ℕ)
    (fates : List Attempt) → AreCaused t custom cut a words fates → a ≤ b
    → AreCaused t custom cut b words fates
caused-later t custom cut a b words fates caused later = record {
  each =
      each-weaker (IsCausedEnd t custom cut a) (IsCausedEnd t custom cut b)
      (λ x cause. cause-later t custom cut a b later (rows_at cut x.spans) (ended_of x) (ending_of x.end) cause)
      fates caused.each;
  drawn = caused.drawn;
}
