-- Worlds in which nothing was lost: no entry was dropped, and no commit failed.
use Rattle.std.proofs.Common.{◌≡◌, ◌<◌, ◌≤◌, inl, inr, ℕ, zero, suc, ◌+◌, ◌-◌, ◌^◌, Bool, true, false, cond, List, [], ◌∷◌, ◌++◌, length, get_or, slice_get, Option, None, Some, refl, sym, ap, ◌∙◌, subst, arith}
use Rattle.std.specs.List.{AllByRecursion}
use Rattle.std.proofs.lemmas.Bool.{cases_lt}
use Rattle.std.proofs.lemmas.List.{append-nil, get_or_past}
use Rattle.event_worlds.specs.acker_core.declared.verdict.Verdict.{Verdict}
use Rattle.event_worlds.specs.bolt_ops.RowOp.{Custom}
use Rattle.event_worlds.specs.commit_turns.declared.wait.Wait.{Wait}
use Rattle.event_worlds.specs.attempt_fates.Fates.{is_failed_commit}
use Rattle.event_worlds.specs.commit_turns.Turns.{decided_by, end_by, next_to_commit}
use Rattle.event_worlds.specs.counted_items.Weights.{weigh}
use Rattle.event_worlds.proofs.counted_items.Each.{each-append}
use Rattle.event_worlds.specs.Accounted.{LedTo, station_of, weigh_ackers}
use Rattle.event_worlds.specs.Added.{acker_adds, acker_adds_past, added, executes, lost, step_adds, task_adds, task_adds_past, turn_adds, turn_adds_past}
use Rattle.event_worlds.specs.Worlds.{AckerSide, Known, Step, TaskSide, World, acker_at, acker_step, acted_past, aged, answered, answered_past, counted_up, delivered, executed, is_over, meets, next, next_outcome, next_words, no_acker, of_acker, of_open, of_outcome, of_shut, of_task, of_tick, of_turn, outcome_step, sent, step, task_at, task_needs, task_step, tick_step, turn_needs, turn_past, turn_step, turned_in, with_progress, with_task}
use Rattle.event_worlds.specs.state_parts.declared.answer.CommitOutcome.{CommitOutcome}
use Rattle.event_worlds.specs.state_parts.declared.answer.CommitOutcome.TheVariants as outcome
use Rattle.event_worlds.specs.storm_values.declared.value.Root.{Root}
use Rattle.event_worlds.specs.topology_plan.Topology.{Topology, tasks_in_all}
use Rattle.event_worlds.specs.tree_model.declared.messages.AckMsg.{AckMsg}
use Rattle.event_worlds.specs.tree_model.declared.messages.Parcel.{Parcel}
use Rattle.event_worlds.specs.tree_model.declared.messages.Parcel.TheVariants.{ToTask, ToAcker}
use Rattle.event_worlds.specs.tree_model.declared.messages.Tuple.{Tuple}
use Rattle.event_worlds.specs.tree_model.Lists.{root_of}
use Rattle.event_worlds.specs.taken_records.Cuts.{Cut}
use Rattle.event_worlds.specs.tuple_account.Histories.{History, Packet, acker_of, joined, nothing, of_parcel, taken}
use Rattle.event_worlds.specs.tuple_account.Moves.{Reached}
use Rattle.event_worlds.proofs.tuple_account.Routing as routing
use Rattle.world_progress.proofs.Lists.{at-set}
use Rattle.world_progress.specs.Lasting.{AreSeats, IsFine, IsSeat, Lasting}
use Rattle.world_progress.specs.Young.{AreYoung}
use Rattle.world_progress.proofs.Seats.{young-aged, young-met}
use Rattle.world_progress.proofs.Turning.{turn_fine}

-- ---- what ackers keep

seats-delivered : (t : Topology) (p : Parcel) (w : World) → AreSeats t w → AreSeats t (delivered t p w)
seats-delivered t (ToTask n tuple) w seats = seats
seats-delivered t (ToAcker n m) w seats =
    at-set (λ (k : ℕ) (side : AckerSide). IsSeat t k w.tick side) w.ackers n (record (acker_at n w) { inbox = (acker_at n w).inbox ++ m ∷ [] }) no_acker seats
    (λ below. record { counted = (seats n).counted; young = (seats n).young })

fates-delivered : (t : Topology) (p : Parcel) (w : World) → (delivered t p w).fates ≡ w.fates
fates-delivered t (ToTask n tuple) w = refl
fates-delivered t (ToAcker n m) w = refl

module _ (t : Topology) (n tick : ℕ) (side : AckerSide) (seat : IsSeat t n tick side) (short : tick < t.buckets) where
  aged_up : AreYoung t n tick (aged t.buckets (tick - side.counted) side.entries) × (lost t.buckets (tick - side.counted) side.entries ≡ [])
  aged_up = let c = seat.counted in young-aged t n side.counted (tick - side.counted) tick (omega arith) short side.entries seat.young

  met_up : (box : List AckMsg) → ((m : AckMsg) (rest : List AckMsg) → box ≡ m ∷ rest → acker_of t (root_of m) ≡ n) → IsSeat t n tick (meets (counted_up t.buckets tick side) box)
  met_up [] routed = record { counted = omega arith; young = aged_up.0 }
  met_up (m ∷ rest) routed = record { counted = omega arith; young = young-met t n tick m (aged t.buckets (tick - side.counted) side.entries) (routed m rest refl) aged_up.0 }

  seat-answered : ((m : AckMsg) (rest : List AckMsg) → side.inbox ≡ m ∷ rest → acker_of t (root_of m) ≡ n) → (out : List Verdict) → IsSeat t n tick (answered_past t.buckets tick side out).side
  seat-answered routed [] = met_up side.inbox routed
  seat-answered routed (v ∷ rest) = record { counted = seat.counted; young = seat.young }

  none-dropped : (out : List Verdict) → (acker_adds_past n t.buckets tick side out).dropped ≡ []
  none-dropped [] = aged_up.1
  none-dropped (v ∷ rest) = refl

-- ---- a message is at its acker

ackers-at : (f : Packet → ℕ) (a : ℕ) (sides : List AckerSide) (i n : ℕ) (d : AckerSide) → i < length sides → n ≡ a + i
    → weigh (λ (m : AckMsg). f (of_parcel (ToAcker n m))) (get_or sides i d).inbox ≤ weigh_ackers f a sides
ackers-at f a [] i n d below at = absurd (omega arith)
ackers-at f a (x ∷ xs) zero n d below at = let e : n ≡ a = omega arith in rw e (omega arith)
ackers-at f a (x ∷ xs) (suc i) n d below at = let rest = ackers-at f (a + 1) xs i n d (omega arith) (omega arith) in omega arith

module _ (t : Topology) (custom : Custom) (h : History) (k : Known) (reached : Reached t custom h (station_of k)) where
  pub routed : (n : ℕ) (m : AckMsg) (rest : List AckMsg) → (acker_at n k.world).inbox ≡ m ∷ rest → acker_of t (root_of m) ≡ n
  routed n m rest box = sym (routing.routed t custom h (station_of k) reached (of_parcel (ToAcker n m) ∷ []) within).0
    where
      there : n < length k.world.ackers
      there = elim (cases_lt n (length k.world.ackers)) [
        | inl below ↦ below
        | inr past ↦ (let e : length (acker_at n k.world).inbox ≡ 0 = ap (λ (s : AckerSide). length s.inbox) (get_or_past k.world.ackers n no_acker past) in let l = ap length box in absurd (omega arith))
      ]

      within : (f : Packet → ℕ) → weigh f (of_parcel (ToAcker n m) ∷ []) ≤ (station_of k).waiting f + taken f h
      within f =
          let a = ackers-at f 0 k.world.ackers n n no_acker there (omega arith) in
          let b = ap (weigh (λ (x : AckMsg). f (of_parcel (ToAcker n x)))) box in omega arith

-- ---- worlds

module _ (t : Topology) (custom : Custom) (cut : Cut) (words : ℕ → ℕ → ℕ) where
  -- what a step keeps, without the history
  record IsSafe (more : History) (v : World) : Type 0 where
    seats : AreSeats t v
    dropped : more.dropped ≡ []
    fine : AllByRecursion IsFine v.fates

  module _ (w : World) (seats : AreSeats t w) (fine : AllByRecursion IsFine w.fates) where
    safe_acker : (n : ℕ) → w.tick < t.buckets → ((m : AckMsg) (rest : List AckMsg) → (acker_at n w).inbox ≡ m ∷ rest → acker_of t (root_of m) ≡ n) → IsSafe (acker_adds n t.buckets w.tick (acker_at n w)) (acker_step t n w)
    safe_acker n short routed = record {
      seats = at-set (λ (k : ℕ) (side : AckerSide). IsSeat t k w.tick side) w.ackers n (answered t.buckets w.tick (acker_at n w)).side no_acker seats
          (λ below. seat-answered t n w.tick (acker_at n w) (seats n) short routed (acker_at n w).outbox);
      dropped = none-dropped t n w.tick (acker_at n w) (seats n) short (acker_at n w).outbox;
      fine = fine;
    }

    safe_tick : w.tick ≤ 2 ^ 64 - 1 → IsSafe nothing (tick_step w)
    safe_tick last = record {
      seats = λ n. record {
        counted = (let c = (seats n).counted in omega arith);
        young =
            (seats n).young;
      };
      dropped = refl;
      fine = fine;
    }

    safe_outcome : IsSafe nothing (outcome_step t cut outcome.Done w)
    safe_outcome = by w.desk.out (next_to_commit t cut w.desk)
      where
        done_fine : (settled : Option (List AckMsg)) → is_failed_commit (end_by t cut outcome.Done settled) ≡ false
        done_fine None = refl
        done_fine (Some list) = refl

        one : (o : Option Wait) → AllByRecursion IsFine (decided_by t cut outcome.Done o w.desk).ended
        one None = tt
        one (Some next) = (done_fine next.settled, tt)

        by : (b : Bool) (o : Option Wait) → IsSafe nothing (cond b (with_progress t cut (decided_by t cut outcome.Done o w.desk) w) w)
        by false o = record { seats = seats; dropped = refl; fine = fine }
        by true o = record {
          seats = seats;
          dropped = refl;
          fine = each-append IsFine w.fates (decided_by t cut outcome.Done o w.desk).ended fine
              (one o);
        }

    safe_turn : (at : ℕ) (ids : List ℕ) → IsSafe (turn_adds t cut at ids w) (turn_step t cut ids w)
    safe_turn at ids = by w.orders
      where
        with : (p : Parcel) (rest : List Parcel) → IsSafe nothing (delivered t p (record w { orders = rest }))
        with p rest = record {
          seats = seats-delivered t p (record w { orders = rest }) seats;
          dropped = refl;
          fine = subst (AllByRecursion IsFine) (sym (fates-delivered t p (record w { orders = rest }))) fine;
        }

        by : (out : List Parcel) → IsSafe (turn_adds_past t cut at ids w out) (turn_past t cut ids w out)
        by (p ∷ rest) = with p rest
        by [] = record {
          seats = seats;
          dropped = refl;
          fine = each-append IsFine w.fates (turned_in t cut w).ended fine (turn_fine t cut (slice_get w.verdicts 0) w.unheard w.shut w.desk);
        }

    safe_task : (n at : ℕ) (ids : List ℕ) → IsSafe (task_adds t custom n at ids (task_at t n w)) (task_step t custom n ids w)
    safe_task n at ids = by (task_at t n w).outbox
      where
        with : (p : Parcel) (side : TaskSide) → IsSafe nothing (delivered t p (with_task n side w))
        with p side = record {
          seats = seats-delivered t p (with_task n side w) seats;
          dropped = refl;
          fine = subst (AllByRecursion IsFine)
              (sym (fates-delivered t p (with_task n side w))) fine;
        }

        inner : (box : List Tuple) → IsSafe (executes t custom n at ids (task_at t n w).stand box) (with_task n (executed t custom n ids (task_at t n w) box) w)
        inner [] = record { seats = seats; dropped = refl; fine = fine }
        inner (tuple ∷ rest) = record { seats = seats; dropped = refl; fine = fine }

        by : (out : List Parcel) → IsSafe (task_adds_past t custom n at ids (task_at t n w) out) (sent t (acted_past t custom n ids (task_at t n w) out).parcel (with_task n (acted_past t custom n ids (task_at t n w) out).side w))
        by (p ∷ rest) = with p (record (task_at t n w) { outbox = rest })
        by [] = inner (task_at t n w).inbox

  -- ---- steps

  module _ (outcomes : List CommitOutcome) (h : History) (k : Known) (last : Lasting t custom cut words h k) (short : k.world.tick < t.buckets) (sure : next_outcome outcomes k.world.fates ≡ outcome.Done) where
    safe : (s : Step) → IsSafe (step_adds t custom cut words s k) (step t custom cut words outcomes s k).world
    unfolding step
    safe (of_task n) = safe_task k.world last.seats last.fine n (k.counts n) (next_words words k.counts n (task_needs t custom (task_at t n k.world)))
    safe (of_acker n) = safe_acker k.world last.seats last.fine n short (routed t custom h k last.led.reached n)
    safe of_turn = safe_turn k.world last.seats last.fine (k.counts (tasks_in_all t))
        (next_words words k.counts (tasks_in_all t) (turn_needs t cut k.world))
    safe of_outcome = subst (λ (how : CommitOutcome). IsSafe nothing (outcome_step t cut how k.world)) (sym sure)
        (safe_outcome k.world last.seats last.fine)
    safe of_tick = safe_tick k.world last.seats last.fine last.led.last
    safe (of_shut q) = record { seats = last.seats; dropped = refl; fine = last.fine }
    safe (of_open q) = record { seats = last.seats; dropped = refl; fine = last.fine }

    lasting : (s : Step) (b : Bool) → LedTo t custom cut words (joined h (cond b nothing (step_adds t custom cut words s k))) (cond b k (step t custom cut words outcomes s k))
        → Lasting t custom cut words (joined h (cond b nothing (step_adds t custom cut words s k))) (cond b k (step t custom cut words outcomes s k))
    lasting s true led = record {
      led = led;
      seats = last.seats;
      whole = append-nil h.dropped ∙ last.whole;
      fine = last.fine;
    }
    lasting s false led =
        let e = safe s in
        record {
          led = led;
          seats = e.seats;
          whole = ap (λ (xs : List (Root × List AckMsg)). xs ++ (step_adds t custom cut words s k).dropped) last.whole ∙ e.dropped;
          fine = e.fine;
        }

    -- nothing is lost at a step
    pub lasting-next : (s : Step) → LedTo t custom cut words (joined h (added t custom cut words s k)) (next t custom cut words outcomes s k)
        → Lasting t custom cut words (joined h (added t custom cut words s k)) (next t custom cut words outcomes s k)
    lasting-next s led = lasting s (is_over t cut k.world) led
