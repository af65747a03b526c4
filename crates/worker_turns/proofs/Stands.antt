-- What stood stands where packets were carried.
use Rattle.std.proofs.Common.{◌≡◌, ◌≤◌, ℕ, zero, suc, ◌+◌, List, [], ◌∷◌, length, map, get_or, append-nil, sym, refl, ap, subst, ◌∙◌, arith}
use Rattle.std.specs.Prelude.{slice_get}
use Rattle.std.specs.List.{AllByRecursion}
use Rattle.event_worlds.specs.acker_core.Entries.{AreSilent}
use Rattle.event_worlds.specs.attempt_fates.declared.fates.Attempt.{Attempt}
use Rattle.event_worlds.specs.bolt_ops.RowOp.{Custom}
use Rattle.worker_stretches.specs.box_rows.declared.mail.Mail.{Mail}
use Rattle.event_worlds.specs.commit_order.declared.coordinator.Coordinator.{Coordinator}
use Rattle.event_worlds.specs.commit_order.Orders.{Stand, cut_of, desk_of, plan_of}
use Rattle.event_worlds.specs.commit_turns.Account as account
use Rattle.event_worlds.specs.commit_turns.Desks.{Desk}
use Rattle.event_worlds.specs.commit_turns.Kept.{IsKept, HaveSpans}
use Rattle.event_worlds.specs.counted_items.Weights.{weigh}
use Rattle.event_worlds.proofs.counted_items.Each.{each-map, each-to_map}
use Rattle.event_worlds.proofs.counted_items.Weighing.{weigh-map, weigh-ones}
use Rattle.worker_stretches.specs.event_engine.declared.engine.Engine.{Engine}
use Rattle.worker_stretches.specs.event_engine.Engines.{IsIdle, IsStill, has_ended, shape}
use Rattle.event_worlds.specs.Accounted.{station_of, BeganWith}
use Rattle.event_worlds.specs.Beside.{LedBeside, waits}
use Rattle.event_worlds.specs.Orderly.{IsOrderly}
use Rattle.event_worlds.specs.Worlds.{AckerSide, Known, TaskSide, World, acker_at, is_over, no_acker, no_task}
use Rattle.event_worlds.proofs.Leading.{reached-alike}
use Rattle.event_worlds.proofs.output_collector.Sending.{Draws-none}
use Rattle.event_worlds.specs.state_parts.declared.answer.CommitOutcome.{CommitOutcome}
use Rattle.event_worlds.specs.storm_ids.declared.ids.Ids.{Ghosts}
use Rattle.event_worlds.specs.storm_values.declared.value.Root.{Root}
use Rattle.task_queues.specs.declared.pass.Pass.{Pass}
use Rattle.event_worlds.specs.topology_plan.Topology.{Topology}
use Rattle.event_worlds.specs.tree_model.declared.messages.AckMsg.{AckMsg}
use Rattle.event_worlds.specs.taken_records.Cuts.{Cut}
use Rattle.event_worlds.specs.tuple_account.Fits.{Fits}
use Rattle.event_worlds.specs.tuple_account.Histories.{History, Packet}
use Rattle.event_worlds.specs.tuple_account.Moves.{beside}
use Rattle.event_worlds.specs.tuple_account.Parts.{weigh_entries}
use Rattle.worker_stretches.specs.world_progress.Doing.{done, in_boxes, messages_in, tuples_in}
use Rattle.worker_stretches.specs.world_progress.Lasting.{AreSeats, IsFine}
use Rattle.worker_stretches.specs.world_progress.Young.{AreYoung}
use Rattle.worker_stretches.specs.box_account.Hearing.{HeardBeforeFailing}
use Rattle.worker_stretches.specs.box_account.Inboxes.{weigh_acker_inboxes, weigh_inboxes, weigh_task_inboxes}
use Rattle.worker_stretches.specs.Standing.{GoesOn, IsLasting, Stands, beside_it}
use Rattle.worker_stretches.specs.Teams.{Waiting}
use Rattle.worker_turns.specs.Carrying.{Carries, EngineCarries, IsRearranged, counted_in, entries_in, nothing_left, stand_in, waits_in}

-- ---- lists that come to the same

-- items at a place come to the same
same-at : {X Y : Type 0} (f : X → Y) (xs ys : List X) (n : ℕ) (d : X) → map f ys ≡ map f xs → f (get_or ys n d) ≡ f (get_or xs n d)
same-at f [] [] n d same = refl
same-at f [] (y ∷ ys) n d same = absurd (let l = ap length same in omega arith)
same-at f (x ∷ xs) [] n d same = absurd (let l = ap length same in omega arith)
same-at f (x ∷ xs) (y ∷ ys) zero d same = let e : f y ∷ map f ys ≡ f x ∷ map f xs = same in cc
same-at f (x ∷ xs) (y ∷ ys) (suc n) d same = same-at f xs ys n d (let e : f y ∷ map f ys ≡ f x ∷ map f xs = same in cc)

-- ---- counts

ones-tasks : (a : ℕ) (sides : List TaskSide) → weigh_task_inboxes (λ (p : Packet). 1) a sides ≡ tuples_in sides
ones-tasks a [] = refl
ones-tasks a (side ∷ sides) = let o = weigh-ones side.inbox in let rest = ones-tasks (a + 1) sides in omega arith

ones-ackers : (a : ℕ) (sides : List AckerSide) → weigh_acker_inboxes (λ (p : Packet). 1) a sides ≡ messages_in sides
ones-ackers a [] = refl
ones-ackers a (side ∷ sides) = let o = weigh-ones side.inbox in let rest = ones-ackers (a + 1) sides in omega arith

-- what stands in inboxes, one by one
pub ones-inboxes : (w : World) → weigh_inboxes (λ (p : Packet). 1) w ≡ in_boxes w
ones-inboxes w = let a = ones-tasks 0 w.tasks in let b = ones-ackers 0 w.ackers in let c = weigh-ones w.verdicts in omega arith

-- ---- worlds

module _ (t : Topology) (old new : World) (same : IsRearranged old new) where
  seats-arranged : AreSeats t old → AreSeats t new
  seats-arranged seats = λ n.
      let c : (acker_at n new).counted ≡ (acker_at n old).counted = same-at counted_in old.ackers new.ackers n no_acker same.counts in
      let e : (acker_at n new).entries ≡ (acker_at n old).entries = same-at entries_in old.ackers new.ackers n no_acker same.entries in record {
        counted = let s = (seats n).counted in let k = same.tick in omega arith;
        young = subst (λ (m : ℕ). AreYoung t n m (acker_at n new).entries) (sym c) (subst (AreYoung t n (acker_at n old).counted) (sym e) (seats n).young);
      }

  lasting-arranged : (h : History) → IsLasting t h old → IsLasting t h new
  lasting-arranged h lasts = record { seats = seats-arranged lasts.seats; whole = lasts.whole; fine = subst (AllByRecursion IsFine) (sym same.fates) lasts.fine }

  module _ (custom : Custom) (cut : Cut) (words : ℕ → ℕ → ℕ) (counts : ℕ → ℕ) (before after : Waiting) (h : History) (orderly : IsOrderly t new)
      (moved : (f : Packet → ℕ) → after f + waits_in new f ≡ before f + waits_in old f) where
    abbrev k_old : Known
    k_old = record { world = old; counts = counts }

    abbrev k_new : Known
    k_new = record { world = new; counts = counts }

    kept-same : (g : Root → AckMsg → ℕ) → weigh (λ (side : AckerSide). weigh_entries g side.entries) new.ackers ≡ weigh (λ (side : AckerSide). weigh_entries g side.entries) old.ackers
    kept-same g =
        sym (weigh-map (weigh_entries g) entries_in new.ackers) ∙ ap (weigh (weigh_entries g)) same.entries ∙ weigh-map (weigh_entries g) entries_in old.ackers

    pub led-arranged : LedBeside t custom cut words before h k_old → LedBeside t custom cut words after h k_new
    led-arranged led = record {
      reached = reached-alike t custom h (beside (waits before) (station_of k_old)) (beside (waits after) (station_of k_new)) (record {
        waiting = λ f. let e = moved f in omega arith;
        kept = λ g. let e = kept-same g in omega arith;
        given = λ s j. omega arith;
      }) led.reached;
      drawn = led.drawn;
      starts = led.starts;
      orderly = orderly;
      counted = record {
        tasks = λ n there. ap (λ (s : Stand). s.given) (same-at stand_in old.tasks new.tasks n (no_task t) same.stands) ∙ led.counted.tasks n there;
        spout = ap (λ (s : Stand). s.given) same.spout ∙ led.counted.spout;
      };
      kept = subst (λ (d : Desk). IsKept t cut d new.fates) (sym same.desk) (subst (IsKept t cut old.desk) (sym same.fates) led.kept);
      fits = subst (λ (d : Desk). Fits t (account.desk_of cut d) (account.ends_of new.fates) h) (sym same.desk)
          (subst (λ (fs : List Attempt). Fits t (account.desk_of cut old.desk) (account.ends_of fs) h) (sym same.fates) led.fits);
      spans = subst (λ (d : Desk). HaveSpans (BeganWith cut h.begun) d new.fates) (sym same.desk)
          (subst (HaveSpans (BeganWith cut h.begun) old.desk) (sym same.fates) led.spans);
      silent = each-map AreSilent entries_in new.ackers (subst (AllByRecursion AreSilent) (sym same.entries) (each-to_map AreSilent entries_in old.ackers led.silent));
      ticks = let d = ap (λ (d : Desk). d.tick) same.desk in let k = same.tick in let l = led.ticks in omega arith;
      unheard = let d = ap (λ (d : Desk). d.tick) same.desk in let k = same.tick in let u = same.unheard in let l = led.unheard in omega arith;
      last = let k = same.tick in let l = led.last in omega arith;
    }

-- what stood stands
pub stands-carried : (t : Topology) (custom : Custom) (cut : Cut) (words : ℕ → ℕ → ℕ) (outcomes : List CommitOutcome) (counts : ℕ → ℕ) (old new : World) (was is : List (Pass Mail)) (h : History) → IsOrderly t new
    → Carries old new was is nothing_left nothing_left → Stands t custom cut words outcomes was [] h (record { world = old; counts = counts }) → Stands t custom cut words outcomes is [] h (record { world = new; counts = counts })
stands-carried t custom cut words outcomes counts old new was is h orderly carries stands = record {
  led = led-arranged t old new carries.arranged custom cut words counts (beside_it was []) (beside_it is []) h orderly (λ f. let w = carries.waits f in omega arith) stands.led;
  through = λ f. let a = stands.through f in let b = carries.through f in omega arith;
  heard = subst (λ (fs : List Attempt). HeardBeforeFailing h fs) (sym carries.arranged.fates) stands.heard;
  lasts = λ all few. lasting-arranged t old new carries.arranged h (stands.lasts all (let k = carries.arranged.tick in omega arith));
}

-- no less was done
pub done-carried : (old new : World) (was is : List (Pass Mail)) (left now_left : Waiting) (h : History) → Carries old new was is left now_left → done h old ≤ done h new
done-carried old new was is left now_left h carries =
    let a = ones-inboxes old in
    let b = ones-inboxes new in
    let e = carries.through (λ (p : Packet). 1) in
    let m = carries.more (λ (p : Packet). 1) in
    let c = ap (λ (d : Desk). d.committed) carries.arranged.desk in omega arith

-- ---- engines

module _ {I : Type 0} {g : Ghosts I} where
  pub ended-same : (old new : Engine I g) → new.coordinator ≡ old.coordinator → has_ended new ≡ has_ended old
  ended-same old new same = ap (λ (c : Coordinator I). is_over (plan_of c) (cut_of c) (record (shape old) { desk = desk_of c })) same

  pub goes-carried : (tells : I → (ℕ → ℕ) → ℕ → Type 0) (t : Topology) (custom : Custom) (cut : Cut) (old new : Engine I g) (was is : List (Pass Mail)) → IsOrderly t (shape new)
      → EngineCarries old new was is nothing_left nothing_left → GoesOn tells t custom cut 0 old new was is [] []
  goes-carried tells t custom cut old new was is orderly e = record {
    given = λ s. [];
    draws = λ s source at. (source, ap (λ xs. slice_get xs s) e.sources ∙ at, Draws-none tells source);
    none = λ s off. (refl, ap (λ xs. slice_get xs s) e.sources ∙ off);
    more = [];
    added = e.still.fates ∙ sym (append-nil old.fates);
    ticks = let k = e.carries.arranged.tick in omega arith;
    over = λ over. ended-same old new e.still.coordinator ∙ over;
    on = λ words counts outcomes gives has input keeps fine h stands. record {
      history = h;
      now = counts;
      counted = λ s. omega arith;
      stands = stands-carried t custom cut words outcomes counts (shape old) (shape new) was is h orderly e.carries stands;
      shut = e.carries.arranged.shut;
      rose = λ opens can all few open_end. (let d = done-carried (shape old) (shape new) was is nothing_left nothing_left h e.carries in omega arith);
    };
  }

-- a coordinator that stays as it was stays idle
pub idle-still : {I : Type 0} {g : Ghosts I} (old new : Engine I g) → IsStill old new → IsIdle old → IsIdle new
idle-still {I = I} old new still idle = subst (λ (c : Coordinator I). IsIdle (record old { coordinator = c })) (sym still.coordinator) idle
