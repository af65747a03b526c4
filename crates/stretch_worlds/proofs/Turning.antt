-- A task's turn over boxes beside a world leads on.
use Rattle.std.proofs.Common.{◌≡◌, ◌≤◌, ◌<◌, ℕ, ◌+◌, ◌-◌, ◌==◌, Bool, true, false, true≢false, cond, List, get_or, set, sym, refl, ap, ◌∙◌, eq-eqb, eqb-true, arith}
use Rattle.std.proofs.lemmas.List.{get_or-set_same, get_or-set_other}
use Rattle.event_worlds.specs.bolt_ops.RowOp.{Custom}
use Rattle.event_worlds.specs.counted_items.Weights.{weigh}
use Rattle.event_worlds.specs.Accounted.{IsCounted, station_of}
use Rattle.event_worlds.specs.Beside.{LedBeside, waits}
use Rattle.event_worlds.specs.Orderly.{IsOrderly}
use Rattle.event_worlds.specs.Worlds.{Known, TaskSide, World, drew, ended, no_task, task_at, with_task}
use Rattle.event_worlds.proofs.Leading.{draw-more}
use Rattle.event_worlds.proofs.Waiting.{drew-other, tasks-set}
use Rattle.stretch_worlds.proofs.Leading.{leads_on}
use Rattle.stretch_worlds.specs.Stretching.{IsInside}
use Rattle.stretch_worlds.specs.Turns.{IsCovered, held_beside, known, task_bench}
use Rattle.event_worlds.specs.topology_plan.Topology.{Topology, tasks_in_all}
use Rattle.event_worlds.specs.tree_model.declared.messages.Parcel.TheVariants.{ToTask}
use Rattle.event_worlds.specs.tree_model.declared.messages.Tuple.{Tuple}
use Rattle.event_worlds.specs.taken_records.Cuts.{Cut}
use Rattle.event_worlds.specs.tuple_account.Benches.{Works}
use Rattle.event_worlds.specs.tuple_account.Histories.{History, Packet, issued, joined, of_parcel, taken, weigh_parcels}
use Rattle.event_worlds.specs.tuple_account.Moves.{HasDrawn, Moves, beside}
use Rattle.event_worlds.proofs.tuple_account.Placing.{spans-more}

abbrev weigh_inbox : (Packet → ℕ) → ℕ → List Tuple → ℕ
weigh_inbox f n xs = weigh (λ (x : Tuple). f (of_parcel (ToTask n x))) xs

-- what boxes hold before and after, by their books
held : (s k s' k' o o' x y : ℕ) → k ≤ s → k' ≤ s' → o + x + (0 + s) ≡ o' + (0 + s') → 0 + k' ≡ 0 + k + y → s - k + o + x ≡ s' - k' + o' + y
held s k s' k' o o' x y one two p q = omega arith

module _ (t : Topology) (custom : Custom) (cut : Cut) (words : ℕ → ℕ → ℕ) (h more : History) (w : World) (counts : ℕ → ℕ) (n count : ℕ) (side : TaskSide)
    (sent taken_of sent_then taken_then left : (Packet → ℕ) → ℕ) (there : n < tasks_in_all t) (led : LedBeside t custom cut words (held_beside sent taken_of left) h (known w counts))
    (works : Works t custom 1 (task_bench n (counts n) (task_at t n w) sent taken_of) more (task_bench n (counts n + count) side sent_then taken_then))
    (covered : IsCovered sent taken_of) (covered_then : IsCovered sent_then taken_then) (inbox : side.inbox ≡ (task_at t n w).inbox) where
  abbrev was : Known
  was = known w counts

  abbrev is : Known
  is = known (with_task n side w) (drew n count counts)

  moves : Moves t custom (beside (waits (held_beside sent taken_of left)) (station_of was)) more (beside (waits (held_beside sent_then taken_then left)) (station_of is))
  moves = record {
    packets = λ f.
        let size = led.orderly.task_count in
        let s = tasks-set f w.tasks n side (no_task t) (omega arith) in
        let b = held (sent f) (taken_of f) (sent_then f) (taken_then f) (weigh_parcels f (task_at t n w).outbox) (weigh_parcels f side.outbox) (issued t custom f more) (taken f more) (covered f) (covered_then f) (works.packets f) (works.takes f) in
        let same = by f side (task_at t n w) inbox in
        omega arith;
    notes = λ g. let m = works.notes g in omega arith;
    draws = λ s j.
        let d = works.draws s j in
        let m = spans-more n (counts n) count s j in
        let e = draw-more n count counts s j in omega arith;
    well = works.well;
  }
    where
      by : (f : Packet → ℕ) (a b : TaskSide) → a.inbox ≡ b.inbox → weigh_inbox f n a.inbox ≡ weigh_inbox f n b.inbox
      by f a b same = ap (λ xs. weigh_inbox f n xs) same

  counted : side.stand.given ≡ ended (counts n + count) → IsCounted t is
  counted given = record {
    tasks = λ m below. one m below (m == n) refl;
    spout = led.counted.spout ∙ ap ended (sym (drew-other counts n count (tasks_in_all t) (λ same. omega arith)));
  }
    where
      one : (m : ℕ) → m < tasks_in_all t → (b : Bool) → (m == n) ≡ b → (task_at t m (with_task n side w)).stand.given ≡ ended (cond (m == n) (counts m + count) (counts m))
      one m below true at =
          let e : m ≡ n = eqb-true m n at in
          let size = led.orderly.task_count in
          ap (λ (i : ℕ). (get_or (set w.tasks n side) i (no_task t)).stand.given) e ∙ ap (λ (x : TaskSide). x.stand.given) (get_or-set_same w.tasks n side (no_task t) (omega arith))
          ∙ given ∙ ap (λ (i : ℕ). ended (counts i + count)) (sym e) ∙ ap (λ (b : Bool). ended (cond b (counts m + count) (counts m))) (sym at)
      one m below false at =
          ap (λ (x : TaskSide). x.stand.given) (get_or-set_other w.tasks n m side (no_task t) (λ e. true≢false (sym (eq-eqb m n e) ∙ at)))
          ∙ led.counted.tasks m below ∙ ap (λ (b : Bool). ended (cond b (counts m + count) (counts m))) (sym at)

  pub task_leads_on : side.stand.given ≡ ended (counts n + count) → IsOrderly t (with_task n side w) → HasDrawn words more → IsInside more
      → LedBeside t custom cut words (held_beside sent_then taken_then left) (joined h more) is
  task_leads_on given orderly drawn inside =
      leads_on t custom cut words (beside (waits (held_beside sent taken_of left)) (station_of was)) (beside (waits (held_beside sent_then taken_then left)) (station_of is)) h more was is led moves drawn inside
      (record { orderly = orderly; counted = counted given; silent = led.silent }) (record { desk = refl; fates = refl; tick = refl; unheard = refl })
