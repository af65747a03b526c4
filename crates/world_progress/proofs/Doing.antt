-- What each kind of step adds to what was done.
use Rattle.std.proofs.Common.{◌≡◌, ◌<◌, ◌≤◌, ℕ, ◌+◌, List, [], ◌∷◌, ◌++◌, length, set, refl, sym, ap, ◌∙◌, subst, arith}
use Rattle.std.specs.List.{AllByRecursion}
use Rattle.std.proofs.lemmas.List.{get_or_past, length-append, length-set, set-get_or, set_past}
use Rattle.event_worlds.specs.bolt_ops.RowOp.{Custom}
use Rattle.event_worlds.specs.Added.{executes, task_adds, task_adds_past}
use Rattle.event_worlds.specs.Orderly.{FitsParcel, IsOrderly}
use Rattle.event_worlds.specs.Worlds.{AckerSide, TaskSide, World, acker_at, acted, acted_past, delivered, executed, no_acker, no_task, sent, task_at, task_step, with_task}
use Rattle.event_worlds.specs.topology_plan.Topology.{Topology, tasks_in_all}
use Rattle.event_worlds.specs.tree_model.declared.messages.Parcel.{Parcel}
use Rattle.event_worlds.specs.tree_model.declared.messages.Parcel.TheVariants.{ToTask, ToAcker}
use Rattle.event_worlds.specs.tree_model.declared.messages.Tuple.{Tuple}
use Rattle.event_worlds.specs.tuple_account.Histories.{History, joined, nothing}
use Rattle.event_worlds.proofs.Orderly.{task-seat}
use Rattle.event_worlds.proofs.Waiting.{weigh-set}
use Rattle.world_progress.specs.Doing.{done, in_boxes, taken_from, tuples_in}

-- ---- hand-overs

module _ (t : Topology) where
  pub tuples-with_task : (n : ℕ) (side : TaskSide) (w : World) → n < length w.tasks → tuples_in (with_task n side w).tasks + length (task_at t n w).inbox ≡ tuples_in w.tasks + length side.inbox
  tuples-with_task n side w below = weigh-set (λ (x : TaskSide). length x.inbox) w.tasks n side (no_task t) below

  pub in_boxes-delivered : (p : Parcel) (w : World) → length w.tasks ≡ tasks_in_all t → length w.ackers ≡ t.ackers → FitsParcel t p → in_boxes (delivered t p w) ≡ in_boxes w + 1
  in_boxes-delivered (ToTask n tuple) w many ackers fits =
      let s = weigh-set (λ (x : TaskSide). length x.inbox) w.tasks n (record (task_at t n w) { inbox = (task_at t n w).inbox ++ tuple ∷ [] }) (no_task t) (let f = fits.0 in omega arith) in
      let l = length-append (task_at t n w).inbox (tuple ∷ []) in omega arith
  in_boxes-delivered (ToAcker n m) w many ackers fits =
      let s = weigh-set (λ (x : AckerSide). length x.inbox) w.ackers n (record (acker_at n w) { inbox = (acker_at n w).inbox ++ m ∷ [] }) no_acker (omega arith) in
      let l = length-append (acker_at n w).inbox (m ∷ []) in omega arith

  pub committed-delivered : (p : Parcel) (w : World) → (delivered t p w).desk.committed ≡ w.desk.committed
  committed-delivered (ToTask n tuple) w = refl
  committed-delivered (ToAcker n m) w = refl

-- ---- histories

pub taken-joined : (h k : History) → taken_from (joined h k) ≡ taken_from h + taken_from k
taken-joined h k = let a = length-append h.runs k.runs in let b = length-append h.met k.met in let c = length-append h.heard k.heard in omega arith

pub begun-joined : (h k : History) → length (joined h k).begun ≡ length h.begun + length k.begun
begun-joined h k = length-append h.begun k.begun

-- ---- a task's step

-- its box and its outbox are empty
pub record IsIdleTask (t : Topology) (n : ℕ) (w : World) : Type 0 where
  pub inbox : (task_at t n w).inbox ≡ []
  pub outbox : (task_at t n w).outbox ≡ []

-- the step did something, or there was nothing to do and nothing changed
pub data Stepped (before after : ℕ) (Quiet : Type 0) : Type 0 where
  rose : (more : before < after) → Stepped before after Quiet
  kept : (same : after ≡ before) (quiet : Quiet) → Stepped before after Quiet

module _ (t : Topology) (custom : Custom) (w : World) (is : IsOrderly t w) (h : History) (n at : ℕ) (ids : List ℕ) where
  abbrev pub DoesTask : Type 0
  DoesTask = Stepped (done h w) (done (joined h (task_adds t custom n at ids (task_at t n w))) (task_step t custom n ids w)) ((task_step t custom n ids w ≡ w) × IsIdleTask t n w)

  -- nothing changes where the side stays as it is
  same_side : with_task n (task_at t n w) w ≡ w
  same_side = ap (λ (sides : List TaskSide). record w { tasks = sides }) (set-get_or w.tasks n (no_task t))

  hands_over : n < tasks_in_all t → (p : Parcel) (rest : List Parcel) → (task_at t n w).outbox ≡ p ∷ rest
      → done (joined h nothing) (delivered t p (with_task n (record (task_at t n w) { outbox = rest }) w)) ≡ done h w + 1
  hands_over there p rest out =
      let fits : AllByRecursion (FitsParcel t) (p ∷ rest) = subst (AllByRecursion (FitsParcel t)) out (task-seat t w is n there).0.outbox in
      let c = is.task_count in
      let l : length (set w.tasks n (record (task_at t n w) { outbox = rest })) ≡ tasks_in_all t = length-set w.tasks n (record (task_at t n w) { outbox = rest }) ∙ c in
      let b = in_boxes-delivered t p (with_task n (record (task_at t n w) { outbox = rest }) w) l is.acker_count fits.0 in
      let s = tuples-with_task t n (record (task_at t n w) { outbox = rest }) w (omega arith) in
      let k = committed-delivered t p (with_task n (record (task_at t n w) { outbox = rest }) w) in
      let x = taken-joined h nothing in
      let y = begun-joined h nothing in omega arith

  executes_front : n < tasks_in_all t → (tuple : Tuple) (rest : List Tuple) → (task_at t n w).inbox ≡ tuple ∷ rest
      → done (joined h (executes t custom n at ids (task_at t n w).stand (tuple ∷ rest))) (with_task n (executed t custom n ids (task_at t n w) (tuple ∷ rest)) w) ≡ done h w + 1
  executes_front there tuple rest box =
      let c = is.task_count in
      let s = tuples-with_task t n (executed t custom n ids (task_at t n w) (tuple ∷ rest)) w (omega arith) in
      let l = ap length box in
      let x = taken-joined h (executes t custom n at ids (task_at t n w).stand (tuple ∷ rest)) in
      let y = begun-joined h (executes t custom n at ids (task_at t n w).stand (tuple ∷ rest)) in omega arith

  nothing_more : done (joined h nothing) w ≡ done h w
  nothing_more = let x = taken-joined h nothing in let y = begun-joined h nothing in omega arith

  pub task_there : n < tasks_in_all t → DoesTask
  task_there there = outer (task_at t n w).outbox refl
    where
      inner : (box : List Tuple) → (task_at t n w).inbox ≡ box → (task_at t n w).outbox ≡ []
          → Stepped (done h w) (done (joined h (executes t custom n at ids (task_at t n w).stand box)) (with_task n (executed t custom n ids (task_at t n w) box) w)) ((with_task n (executed t custom n ids (task_at t n w) box) w ≡ w) × IsIdleTask t n w)
      inner [] box out = kept (ap (done (joined h nothing)) same_side ∙ nothing_more) (same_side, record { inbox = box; outbox = out })
      inner (tuple ∷ rest) box out = rose (let e = executes_front there tuple rest box in omega arith)

      outer : (out : List Parcel) → (task_at t n w).outbox ≡ out
          → Stepped (done h w) (done (joined h (task_adds_past t custom n at ids (task_at t n w) out)) (sent t (acted_past t custom n ids (task_at t n w) out).parcel (with_task n (acted_past t custom n ids (task_at t n w) out).side w)))
          ((sent t (acted_past t custom n ids (task_at t n w) out).parcel (with_task n (acted_past t custom n ids (task_at t n w) out).side w) ≡ w) × IsIdleTask t n w)
      outer (p ∷ rest) out = rose (let e = hands_over there p rest out in omega arith)
      outer [] out = inner (task_at t n w).inbox refl out

  -- a number beyond the tasks
  pub task_beyond : tasks_in_all t ≤ n → DoesTask
  task_beyond beyond =
      subst (λ (side : TaskSide). Stepped (done h w) (done (joined h (task_adds t custom n at ids side)) (sent t (acted t custom n ids side).parcel (with_task n (acted t custom n ids side).side w)))
      ((sent t (acted t custom n ids side).parcel (with_task n (acted t custom n ids side).side w) ≡ w) × IsIdleTask t n w)) (sym none)
      (kept (ap (done (joined h nothing)) same ∙ nothing_more) (same, record { inbox = ap (λ (side : TaskSide). side.inbox) none; outbox = ap (λ (side : TaskSide). side.outbox) none }))
    where
      past : length w.tasks ≤ n
      past = let c = is.task_count in omega arith

      none : task_at t n w ≡ no_task t
      none = get_or_past w.tasks n (no_task t) past

      same : with_task n (no_task t) w ≡ w
      same = ap (λ (sides : List TaskSide). record w { tasks = sides }) (set_past w.tasks n (no_task t) past)
