-- What the engine's events do, from what its parts do.
use Rattle.std.proofs.Common.{◌≡◌, ◌<◌, ℕ, zero, suc, List, [], ◌∷◌, ◌++◌, length, map, append-nil, Option, None, Some, get_or, set, sym, refl, ap, subst, ◌∙◌}
use Rattle.std.specs.Prelude.{slice_get}
use Rattle.std.specs.List.{AllByRecursion}
use Rattle.std.proofs.lemmas.List.{length-map, length-set, map-set}
use Rattle.event_worlds.specs.bolt_ops.RowOp.{Custom, IsCustom}
use Rattle.event_worlds.specs.commit_order.Orders.{IsOwn, collector_of, cut_of, desk_of, plan_of, wanted_memory}
use Rattle.event_worlds.specs.commit_order.declared.coordinator.Coordinator.{Coordinator}
use Rattle.event_engine.specs.Engines.{Happens, IsReady, IsSeated, IsStill, IsThere, shape, sources}
use Rattle.event_engine.specs.Seats.{Acts, ActsAt, AreSeats, HasBuckets, Puts, TakesAt, acker_side, source_in, task_side}
use Rattle.event_engine.specs.declared.engine.Engine.{Engine}
use Rattle.event_engine.specs.declared.task.TaskSeat.{TaskSeat}
use Rattle.event_engine.proofs.SeatLemmas.{acts_of, fits_there, get-map, get-map_some, handed_fits, seat_at, seats_set, side-same, side-set, takes_of}
use Rattle.event_worlds.specs.Orderly.{IsOrderly, IsTaskOrderly}
use Rattle.event_worlds.specs.Worlds.{TaskSide, acker_step, acted, gets_tuple, no_task, sent, task_at, task_needs, task_step, tick_step}
use Rattle.event_worlds.proofs.Orderly.{orderly-acker, orderly-shut, orderly-task, orderly-tick, task-seat}
use Rattle.event_worlds.specs.output_collector.Collectors.{ids_in}
use Rattle.event_worlds.specs.storm_ids.declared.ids.Ids.{Ghosts}
use Rattle.event_worlds.specs.topology_plan.Topology.{Topology, tasks_in_all}
use Rattle.event_worlds.specs.tree_model.declared.messages.Parcel.{Parcel}
use Rattle.event_worlds.specs.tree_model.declared.messages.Tuple.{Tuple}
use Rattle.event_worlds.specs.taken_records.Cuts.{Cut}

-- ---- lists

pub get-front : {X : Type 0} (xs ys : List X) (n : ℕ) (x : X) → slice_get xs n ≡ Some x → slice_get (xs ++ ys) n ≡ Some x
get-front [] ys n x is = absurd (let e : None ≡ Some x = is in cc)
get-front (z ∷ zs) ys zero x is = is
get-front (z ∷ zs) ys (suc n) x is = get-front zs ys n x is

pub set-front : {X : Type 0} (xs ys : List X) (n : ℕ) (x y : X) → slice_get xs n ≡ Some x → set (xs ++ ys) n y ≡ set xs n y ++ ys
set-front [] ys n x y is = absurd (let e : None ≡ Some x = is in cc)
set-front (z ∷ zs) ys zero x y is = refl
set-front (z ∷ zs) ys (suc n) x y is = ap (λ ws. z ∷ ws) (set-front zs ys n x y is)

-- ---- hand-overs

module _ {I : Type 0} {g : Ghosts I} where
  -- a tuple in a task's box
  pub put_sides : (t : Topology) (tuple : Tuple) (n : ℕ) (old new : List (TaskSeat I g)) → Puts tuple n old new
      → map task_side new ≡ set (map task_side old) n (gets_tuple tuple (get_or (map task_side old) n (no_task t)))
  put_sides t tuple n old new put =
      ap (map task_side) put.others
      ∙ side-set task_side old n put.before put.after (gets_tuple tuple) (no_task t) put.at
      (λ i. record (task_side (record put.before { task = put.task i; outbox = put.outbox i })) { inbox = put.inbox i })

  pub put_sources : (tuple : Tuple) (n : ℕ) (old new : List (TaskSeat I g)) → Puts tuple n old new → map source_in new ≡ map source_in old
  put_sources tuple n old new put = ap (map source_in) put.others ∙ side-same source_in old n put.before put.after put.at (λ i. source_in (record put.before { task = put.task i }))

  pub put_seats : (t : Topology) (tuple : Tuple) (n : ℕ) (old new : List (TaskSeat I g)) → Puts tuple n old new → AreSeats t 0 old → AreSeats t 0 new
  put_seats t tuple n old new put all =
      subst (AreSeats t 0) (sym put.others)
      (seats_set t n old put.before put.after all put.at (record { topology = λ i. (put.task i).plan.now; component = λ i. (put.task i).component; number = λ i. (put.task i).task }))

-- ---- ready

module _ {I : Type 0} {g : Ghosts I} (t : Topology) (cut : Cut) (old new : Engine I g) where
  -- it stays so where the coordinator and the fates are as they were
  pub ready_still : IsReady t cut old → IsStill old new → IsSeated t cut new → IsOrderly t (shape new) → IsReady t cut new
  ready_still ready still seated orderly =
      record {
        input = ready.input;
        seated = seated;
        orderly = orderly;
        kept = rw (ap desk_of still.coordinator, still.fates) ready.kept;
        ticks = rw (ap desk_of still.coordinator) ready.ticks;
        has_memory = ap wanted_memory still.coordinator ∙ ready.has_memory;
      }

-- ---- a task's event

module _ {I : Type 0} {g : Ghosts I} (tells : I → (ℕ → ℕ) → ℕ → Type 0) (t : Topology) (custom : Custom) (n : ℕ) where
  -- the task takes what stands in its box
  pub takes_at : (cut : Cut) (e : Engine I g) → IsReady t cut e → n < tasks_in_all t → TakesAt n e.tasks.items
  takes_at cut e ready there s at =
      let seat = task-seat t (shape e) ready.orderly n there in
      let side : task_at t n (shape e) ≡ task_side s = get-map task_side e.tasks.items n s (no_task t) at in
      takes_of t n s (seat_at t n e.tasks.items s ready.seated.tasks at) (subst (IsTaskOrderly t n) side seat.0)

  -- the parcel that it hands over names what is there
  pub handed_there : (parcel : Parcel) (found : Option Parcel) (old : Engine I g) (tasks : List (TaskSeat I g)) → IsOrderly t (shape old) → n < tasks_in_all t → AreSeats t 0 old.tasks.items
      → ActsAt tells custom n found old.tasks.items tasks → found ≡ Some parcel → IsThere (length tasks) (length old.ackers.items) parcel
  handed_there parcel found old tasks orderly there all a is =
      let acts : Acts tells t custom n found a.before a.after = acts_of tells custom n t found old.tasks.items tasks all a in
      let side : task_at t n (shape old) ≡ task_side a.before = get-map task_side old.tasks.items n a.before (no_task t) a.at in
      let seat : IsTaskOrderly t n (task_side a.before) = subst (IsTaskOrderly t n) side (task-seat t (shape old) orderly n there).0 in
      let tasks_are : length tasks ≡ tasks_in_all t =
      ap length a.others ∙ length-set old.tasks.items n a.after ∙ sym (length-map old.tasks.items (task_side {I = I} {g = g})) ∙ orderly.task_count in
      let ackers_are : length old.ackers.items ≡ t.ackers = sym (length-map old.ackers.items acker_side) ∙ orderly.acker_count in
      fits_there t (length tasks) (length old.ackers.items) parcel tasks_are ackers_are
      (handed_fits t custom n acts.ids (task_side a.before) (task_side a.before).outbox parcel seat.outbox (sym is ∙ acts.sent))

  pub task_happens : (parcel : Option Parcel) (old mid new : Engine I g) → AreSeats t 0 old.tasks.items → ActsAt tells custom n parcel old.tasks.items mid.tasks.items
      → shape mid ≡ record (shape old) { tasks = map task_side mid.tasks.items } → mid.coordinator ≡ old.coordinator
      → shape new ≡ sent t parcel (shape mid) → sources new ≡ sources mid → new.fates ≡ old.fates
      → Happens tells n (task_needs t custom (task_at t n (shape old))) (λ ids w. task_step t custom n ids w) old new
  task_happens parcel old mid new all a mid_is kept sends same fates =
      let acts : Acts tells t custom n parcel a.before a.after = acts_of tells custom n t parcel old.tasks.items mid.tasks.items all a in
      let side : task_at t n (shape old) ≡ task_side a.before = get-map task_side old.tasks.items n a.before (no_task t) a.at in
      let at : slice_get (map source_in old.tasks.items) n ≡ Some (source_in a.before) = get-map_some source_in old.tasks.items n a.before a.at in record {
        ids = acts.ids;
        enough = acts.enough ∙ ap (λ (s : TaskSide). task_needs t custom s) (sym side);
        drawn = record {
          before = source_in a.before;
          after = source_in a.after;
          at = get-front (map source_in old.tasks.items) (ids_in (collector_of old.coordinator) ∷ []) n (source_in a.before) at;
          draws = acts.drawn;
          others =
              same ∙ (λ i. (ap (map source_in) a.others ∙ map-set source_in old.tasks.items n a.after) i ++ ids_in (collector_of (kept i)) ∷ [])
              ∙ sym (set-front (map source_in old.tasks.items) (ids_in (collector_of old.coordinator) ∷ []) n (source_in a.before) (source_in a.after) at);
        };
        same =
            let stands : map task_side mid.tasks.items ≡ set (map task_side old.tasks.items) n (acted t custom n acts.ids (task_at t n (shape old))).side =
            ap (map task_side) a.others ∙ map-set task_side old.tasks.items n a.after ∙ ap (λ s. set (map task_side old.tasks.items) n s) (acts.side ∙ ap (λ (s : TaskSide). (acted t custom n acts.ids s).side) (sym side)) in
            let hands : parcel ≡ (acted t custom n acts.ids (task_at t n (shape old))).parcel = acts.sent ∙ ap (λ (s : TaskSide). (acted t custom n acts.ids s).parcel) (sym side) in
            sends ∙ (λ i. sent t (hands i) ((mid_is ∙ ap (λ (ts : List TaskSide). record (shape old) { tasks = ts }) stands) i));
        more = [];
        added = fates ∙ sym (append-nil old.fates);
      }

  pub task_ready : (cut : Cut) (old new : Engine I g) → IsCustom custom → n < tasks_in_all t → IsReady t cut old → IsStill old new → IsSeated t cut new
      → Happens tells n (task_needs t custom (task_at t n (shape old))) (λ ids w. task_step t custom n ids w) old new → IsReady t cut new
  task_ready cut old new keeps there ready still seated done =
      ready_still t cut old new ready still seated
      (subst (IsOrderly t) (sym done.same) (orderly-task t cut custom (shape old) ready.input keeps n there ready.orderly done.ids done.enough))

-- ---- an acker's event

module _ {I : Type 0} {g : Ghosts I} (t : Topology) (cut : Cut) (old new : Engine I g) where
  pub acker_ready : (n : ℕ) → IsReady t cut old → IsStill old new → IsSeated t cut new → shape new ≡ acker_step t n (shape old) → IsReady t cut new
  acker_ready n ready still seated same = ready_still t cut old new ready still seated (subst (IsOrderly t) (sym same) (orderly-acker t (shape old) ready.orderly n))

  pub shut_ready : (shut : ℕ) → IsReady t cut old → IsStill old new → IsSeated t cut new → shape new ≡ record (shape old) { shut = shut } → IsReady t cut new
  shut_ready shut ready still seated same = ready_still t cut old new ready still seated (subst (IsOrderly t) (sym same) (orderly-shut t (shape old) shut ready.orderly))

  pub tick_ready : IsReady t cut old → IsStill old new → IsSeated t cut new → shape new ≡ tick_step (shape old) → IsReady t cut new
  tick_ready ready still seated same = ready_still t cut old new ready still seated (subst (IsOrderly t) (sym same) (orderly-tick t (shape old) ready.orderly))

-- ---- seats

module _ {I : Type 0} {g : Ghosts I} (t : Topology) (cut : Cut) where
  pub seated_by : (old new : Engine I g) → IsSeated t cut old → new.plan ≡ old.plan → new.coordinator ≡ old.coordinator → AreSeats t 0 new.tasks.items
      → AllByRecursion (HasBuckets t.buckets) new.ackers.items → IsSeated t cut new
  seated_by old new seated plan coordinator tasks ackers = record {
    plan = (λ i. (plan i).now) ∙ seated.plan;
    tasks = tasks;
    ackers = ackers;
    own = subst (λ (c : Coordinator I). IsOwn c) (sym coordinator) seated.own;
    of_topology = ap plan_of coordinator ∙ seated.of_topology;
    of_cut = ap cut_of coordinator ∙ seated.of_cut;
  }

module _ {I : Type 0} {g : Ghosts I} (tells : I → (ℕ → ℕ) → ℕ → Type 0) (custom : Custom) (n : ℕ) where
  pub act_seats : (t : Topology) (parcel : Option Parcel) (old new : List (TaskSeat I g)) → AreSeats t 0 old → ActsAt tells custom n parcel old new → AreSeats t 0 new
  act_seats t parcel old new all a = subst (AreSeats t 0) (sym a.others) (seats_set t n old a.before a.after all a.at a.acts.same_task)
