-- What is sent fits where it goes, and every step keeps a world orderly.
use Rattle.std.proofs.Common.{◌≡◌, ℕ, zero, suc, ◌+◌, ◌<◌, ◌≤◌, Bool, true, false, cond, List, [], ◌∷◌, ◌++◌, length, map, take, drop, sum, Option, Some, None, IfSome, slice_get, slice_set, get_or, sym, subst, refl, ap, ◌∙◌, mod-lt, arith}
use Rattle.std.specs.List.{flat_map, range_with_len, AllByRecursion}
use Rattle.std.proofs.lemmas.List.{get_or_past, length-drop, length-replicate, length-set, length-take-le, nil_from_length, set_past, take-append-drop}
use Rattle.std.proofs.lemmas.List.FromFn.{length-map-range_with_len}
use Rattle.std.proofs.lemmas.List.Sums.{sum_by-cons}
use Rattle.std.proofs.lemmas.Option.{slice_get-get_or}
use Rattle.commit_order.specs.bolt_ops.RowOp.{Custom, IsCustom}
use Rattle.bolt_task.specs.Executing.{rows_of}
use Rattle.commit_order.specs.Orders.{OpenFrom, Stand, ids_drawn, opening_of, stand_after}
use Rattle.commit_order.specs.commit_turns.Account.{rows_at}
use Rattle.commit_order.specs.commit_turns.Desks.{Progress}
use Rattle.commit_order.specs.commit_turns.Turns.{Turned, decided}
use Rattle.commit_order.proofs.counted_items.Each.{each-append, each-any, each-to_map}
use Rattle.event_worlds.specs.Accounted.{IsInput}
use Rattle.event_worlds.specs.Orderly.{AreTasksOrderly, FitsParcel, IsForTask, IsOrderly, IsStandOf, IsTaskOrderly}
use Rattle.event_worlds.specs.Worlds.{Acted, AckerSide, TaskSide, World, acker_at, acker_step, acted, acted_past, answered, delivered, executed, execution_by, first_needs, first_stand, first_task, first_world, gets_message, gets_tuple, needed_by, needed_past, no_acker, no_task, opened, outcome_step, sent, stand_moved, stand_past, task_at, task_needs, task_step, tick_step, tuples_made, turn_needs, turn_needs_past, turn_past, turn_step, turned_in, with_acker, with_progress, with_task, with_turn}
use Rattle.event_worlds.proofs.Rows.{HasRow, children_have_rows, first_lanes_are_sound, go_by_component, spans_have_rows}
use Rattle.commit_order.specs.output_collector.Outlets.{AreLanesOf, after_rows}
use Rattle.commit_order.proofs.output_collector.Lanes.{All-after, AreLanesOf-after, AreLanesOf-started}
use Rattle.commit_order.proofs.output_collector.Targets.{go_to}
use Rattle.commit_order.specs.state_parts.declared.answer.CommitOutcome.{CommitOutcome}
use Rattle.commit_order.specs.storm_values.declared.value.Root.{Root}
use Rattle.commit_order.specs.storm_values.declared.value.Value.{Value}
use Rattle.commit_order.specs.storm_values.Rows.{IsRow}
use Rattle.commit_order.specs.topology_plan.declared.parts.Origin.{Origin}
use Rattle.commit_order.specs.topology_plan.declared.parts.Origin.TheVariants as origin
use Rattle.commit_order.specs.topology_plan.Topology.{Topology, component_of, subs_of, tasks_in_all}
use Rattle.commit_order.specs.topology_plan.Valid.{IsValid}
use Rattle.commit_order.specs.topology_plan.Wired.{IsWired, width_to}
use Rattle.commit_order.specs.tree_model.declared.messages.AckMsg.{AckMsg}
use Rattle.commit_order.specs.tree_model.declared.messages.Parcel.{Parcel}
use Rattle.commit_order.specs.tree_model.declared.messages.Parcel.TheVariants.{ToTask, ToAcker}
use Rattle.commit_order.specs.tree_model.declared.messages.Tuple.{Tuple}
use Rattle.commit_order.specs.tree_model.Trees.{Node, kids, kids_of}
use Rattle.commit_order.specs.taken_records.Cuts.{Cut}
use Rattle.commit_order.specs.tuple_account.Histories.{Execution, GoTo, IsExecution, IsOpening, Opening, execution_parcels, opening_parcels, to_acker, to_tasks}
use Rattle.commit_order.specs.tuple_account.Issued.{children_of, course_of_run, first_tuples, init_of, node_of, notes_of, tuples_from}
use Rattle.commit_order.specs.tuple_tickets.Tickets.{made_by}
use Rattle.commit_order.specs.tuple_tickets.Trees.{Course, goes, fails, mute}
use Rattle.commit_order.specs.commit_turns.declared.wait.Wait.{Wait}
use Rattle.commit_order.specs.commit_turns.Outcomes.{Begin}

-- ---- parcels

-- the tuple's row is within limits and as wide as its component takes
abbrev HasTupleRow : Topology → Tuple → Type 0
HasTupleRow t tuple = IsRow (width_to t tuple.component) tuple.row

rows_of_tuples : (t : Topology) (root : Root) (path : List ℕ) (j : ℕ) (nodes : List Node) (ids : List ℕ) → AllByRecursion (HasRow t) nodes → AllByRecursion (HasTupleRow t) (tuples_from root path j nodes ids)
rows_of_tuples t root path j [] ids all = tt
rows_of_tuples t root path j (node ∷ nodes) [] all = tt
rows_of_tuples t root path j (node ∷ nodes) (id ∷ ids) all = (all.0, rows_of_tuples t root path (suc j) nodes ids all.1)

each-made : {X : Type 0} (P : X → Type 0) (course : Course) (xs : List X) → AllByRecursion P xs → AllByRecursion P (made_by course xs)
each-made P goes xs all = all
each-made P fails xs all = tt
each-made P mute xs all = tt

-- tuples with good rows fit the tasks that they go to
tuples_fit : (t : Topology) (tuples : List Tuple) (targets : List ℕ) → GoTo t tuples targets → AllByRecursion (HasTupleRow t) tuples → AllByRecursion (FitsParcel t) (to_tasks tuples targets)
tuples_fit t [] targets go all = tt
tuples_fit t (tuple ∷ tuples) [] go all = tt
tuples_fit t (tuple ∷ tuples) (task ∷ targets) go all =
    let is = go.0 in
    ((is.there, record { to = sym is.belongs; row = subst (λ c. IsRow (width_to t c) tuple.row) (sym is.belongs) all.0 }), tuples_fit t tuples targets go.1 all.1)

-- each message is for an acker that is there
message_fits : (t : Topology) → IsValid t → (m : AckMsg) → FitsParcel t (to_acker t m)
message_fits t valid m = mod-lt _ (omega (arith, valid.ackers))

-- ---- stands

-- rows go along the source's own lanes
own_lanes : (t : Topology) (from : Origin) (s : Stand) → IsStandOf t from s → AreLanesOf t from s.outlet.lanes
own_lanes t from s is =
    subst (λ (u : Topology). AreLanesOf u from s.outlet.lanes) is.topology (subst (λ (f : Origin). AreLanesOf s.outlet.topology f s.outlet.lanes) is.of_source is.lanes)

-- they do after any rows
stand_on : (t : Topology) (from : Origin) (s : Stand) (rows : List (List Value)) (given : ℕ) → IsStandOf t from s → IsStandOf t from (record { outlet = after_rows rows s.outlet; given = given })
stand_on t from s rows given is = record {
  topology = is.topology;
  of_source = is.of_source;
  lanes = AreLanesOf-after s.outlet.topology s.outlet.from s.outlet.lanes rows is.lanes;
  sound = All-after s.outlet.lanes rows is.sound;
}

-- and at first
stand_first : (t : Topology) (words : ℕ → ℕ → ℕ) → IsValid t → IsWired t → (n : ℕ) (from : Origin) → IsStandOf t from (first_stand t words n from)
stand_first t words valid wired n from =
    let starts : List ℕ = map (words n) (range_with_len 0 (length (subs_of t from))) in
    record {
      topology = refl;
      of_source = refl;
      lanes = AreLanesOf-started t from starts (length-map-range_with_len (words n) 0 (length (subs_of t from)));
      sound = first_lanes_are_sound t valid wired from starts;
    }

-- ---- an execution

-- what a well made execution of a tuple that fits sends fits
pub sent-fits : (t : Topology) (custom : Custom) → IsValid t → IsWired t → IsCustom custom → (e : Execution) → IsExecution t custom e → IsForTask t e.run.task e.run.tuple
    → AllByRecursion (FitsParcel t) (execution_parcels t custom e)
sent-fits t custom valid wired keeps e well for =
    let tuple : Tuple = e.run.tuple in
    let node : Node = node_of tuple in
    let has : HasRow t node = subst (λ c. IsRow (width_to t c) tuple.row) (sym for.to) for.row in
    let children : AllByRecursion (HasTupleRow t) (children_of t custom e.run) =
    each-made (HasTupleRow t) (course_of_run t custom e.run) (tuples_from tuple.root tuple.edge.path 0 (kids_of t custom node) e.run.ids)
    (rows_of_tuples t tuple.root tuple.edge.path 0 (kids_of t custom node) e.run.ids (children_have_rows t valid wired custom keeps node has)) in
    each-append (FitsParcel t) (to_tasks (children_of t custom e.run) e.targets) (map (to_acker t) (notes_of t custom e.run))
    (tuples_fit t (children_of t custom e.run) e.targets well.sent children)
    (each-to_map (FitsParcel t) (to_acker t) (notes_of t custom e.run) (each-any (λ (m : AckMsg). FitsParcel t (to_acker t m)) (message_fits t valid) (notes_of t custom e.run)))

module _ (t : Topology) (custom : Custom) (valid : IsValid t) (wired : IsWired t) (n : ℕ) (s : Stand) (tuple : Tuple) (ids : List ℕ)
    (for : IsForTask t n tuple) (stand : IsStandOf t (origin.Component (component_of t n)) s) (enough : length ids ≡ tuples_made t custom tuple) where
  -- a task's execution is well made
  pub executed-well : IsExecution t custom (execution_by t custom n s tuple ids)
  executed-well =
      let node = node_of tuple in
      let are : AreLanesOf t (origin.Component tuple.component) s.outlet.lanes = subst (λ c. AreLanesOf t (origin.Component c) s.outlet.lanes) (sym for.to) (own_lanes t (origin.Component (component_of t n)) s stand) in
      record {
        ids = enough;
        sent = go_by_component t valid wired tuple.component tuple.root tuple.edge.path ids custom s.outlet.lanes are stand.sound tuple.row tuple.root.attempt (slice_get t.components tuple.component) enough;
      }

  -- what it sends fits, and it leaves the task with its own lanes
  pub executed-fits : IsCustom custom → AllByRecursion (FitsParcel t) (execution_parcels t custom (execution_by t custom n s tuple ids))
      × IsStandOf t (origin.Component (component_of t n)) (stand_moved (rows_of t custom tuple) (length ids) s)
  executed-fits keeps = (
    sent-fits t custom valid wired keeps (execution_by t custom n s tuple ids) executed-well for,
    stand_on t (origin.Component (component_of t n)) s (rows_of t custom tuple) _ stand,
  )

-- ---- attempts that begin

-- Attempts begin well one after another: all that is sent fits, each opening is well made, and the
-- spout keeps its own lanes.
pub record AreOpened (t : Topology) (cut : Cut) (s : Stand) (begins : List Wait) (ids : List ℕ) (openings : List Opening) (end : Stand) : Type 0 where
  pub fit : AllByRecursion (FitsParcel t) (flat_map (opening_parcels t) openings)
  pub well : AllByRecursion (IsOpening t) openings
  pub stand : IsStandOf t origin.Spout end
  pub begun : Begin openings begins
  pub opened : OpenFrom cut (tasks_in_all t) s begins openings end
  pub drawn : ids_drawn openings ≡ ids

module _ (t : Topology) (cut : Cut) (input : IsInput t cut) where
  -- what one attempt's beginning sends
  opening_well : (s : Stand) (w : Wait) (ids : List ℕ) → IsStandOf t origin.Spout s → length ids ≡ first_needs t cut w
      → IsOpening t (opening_of cut s.outlet (tasks_in_all t) s.given w ids)
  opening_well s w ids is enough = record {
    source = refl;
    ids = enough;
    sent = go_to t origin.Spout s.outlet.lanes input.valid input.wired (own_lanes t origin.Spout s is) is.sound w.root [] (rows_at cut w.spans) ids enough;
  }

  opening_fits : (s : Stand) (w : Wait) (ids : List ℕ) → IsStandOf t origin.Spout s → length ids ≡ first_needs t cut w
      → AllByRecursion (FitsParcel t) (opening_parcels t (opening_of cut s.outlet (tasks_in_all t) s.given w ids))
  opening_fits s w ids is enough =
      let o : Opening = opening_of cut s.outlet (tasks_in_all t) s.given w ids in
      each-append (FitsParcel t) (to_tasks (first_tuples t o.begun) o.targets) (to_acker t (init_of t o.begun) ∷ [])
      (tuples_fit t (first_tuples t o.begun) o.targets (opening_well s w ids is enough).sent
      (rows_of_tuples t w.root [] 0 (kids t origin.Spout (rows_at cut w.spans)) ids (spans_have_rows t input.valid input.wired cut input.rows w.spans)))
      (message_fits t input.valid (init_of t o.begun), tt)

  pub opened-fits : (s : Stand) (begun : List Wait) (ids : List ℕ) → IsStandOf t origin.Spout s → length ids ≡ sum (map (first_needs t cut) begun)
      → AreOpened t cut s begun ids (opened t cut s begun ids) (stand_past t cut (opened t cut s begun ids) s)
  opened-fits s [] ids is enough = record {
    fit = tt;
    well = tt;
    stand = is;
    begun = refl;
    opened = refl;
    drawn = sym (nil_from_length ids enough);
  }
  opened-fits s (w ∷ begun) ids is enough =
      let need : ℕ = first_needs t cut w in
      let all : length ids ≡ need + sum (map (first_needs t cut) begun) = enough ∙ sum_by-cons (λ n. n) need (map (first_needs t cut) begun) in
      let own : length (take need ids) ≡ need = length-take-le need ids (omega arith) in
      let left : length (drop need ids) ≡ sum (map (first_needs t cut) begun) = omega (arith, length-drop need ids) in
      let o : Opening = opening_of cut s.outlet (tasks_in_all t) s.given w (take need ids) in
      let next : IsStandOf t origin.Spout (stand_after o s) = stand_on t origin.Spout s (rows_at cut w.spans) _ is in
      let rest = opened-fits (stand_after o s) begun (drop need ids) next left in
      let first_kids : kids t origin.Spout (rows_at cut w.spans) ≡ kids s.outlet.topology s.outlet.from (rows_at cut w.spans) = λ i. kids (sym is.topology i) (sym is.of_source i) (rows_at cut w.spans) in
      record {
        fit = each-append (FitsParcel t) (opening_parcels t o) _ (opening_fits s w (take need ids) is own) rest.fit;
        well = (opening_well s w (take need ids) is own, rest.well);
        stand = rest.stand;
        begun = ap (λ (rs : List Root). w.root ∷ rs) rest.begun;
        opened = (refl, own ∙ ap length first_kids, rest.opened);
        drawn = ap (λ xs. take need ids ++ xs) rest.drawn ∙ take-append-drop need ids;
      }

-- ---- seats

tasks_at : (t : Topology) (k : ℕ) (sides : List TaskSide) → AreTasksOrderly t k sides → (i : ℕ) (d : TaskSide) → i < length sides → IsTaskOrderly t (k + i) (get_or sides i d)
tasks_at t k [] all i d there = absurd (omega arith)
tasks_at t k (side ∷ sides) all zero d there = let e : k ≡ k + 0 = omega arith in subst (λ n. IsTaskOrderly t n side) e all.0
tasks_at t k (side ∷ sides) all (suc i) d there =
    let e : suc k + i ≡ k + suc i = omega arith in subst (λ n. IsTaskOrderly t n (get_or sides i d)) e (tasks_at t (suc k) sides all.1 i d (omega arith))

tasks_set : (t : Topology) (k : ℕ) (sides : List TaskSide) → AreTasksOrderly t k sides → (i : ℕ) (side : TaskSide) → IsTaskOrderly t (k + i) side → AreTasksOrderly t k (slice_set sides i side)
tasks_set t k [] all i side is = tt
tasks_set t k (first ∷ sides) all zero side is = let e : k + 0 ≡ k = omega arith in (subst (λ n. IsTaskOrderly t n side) e is, all.1)
tasks_set t k (first ∷ sides) all (suc i) side is =
    let e : k + suc i ≡ suc k + i = omega arith in (all.0, tasks_set t (suc k) sides all.1 i side (subst (λ n. IsTaskOrderly t n side) e is))

-- the task of a number is orderly, and in its place
pub task-seat : (t : Topology) (w : World) → IsOrderly t w → (n : ℕ) → n < tasks_in_all t → IsTaskOrderly t n (task_at t n w) × (slice_get w.tasks n ≡ Some (task_at t n w))
task-seat t w is n there =
    let count = is.task_count in
    let within : n < length w.tasks = omega arith in
    let e : 0 + n ≡ n = omega arith in
    (subst (λ m. IsTaskOrderly t m (task_at t n w)) e (tasks_at t 0 w.tasks is.tasks n (no_task t) within), slice_get-get_or w.tasks n (no_task t) within)

-- a world with another task
orderly_task_set : (t : Topology) (w : World) → IsOrderly t w → (n : ℕ) (side : TaskSide) → IsTaskOrderly t n side → IsOrderly t (with_task n side w)
orderly_task_set t w is n side fits =
    let e : n ≡ 0 + n = omega arith in
    record {
      task_count = length-set w.tasks n side ∙ is.task_count;
      acker_count = is.acker_count;
      tasks = tasks_set t 0 w.tasks is.tasks n side (subst (λ m. IsTaskOrderly t m side) e fits);
      orders = is.orders;
      spout = is.spout;
    }

-- a world with another acker
orderly_acker_set : (t : Topology) (w : World) → IsOrderly t w → (n : ℕ) (side : AckerSide) → IsOrderly t (with_acker n side w)
orderly_acker_set t w is n side = record {
  task_count = is.task_count;
  acker_count = length-set w.ackers n side ∙ is.acker_count;
  tasks = is.tasks;
  orders = is.orders;
  spout = is.spout;
}

-- ---- hand-overs

pub orderly-delivered : (t : Topology) (w : World) (parcel : Parcel) → FitsParcel t parcel → IsOrderly t w → IsOrderly t (delivered t parcel w)
orderly-delivered t w (ToTask n tuple) fits is =
    let side : TaskSide = task_at t n w in
    let seat : IsTaskOrderly t n side = (task-seat t w is n fits.0).0 in
    orderly_task_set t w is n (gets_tuple tuple side) (record {
      inbox = each-append (IsForTask t n) side.inbox (tuple ∷ []) seat.inbox (fits.1, tt);
      outbox = seat.outbox;
      stand = seat.stand;
    })
orderly-delivered t w (ToAcker n m) fits is = orderly_acker_set t w is n (gets_message m (acker_at n w))

orderly_sent : (t : Topology) (w : World) (parcel : Option Parcel) → IfSome parcel (FitsParcel t) → IsOrderly t w → IsOrderly t (sent t parcel w)
orderly_sent t w None fits is = is
orderly_sent t w (Some parcel) fits is = orderly-delivered t w parcel fits is

-- ---- a task's step

-- a task stays orderly, and what it hands over fits
record ActsOrderly (t : Topology) (n : ℕ) (a : Acted) : Type 0 where
  pub side : IsTaskOrderly t n a.side
  pub parcel : IfSome a.parcel (FitsParcel t)

module _ (t : Topology) (custom : Custom) (valid : IsValid t) (wired : IsWired t) (keeps : IsCustom custom) (n : ℕ) where
  executed_orderly : (side : TaskSide) (inbox : List Tuple) (ids : List ℕ) → IsTaskOrderly t n side → AllByRecursion (IsForTask t n) inbox → length ids ≡ needed_by t custom inbox
      → IsTaskOrderly t n (executed t custom n ids side inbox)
  executed_orderly side [] ids is each enough = is
  executed_orderly side (tuple ∷ rest) ids is each enough =
      let done = executed-fits t custom valid wired n side.stand tuple ids each.0 is.stand enough keeps in
      record { inbox = each.1; outbox = done.0; stand = done.1 }

  acted_orderly : (side : TaskSide) (outbox : List Parcel) (ids : List ℕ) → IsTaskOrderly t n side → AllByRecursion (FitsParcel t) outbox → length ids ≡ needed_past t custom side.inbox outbox
      → ActsOrderly t n (acted_past t custom n ids side outbox)
  acted_orderly side [] ids is fit enough = record { side = executed_orderly side side.inbox ids is is.inbox enough; parcel = tt }
  acted_orderly side (parcel ∷ rest) ids is fit enough = record { side = record { inbox = is.inbox; outbox = fit.1; stand = is.stand }; parcel = fit.0 }

pub orderly-task : (t : Topology) (cut : Cut) (custom : Custom) (w : World) → IsInput t cut → IsCustom custom → (n : ℕ) → n < tasks_in_all t → IsOrderly t w
    → (ids : List ℕ) → length ids ≡ task_needs t custom (task_at t n w) → IsOrderly t (task_step t custom n ids w)
orderly-task t cut custom w input keeps n there is ids enough =
    let side : TaskSide = task_at t n w in
    let seat : IsTaskOrderly t n side = (task-seat t w is n there).0 in
    let acts : ActsOrderly t n (acted t custom n ids side) = acted_orderly t custom input.valid input.wired keeps n side side.outbox ids seat seat.outbox enough in
    orderly_sent t (with_task n (acted t custom n ids side).side w) (acted t custom n ids side).parcel acts.parcel
    (orderly_task_set t w is n (acted t custom n ids side).side acts.side)

-- no task beyond has a step
pub task-beyond : (t : Topology) (custom : Custom) (w : World) (n : ℕ) → tasks_in_all t ≤ n → IsOrderly t w → (ids : List ℕ)
    → (task_step t custom n ids w ≡ w) × (task_needs t custom (task_at t n w) ≡ 0)
task-beyond t custom w n beyond is ids =
    let count = is.task_count in
    let past : length w.tasks ≤ n = omega arith in
    let at : task_at t n w ≡ no_task t = get_or_past w.tasks n (no_task t) past in (
      ap (λ (side : TaskSide). sent t (acted t custom n ids side).parcel (with_task n (acted t custom n ids side).side w)) at
          ∙ ap (λ sides. record w { tasks = sides }) (set_past w.tasks n (no_task t) past),
      ap (task_needs t custom) at,
    )

-- ---- an acker's step

pub orderly-acker : (t : Topology) (w : World) → IsOrderly t w → (n : ℕ) → IsOrderly t (acker_step t n w)
orderly-acker t w is n = record {
  task_count = is.task_count;
  acker_count = length-set w.ackers n (answered t.buckets w.tick (acker_at n w)).side ∙ is.acker_count;
  tasks = is.tasks;
  orders = is.orders;
  spout = is.spout;
}

-- ---- the coordinator's steps

module _ (t : Topology) (cut : Cut) (w : World) (is : IsOrderly t w) where
  turned_orderly : IsInput t cut → (ids : List ℕ) (to : Turned t cut) → length ids ≡ sum (map (first_needs t cut) to.begun) → IsOrderly t (with_turn t cut ids to w)
  turned_orderly input ids to enough =
      let begins = opened-fits t cut input w.spout to.begun ids is.spout enough in
      record {
        task_count = is.task_count;
        acker_count = is.acker_count;
        tasks = is.tasks;
        orders = begins.fit;
        spout = begins.stand;
      }

  turn_orderly : IsInput t cut → (ids : List ℕ) (orders : List Parcel) → AllByRecursion (FitsParcel t) orders → length ids ≡ turn_needs_past t cut w orders → IsOrderly t (turn_past t cut ids w orders)
  turn_orderly input ids [] fit enough = turned_orderly input ids (turned_in t cut w) enough
  turn_orderly input ids (parcel ∷ rest) fit enough = orderly-delivered t (record w { orders = rest }) parcel fit.0 (record {
    task_count = is.task_count;
    acker_count = is.acker_count;
    tasks = is.tasks;
    orders = fit.1;
    spout = is.spout;
  })

  outcome_orderly : (out : Bool) (p : Progress) → IsOrderly t (cond out (with_progress t cut p w) w)
  outcome_orderly true p = record { task_count = is.task_count; acker_count = is.acker_count; tasks = is.tasks; orders = is.orders; spout = is.spout }
  outcome_orderly false p = is

pub orderly-turn : (t : Topology) (cut : Cut) (w : World) → IsInput t cut → IsOrderly t w → (ids : List ℕ) → length ids ≡ turn_needs t cut w → IsOrderly t (turn_step t cut ids w)
orderly-turn t cut w input is ids enough = turn_orderly t cut w is input ids w.orders is.orders enough

pub orderly-outcome : (t : Topology) (cut : Cut) (w : World) → IsOrderly t w → (how : CommitOutcome) → IsOrderly t (outcome_step t cut how w)
orderly-outcome t cut w is how = outcome_orderly t cut w is w.desk.out (decided t cut how w.desk)

pub orderly-tick : (t : Topology) (w : World) → IsOrderly t w → IsOrderly t (tick_step w)
orderly-tick t w is = record { task_count = is.task_count; acker_count = is.acker_count; tasks = is.tasks; orders = is.orders; spout = is.spout }

pub orderly-shut : (t : Topology) (w : World) (shut : ℕ) → IsOrderly t w → IsOrderly t (record w { shut = shut })
orderly-shut t w shut is = record { task_count = is.task_count; acker_count = is.acker_count; tasks = is.tasks; orders = is.orders; spout = is.spout }

-- ---- the first world

module _ (t : Topology) (words : ℕ → ℕ → ℕ) (valid : IsValid t) (wired : IsWired t) where
  first_seats : (a n : ℕ) → AreTasksOrderly t a (map (first_task t words) (range_with_len a n))
  first_seats a zero = tt
  first_seats a (suc n) =
      let e : a + 1 ≡ suc a = omega arith in (
        record { inbox = tt; outbox = tt; stand = stand_first t words valid wired a (origin.Component (component_of t a)) },
        subst (λ b. AreTasksOrderly t b (map (first_task t words) (range_with_len (a + 1) n))) e (first_seats (a + 1) n),
      )

pub orderly-first : (t : Topology) (cut : Cut) → IsInput t cut → (words : ℕ → ℕ → ℕ) → IsOrderly t (first_world t cut words)
orderly-first t cut input words = record {
  task_count = length-map-range_with_len (first_task t words) 0 (tasks_in_all t);
  acker_count = length-replicate t.ackers no_acker;
  tasks = first_seats t words input.valid input.wired 0 (tasks_in_all t);
  orders = tt;
  spout = stand_first t words input.valid input.wired (tasks_in_all t) origin.Spout;
}
