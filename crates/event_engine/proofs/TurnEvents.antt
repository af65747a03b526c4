-- What the coordinator's events do.
use Rattle.std.proofs.Common.{◌≡◌, ◌≤◌, ◌<◌, ℕ, zero, suc, ◌+◌, ◌==◌, Bool, true, false, true≢false, cond, List, [], ◌∷◌, ◌++◌, length, map, drop, sum, append-nil, Option, None, Some, sym, refl, ap, subst, ◌∙◌, arith}
use Rattle.std.specs.Prelude.{Err, Result, is_some, slice_get}
use Rattle.std.specs.List.{AllByRecursion, flat_map}
use Rattle.std.specs.Option.{option_to_list}
use Rattle.std.proofs.lemmas.List.{length-map, set_at}
use Rattle.event_worlds.specs.acker_core.declared.verdict.Verdict.{Verdict}
use Rattle.event_worlds.specs.attempt_fates.Fates.{IsOnce}
use Rattle.event_worlds.specs.attempt_fates.declared.fates.Attempt.{Attempt}
use Rattle.event_worlds.specs.bolt_ops.RowOp.{Custom}
use Rattle.event_worlds.specs.commit_order.Offices.{IsCommitOf, Office}
use Rattle.event_worlds.specs.commit_order.Orders.{Begins, IsOwn, OpenFrom, RunsShort, StaysOwn, StopsAt, TurnsTo, collector_of, cut_of, desk_of, ids_drawn, office_of, plan_of, stand_of, stop_of, wanted_memory}
use Rattle.event_worlds.specs.commit_order.declared.coordinator.Coordinator.{Coordinator}
use Rattle.event_worlds.specs.commit_order.declared.coordinator.Orders.{Orders}
use Rattle.event_worlds.specs.commit_order.declared.stop.Stop.{Stop}
use Rattle.event_worlds.specs.commit_order.declared.stop.Stop.TheVariants as stop
use Rattle.event_worlds.specs.commit_turns.Kept.{IsKept}
use Rattle.event_worlds.specs.commit_turns.declared.wait.Wait.{Wait}
use Rattle.event_worlds.specs.commit_turns.Desks.{Desk, Progress}
use Rattle.event_worlds.specs.commit_turns.Turns.{Turned, decided, is_finished, last_tick, next_to_commit, turned}
use Rattle.event_engine.specs.Engines.{Answers, DrawsAt, Goes, Happens, HasOrdered, IsIdle, IsReady, IsSeated, IsStill, TakesTurn, cut_in, has_ended, shape, sources, topology_in}
use Rattle.event_engine.specs.Seats.{AreSeats, HasBuckets, acker_side, source_in, task_side}
use Rattle.event_engine.specs.declared.engine.Engine.{Engine}
use Rattle.event_engine.proofs.EngineLemmas.{ready_still, seated_by}
use Rattle.event_engine.proofs.FatesLemmas.{kept_once, short_once}
use Rattle.event_engine.proofs.GoesLemmas.{goes-outcome}
use Rattle.event_engine.proofs.OpenLemmas.{AreOf, openings_are}
use Rattle.event_engine.proofs.SeatLemmas.{draws-none}
use Rattle.event_engine.proofs.TurnLemmas.{decided_out, decided_tells, decided_tick, goes_on_by, next_follows, next_unfinished, no_stop, over_by, stopped_begins, turned_passes}
use Rattle.event_worlds.specs.Orderly.{IsOrderly}
use Rattle.event_worlds.proofs.Orderly.{orderly-outcome, orderly-turn}
use Rattle.event_worlds.specs.Worlds.{World, delivered, is_over, of_outcome, opened, outcome_step, outcomes_of, stand_past, turn_needs, turn_needs_past, turn_past, turn_step, turned_in, with_progress, with_turn, first_needs}
use Rattle.event_worlds.specs.output_collector.declared.collector.Collector.{Collector}
use Rattle.event_worlds.specs.output_collector.Collectors.{ids_in, outlet_of, source_of}
use Rattle.event_worlds.specs.output_collector.Draws.{Draws}
use Rattle.event_worlds.specs.state_parts.declared.answer.Commit.{Commit}
use Rattle.event_worlds.specs.state_parts.declared.answer.CommitOutcome.{CommitOutcome}
use Rattle.event_worlds.specs.storm_ids.declared.ids.Ids.{Ghosts}
use Rattle.event_worlds.specs.storm_values.declared.value.Root.{Root}
use Rattle.event_worlds.specs.topology_plan.declared.parts.Origin.TheVariants as origin
use Rattle.event_worlds.specs.topology_plan.Topology.{Topology, tasks_in_all}
use Rattle.event_worlds.specs.tree_model.declared.messages.Parcel.{Parcel}
use Rattle.event_worlds.specs.taken_records.Cuts.{Cut}
use Rattle.event_worlds.specs.tuple_account.Histories.{Opening, opening_parcels}

-- the verdict that was taken is the front one
pub front_heard : {X : Type 0} (found : Option X) (old new : List X) → old ≡ option_to_list found ++ new → new ≡ drop 1 old → slice_get old 0 ≡ found
front_heard None [] new is rest = refl
front_heard {X} None (x ∷ old) new is rest = absurd (let e : length {A = X} new ≡ length old = ap length rest in let f : suc (length old) ≡ length new = ap (length {A = X}) is in omega arith)
front_heard (Some v) old new is rest = ap (λ vs. slice_get vs 0) is

last-get : {X : Type 0} (xs : List X) (n : ℕ) (x : X) → length xs ≡ n → slice_get (xs ++ x ∷ []) n ≡ Some x
last-get [] zero x is = refl
last-get [] (suc n) x is = absurd (omega arith)
last-get (z ∷ zs) zero x is = absurd (omega arith)
last-get (z ∷ zs) (suc n) x is = last-get zs n x (omega arith)

module _ {I : Type 0} {g : Ghosts I} (tells : I → (ℕ → ℕ) → ℕ → Type 0) where
  -- the coordinator's source gave ids
  last_draws : (n : ℕ) (ids : List ℕ) (old new : Engine I g) → length old.tasks.items ≡ n → new.tasks ≡ old.tasks
      → Draws tells (ids_in (collector_of old.coordinator)) ids (ids_in (collector_of new.coordinator)) → DrawsAt tells n ids (sources old) (sources new)
  last_draws n ids old new count tasks draws =
      let len : length (map source_in old.tasks.items) ≡ n = length-map old.tasks.items (source_in {I = I} {g = g}) ∙ count in record {
        before = ids_in (collector_of old.coordinator);
        after = ids_in (collector_of new.coordinator);
        at = last-get (map source_in old.tasks.items) n (ids_in (collector_of old.coordinator)) len;
        draws = draws;
        others =
            (λ i. map source_in (tasks i).items ++ ids_in (collector_of new.coordinator) ∷ [])
            ∙ sym (set_at (map source_in old.tasks.items) (ids_in (collector_of old.coordinator)) [] (ids_in (collector_of new.coordinator)) n len);
      }

  -- what a turn left of the engine
  pub record Leaves (t : Topology) (cut : Cut) (to : Turned t cut) (parcels : List Parcel) (old new : Engine I g) : Type 0 where
    pub desk : desk_of new.coordinator ≡ to.desk
    pub verdicts : new.verdicts.items ≡ drop 1 old.verdicts.items
    pub orders : new.orders.items ≡ parcels
    pub unheard : new.unheard ≡ 0
    pub shut : new.shut ≡ old.shut
    pub tick : new.tick ≡ old.tick
    pub fates : new.fates ≡ old.fates ++ to.ended
    pub tasks : new.tasks ≡ old.tasks
    pub ackers : new.ackers ≡ old.ackers

  module _ (t : Topology) (cut : Cut) (old new : Engine I g) where
    -- a turn, with the openings of its attempts
    pub turn_happens : (to : Turned t cut) (parcels : List Parcel) → length old.tasks.items ≡ tasks_in_all t → old.orders.items ≡ [] → turned_in t cut (shape old) ≡ to
        → (outlet_of (collector_of old.coordinator)).topology ≡ t → (outlet_of (collector_of old.coordinator)).from ≡ origin.Spout → source_of (collector_of old.coordinator) ≡ tasks_in_all t
        → Begins tells cut (collector_of old.coordinator) (collector_of new.coordinator) to.begun parcels → Leaves t cut to parcels old new
        → Happens tells (tasks_in_all t) (turn_needs t cut (shape old)) (λ ids w. turn_step t cut ids w) old new
    turn_happens to parcels count empty is topology from source begins leaves =
        let s = stand_of (collector_of old.coordinator) in
        let end = stand_of (collector_of new.coordinator) in
        let ids : List ℕ = ids_drawn begins.openings in
        let are : AreOf t cut s to.begun begins.openings end = openings_are t cut to.begun begins.openings s end topology from (subst (λ (n : ℕ). OpenFrom cut n s to.begun begins.openings end) source begins.opened) in
        let opens : opened t cut s to.begun ids ≡ begins.openings = are.same in
        record {
          ids = ids;
          enough = are.many ∙ ap (λ (u : Turned t cut). sum (map (first_needs t cut) u.begun)) (sym is) ∙ ap (turn_needs_past t cut (shape old)) (sym empty);
          drawn = last_draws (tasks_in_all t) ids old new count leaves.tasks begins.drawn;
          same =
              (λ i. record {
                tasks = map task_side (leaves.tasks i).items;
                ackers = map acker_side (leaves.ackers i).items;
                spout = (sym are.past ∙ ap (λ os. stand_past t cut os s) (sym opens)) i;
                verdicts = leaves.verdicts i;
                orders = (leaves.orders ∙ begins.sent ∙ (λ j. flat_map (opening_parcels (topology j)) (sym opens j))) i;
                desk = leaves.desk i;
                tick = leaves.tick i;
                unheard = leaves.unheard i;
                shut = leaves.shut i;
                fates = leaves.fates i;
              })
              ∙ ap (λ (u : Turned t cut). with_turn t cut ids u (shape old)) (sym is)
              ∙ ap (λ out. turn_past t cut ids (shape old) out) (sym empty);
          more = to.ended;
          added = leaves.fates;
        }

    -- a turn that stops begins no attempt
    pub stopped_happens : (to : Turned t cut) → length old.tasks.items ≡ tasks_in_all t → old.orders.items ≡ [] → turned_in t cut (shape old) ≡ to
        → (outlet_of (collector_of old.coordinator)).topology ≡ t → (outlet_of (collector_of old.coordinator)).from ≡ origin.Spout → source_of (collector_of old.coordinator) ≡ tasks_in_all t
        → to.begun ≡ [] → collector_of new.coordinator ≡ collector_of old.coordinator → Leaves t cut to [] old new
        → Happens tells (tasks_in_all t) (turn_needs t cut (shape old)) (λ ids w. turn_step t cut ids w) old new
    stopped_happens to count empty is topology from source none collector leaves =
        turn_happens to [] count empty is topology from source
        (record {
          openings = [];
          opened = subst (λ (ws : List Wait). OpenFrom cut (source_of (collector_of old.coordinator)) (stand_of (collector_of old.coordinator)) ws [] (stand_of (collector_of new.coordinator))) (sym none) (ap stand_of collector);
          drawn = subst (λ (c : Collector I). Draws tells (ids_in (collector_of old.coordinator)) [] (ids_in c)) (sym collector) (draws-none tells (ids_in (collector_of old.coordinator)));
          sent = refl;
          source = ap source_of collector;
        })
        leaves

    -- the coordinator hands over a parcel
    pub hands_order : (parcel : Parcel) (mid : Engine I g) → length old.tasks.items ≡ tasks_in_all t → old.orders.items ≡ parcel ∷ mid.orders.items
        → shape mid ≡ record (shape old) { orders = mid.orders.items } → sources mid ≡ sources old → shape new ≡ delivered t parcel (shape mid) → sources new ≡ sources mid → new.fates ≡ old.fates
        → Happens tells (tasks_in_all t) (turn_needs t cut (shape old)) (λ ids w. turn_step t cut ids w) old new
    hands_order parcel mid count front mid_is sources_are sends same fates =
        let len : length (map source_in old.tasks.items) ≡ tasks_in_all t = length-map old.tasks.items (source_in {I = I} {g = g}) ∙ count in
        let source = ids_in (collector_of old.coordinator) in record {
          ids = [];
          enough = sym (ap (turn_needs_past t cut (shape old)) front);
          drawn = record {
            before = source;
            after = source;
            at = last-get (map source_in old.tasks.items) (tasks_in_all t) source len;
            draws = draws-none tells source;
            others = same ∙ sources_are ∙ sym (set_at (map source_in old.tasks.items) source [] source (tasks_in_all t) len);
          };
          same = sends ∙ ap (delivered t parcel) mid_is ∙ ap (λ out. turn_past t cut [] (shape old) out) (sym front);
          more = [];
          added = fates ∙ sym (append-nil old.fates);
        }

-- ---- what a turn answers

no_stop_left : (why : Stop) → (why ≡ stop.Memory → ⊥) → ((key : List ℕ) → why ≡ stop.BadCell key → ⊥) → ((txid : ℕ) → why ≡ stop.Follow txid → ⊥) → (txid : ℕ) × (why ≡ stop.Exhausted txid)
no_stop_left (stop.Exhausted txid) memory cell follower = (txid, refl)
no_stop_left (stop.BadCell key) memory cell follower = absurd (cell key refl)
no_stop_left (stop.Follow txid) memory cell follower = absurd (follower txid refl)
no_stop_left stop.Memory memory cell follower = absurd (memory refl)

-- a stop that is not for want of memory has its transaction
pub stop_of_txid : {X : Type 0} (result : Result X Stop) (why : Stop) → result ≡ Err why → (why ≡ stop.Memory → ⊥) → ((key : List ℕ) → result ≡ Err (stop.BadCell key) → ⊥)
    → ((txid : ℕ) → result ≡ Err (stop.Follow txid) → ⊥) → (txid : ℕ) × (result ≡ Err (stop.Exhausted txid))
stop_of_txid result why is memory cell follower = let found = no_stop_left why memory (λ key same. cell key (is ∙ ap Err same)) (λ txid same. follower txid (is ∙ ap Err same)) in (found.0, is ∙ ap Err found.1)

none_of : (w : Option Wait) → IsCommitOf w None → w ≡ None
none_of None is = refl
none_of (Some w) is = absurd is

record Ordered (w : Option Wait) (commit : Commit) : Type 0 where
  wait : Wait
  some : w ≡ Some wait
  is : IsCommitOf (Some wait) (Some commit)

some_of : (w : Option Wait) (commit : Commit) → IsCommitOf w (Some commit) → Ordered w commit
some_of None commit is = absurd (let e : Some commit ≡ None = is in cc)
some_of (Some w) commit is = record { wait = w; some = refl; is = is }

module _ {I : Type 0} {g : Ghosts I} (t : Topology) (cut : Cut) (old new : Engine I g) (to : Turned t cut) where
  -- what a turn leaves of the coordinator
  pub record IsTurned : Type 0 where
    pub topology : topology_in new ≡ t
    pub of_cut : cut_in new ≡ cut
    pub desk : desk_of new.coordinator ≡ to.desk

  goes_on : (w : Wait) → IsTurned → to.desk.exhausted ≡ None → next_to_commit t cut to.desk ≡ Some w → has_ended new ≡ false
  goes_on w is none next =
      (λ i. cond (is_some (is.desk i).exhausted) true (is_finished (is.topology i) (is.of_cut i) (is.desk i)))
      ∙ ap (λ (o : Option ℕ). cond (is_some o) true (is_finished t cut to.desk)) none ∙ next_unfinished t cut to.desk w next

  pub turn_answers : (commit : Option Commit) → IsTurned → to.desk.exhausted ≡ None
      → next_to_commit t cut to.desk ≡ to.commit → to.desk.out ≡ is_some to.commit → IsCommitOf to.commit commit → Answers commit new
  turn_answers None is none next out so = λ on. ap (λ (d : Desk). d.out) is.desk ∙ out ∙ ap is_some (none_of to.commit so)
  turn_answers (Some commit) is none next out so =
      let order = some_of to.commit commit so in
      let at : next_to_commit t cut to.desk ≡ Some order.wait = next ∙ order.some in
      record {
        wait = order.wait;
        ordered = record {
          goes_on = goes_on order.wait is none at;
          out = ap (λ (d : Desk). d.out) is.desk ∙ out ∙ ap is_some order.some;
          next = (λ i. next_to_commit (is.topology i) (is.of_cut i) (is.desk i)) ∙ at;
        };
        is = order.is;
        txid = ap (λ (r : Root). r.txid) order.is.0 ∙ next_follows t cut to.desk order.wait at ∙ ap (λ (d : Desk). d.committed + 1) (sym is.desk);
      }

  -- where attempts ran out all is over
  pub stopped_idle : (txid : ℕ) → desk_of new.coordinator ≡ to.desk → to.desk.exhausted ≡ Some txid → IsIdle new
  stopped_idle txid desk stops on =
      absurd (true≢false (sym (over_by (desk_of new.coordinator).exhausted txid (is_finished (topology_in new) (cut_in new) (desk_of new.coordinator)) (ap (λ (d : Desk). d.exhausted) desk ∙ stops)) ∙ on))

-- ---- ready after a turn or an outcome

module _ {I : Type 0} {g : Ghosts I} (t : Topology) (cut : Cut) (old new : Engine I g) where
  pub seated_on : IsSeated t cut old → new.plan ≡ old.plan → new.tasks ≡ old.tasks → new.ackers ≡ old.ackers → IsOwn new.coordinator → plan_of new.coordinator ≡ plan_of old.coordinator
      → cut_of new.coordinator ≡ cut_of old.coordinator → IsSeated t cut new
  seated_on seated plan tasks ackers own topology of_cut = record {
    plan = (λ i. (plan i).now) ∙ seated.plan;
    tasks = subst (λ ts. AreSeats t 0 ts) (λ i. (sym tasks i).items) seated.tasks;
    ackers = subst (λ ss. AllByRecursion (HasBuckets t.buckets) ss) (λ i. (sym ackers i).items) seated.ackers;
    own = own;
    of_topology = topology ∙ seated.of_topology;
    of_cut = of_cut ∙ seated.of_cut;
  }

  -- the desk comes to this, and these attempts ended
  pub ready_on : (d : Desk) (ended : List Attempt) → IsReady t cut old → IsSeated t cut new → IsOrderly t (shape new) → desk_of new.coordinator ≡ d → new.fates ≡ old.fates ++ ended
      → IsKept t cut d (old.fates ++ ended) → d.tick ≤ last_tick → wanted_memory new.coordinator ≡ false → IsReady t cut new
  ready_on d ended ready seated orderly desk fates kept few memory = record {
    input = ready.input;
    seated = seated;
    orderly = orderly;
    kept = subst (λ (e : Desk). IsKept t cut e new.fates) (sym desk) (subst (IsKept t cut d) (sym fates) kept);
    ticks = subst (λ (e : Desk). e.tick ≤ last_tick) (sym desk) few;
    has_memory = memory;
  }

  pub tasks_are : IsReady t cut old → length old.tasks.items ≡ tasks_in_all t
  tasks_are ready = sym (length-map old.tasks.items (task_side {I = I} {g = g})) ∙ ready.orderly.task_count

-- ---- a turn

-- an engine took a verdict for a turn, and these parcels are ordered
pub record TookTurn {I : Type 0} {g : Ghosts I} (found : Option Verdict) (parcels : List Parcel) (old new : Engine I g) : Type 0 where
  pub heard : slice_get old.verdicts.items 0 ≡ found
  pub verdicts : new.verdicts.items ≡ drop 1 old.verdicts.items
  pub orders : new.orders.items ≡ parcels
  pub unheard : new.unheard ≡ 0
  pub shut : new.shut ≡ old.shut
  pub tick : new.tick ≡ old.tick
  pub plan : new.plan ≡ old.plan
  pub tasks : new.tasks ≡ old.tasks
  pub ackers : new.ackers ≡ old.ackers

module _ {I : Type 0} {g : Ghosts I} (tells : I → (ℕ → ℕ) → ℕ → Type 0) (t : Topology) (cut : Cut) (old new : Engine I g) (found : Option Verdict) (ready : IsReady t cut old) where
  turn_is : (parcels : List Parcel) → TookTurn found parcels old new → turned_in t cut (shape old) ≡ turned t cut found old.unheard old.shut (desk_of old.coordinator)
  turn_is parcels took = ap (λ (v : Option Verdict). turned t cut v old.unheard old.shut (desk_of old.coordinator)) took.heard

  pub turn_few : (turned t cut found old.unheard old.shut (desk_of old.coordinator)).desk.tick ≤ last_tick
  turn_few = turned_passes t cut found old.unheard old.shut (desk_of old.coordinator) ready.ticks

  leaves_by : (to : Turned t cut) (parcels : List Parcel) → TookTurn found parcels old new → desk_of new.coordinator ≡ to.desk → new.fates ≡ old.fates ++ to.ended → Leaves tells t cut to parcels old new
  leaves_by to parcels took desk fates = record {
    desk = desk;
    verdicts = took.verdicts;
    orders = took.orders;
    unheard = took.unheard;
    shut = took.shut;
    tick = took.tick;
    fates = fates;
    tasks = took.tasks;
    ackers = took.ackers;
  }

  -- what a turn needs to be one
  pub record TurnsInto (to : Turned t cut) (parcels : List Parcel) : Type 0 where
    pub took : TookTurn found parcels old new
    pub office : office_of new.coordinator ≡ record (office_of old.coordinator) { desk = to.desk }
    pub fates : new.fates ≡ old.fates ++ to.ended
    pub own : IsOwn new.coordinator
    pub has_memory : wanted_memory new.coordinator ≡ false

  module _ (parcels : List Parcel) (turns : TurnsInto (turned t cut found old.unheard old.shut (desk_of old.coordinator)) parcels) where
    pub turn_begun_happens : Begins tells cut (collector_of old.coordinator) (collector_of new.coordinator) (turned t cut found old.unheard old.shut (desk_of old.coordinator)).begun parcels → old.orders.items ≡ []
        → Happens tells (tasks_in_all t) (turn_needs t cut (shape old)) (λ ids w. turn_step t cut ids w) old new
    turn_begun_happens begins empty =
        turn_happens tells t cut old new (turned t cut found old.unheard old.shut (desk_of old.coordinator)) parcels (tasks_are t cut old old ready) empty (turn_is parcels turns.took)
        (ready.seated.own.topology ∙ ready.seated.of_topology) ready.seated.own.from (ready.seated.own.source ∙ ap tasks_in_all ready.seated.of_topology) begins
        (leaves_by (turned t cut found old.unheard old.shut (desk_of old.coordinator)) parcels turns.took (ap (λ (o : Office). o.desk) turns.office) turns.fates)

    pub turn_ready : Happens tells (tasks_in_all t) (turn_needs t cut (shape old)) (λ ids w. turn_step t cut ids w) old new
        → IsKept t cut (turned t cut found old.unheard old.shut (desk_of old.coordinator)).desk (old.fates ++ (turned t cut found old.unheard old.shut (desk_of old.coordinator)).ended) → IsReady t cut new
    turn_ready done kept =
        ready_on t cut old new (turned t cut found old.unheard old.shut (desk_of old.coordinator)).desk (turned t cut found old.unheard old.shut (desk_of old.coordinator)).ended ready
        (seated_on t cut old new ready.seated turns.took.plan turns.took.tasks turns.took.ackers turns.own (ap (λ (o : Office). o.topology) turns.office) (ap (λ (o : Office). o.cut) turns.office))
        (subst (IsOrderly t) (sym done.same) (orderly-turn t cut (shape old) ready.input ready.orderly done.ids done.enough))
        (ap (λ (o : Office). o.desk) turns.office) turns.fates kept turn_few turns.has_memory

    pub turn_turned : IsTurned t cut old new (turned t cut found old.unheard old.shut (desk_of old.coordinator))
    turn_turned = record {
      topology = ap (λ (o : Office). o.topology) turns.office ∙ ready.seated.of_topology;
      of_cut = ap (λ (o : Office). o.cut) turns.office ∙ ready.seated.of_cut;
      desk = ap (λ (o : Office). o.desk) turns.office;
    }

  -- a turn that stops
  pub turn_stopped_happens : (txid : ℕ) → TurnsInto (turned t cut found old.unheard old.shut (desk_of old.coordinator)) [] → old.orders.items ≡ []
      → (turned t cut found old.unheard old.shut (desk_of old.coordinator)).desk.exhausted ≡ Some txid → collector_of new.coordinator ≡ collector_of old.coordinator
      → Happens tells (tasks_in_all t) (turn_needs t cut (shape old)) (λ ids w. turn_step t cut ids w) old new
  turn_stopped_happens txid turns empty stops collector =
      stopped_happens tells t cut old new (turned t cut found old.unheard old.shut (desk_of old.coordinator)) (tasks_are t cut old old ready) empty (turn_is [] turns.took)
      (ready.seated.own.topology ∙ ready.seated.of_topology) ready.seated.own.from (ready.seated.own.source ∙ ap tasks_in_all ready.seated.of_topology)
      (stopped_begins t cut found old.unheard old.shut (desk_of old.coordinator) txid stops) collector
      (leaves_by (turned t cut found old.unheard old.shut (desk_of old.coordinator)) [] turns.took (ap (λ (o : Office). o.desk) turns.office) turns.fates)

pub none_exhausted : {I : Type 0} {g : Ghosts I} (t : Topology) (cut : Cut) (e : Engine I g) → has_ended e ≡ false → (desk_of e.coordinator).exhausted ≡ None
none_exhausted t cut e going = (goes_on_by (desk_of e.coordinator).exhausted (is_finished (topology_in e) (cut_in e) (desk_of e.coordinator)) going).0

-- the coordinator may have a turn
pub has_stop_none : {I : Type 0} {g : Ghosts I} (t : Topology) (cut : Cut) (e : Engine I g) → IsReady t cut e → has_ended e ≡ false → stop_of e.coordinator ≡ None
has_stop_none t cut e ready going =
    no_stop (wanted_memory e.coordinator) (desk_of e.coordinator).exhausted ready.has_memory (none_exhausted t cut e going)

module _ {I : Type 0} {g : Ghosts I} (tells : I → (ℕ → ℕ) → ℕ → Type 0) (old new : Engine I g) (found : Option Verdict) (ready : IsReady (topology_in old) (cut_in old) old)
    (going : has_ended old ≡ false) (empty : old.orders.items ≡ [])
    (kept : IsKept (topology_in old) (cut_in old) (turned (topology_in old) (cut_in old) found old.unheard old.shut (desk_of old.coordinator)).desk
    (old.fates ++ (turned (topology_in old) (cut_in old) found old.unheard old.shut (desk_of old.coordinator)).ended)) where
  -- a turn that goes on
  pub turn_taken : (orders : Orders) → TookTurn found orders.parcels old new
      → TurnsTo tells (topology_in old) (cut_in old) (turned (topology_in old) (cut_in old) found old.unheard old.shut (desk_of old.coordinator)) old.coordinator new.coordinator orders
      → new.fates ≡ old.fates ++ (turned (topology_in old) (cut_in old) found old.unheard old.shut (desk_of old.coordinator)).ended → StaysOwn new.coordinator
      → next_to_commit (topology_in old) (cut_in old) (turned (topology_in old) (cut_in old) found old.unheard old.shut (desk_of old.coordinator)).desk ≡ (turned (topology_in old) (cut_in old) found old.unheard old.shut (desk_of old.coordinator)).commit
      → (turned (topology_in old) (cut_in old) found old.unheard old.shut (desk_of old.coordinator)).desk.out ≡ is_some (turned (topology_in old) (cut_in old) found old.unheard old.shut (desk_of old.coordinator)).commit
      → TakesTurn tells (topology_in old) (cut_in old) orders.commit old new
  turn_taken orders took to fates own next out =
      let turns : TurnsInto tells (topology_in old) (cut_in old) old new found ready (turned (topology_in old) (cut_in old) found old.unheard old.shut (desk_of old.coordinator)) orders.parcels =
      record { took = took; office = to.office; fates = fates; own = own to.has_memory; has_memory = to.has_memory } in
      let happens = turn_begun_happens tells (topology_in old) (cut_in old) old new found ready orders.parcels turns to.begun empty in
      record {
        happens = happens;
        ready = turn_ready tells (topology_in old) (cut_in old) old new found ready orders.parcels turns happens kept;
        answers =
            turn_answers (topology_in old) (cut_in old) old new (turned (topology_in old) (cut_in old) found old.unheard old.shut (desk_of old.coordinator)) orders.commit
            (turn_turned tells (topology_in old) (cut_in old) old new found ready orders.parcels turns) to.goes_on next out to.commit;
      }

  -- a turn that stops
  pub turn_stopped : (txid : ℕ) → TookTurn found [] old new
      → StopsAt txid (turned (topology_in old) (cut_in old) found old.unheard old.shut (desk_of old.coordinator)).desk (turned (topology_in old) (cut_in old) found old.unheard old.shut (desk_of old.coordinator)).ended
      old.coordinator new.coordinator old.fates new.fates → StaysOwn new.coordinator → TakesTurn tells (topology_in old) (cut_in old) None old new
  turn_stopped txid took stops own =
      let turns : TurnsInto tells (topology_in old) (cut_in old) old new found ready (turned (topology_in old) (cut_in old) found old.unheard old.shut (desk_of old.coordinator)) [] =
      record { took = took; office = stops.office; fates = stops.fates; own = own stops.has_memory; has_memory = stops.has_memory } in
      let happens = turn_stopped_happens tells (topology_in old) (cut_in old) old new found ready txid turns empty stops.exhausted stops.collector in
      record {
        happens = happens;
        ready = turn_ready tells (topology_in old) (cut_in old) old new found ready [] turns happens kept;
        answers = stopped_idle (topology_in old) (cut_in old) old new (turned (topology_in old) (cut_in old) found old.unheard old.shut (desk_of old.coordinator)) txid (ap (λ (o : Office). o.desk) stops.office) stops.exhausted;
      }

  -- a turn that wants memory
  pub turn_short : (result : List Attempt) → RunsShort (turned (topology_in old) (cut_in old) found old.unheard old.shut (desk_of old.coordinator)).ended new.coordinator old.fates result
      → IsOnce (cut_in old) last_tick result
  turn_short result short =
      short_once (topology_in old) (cut_in old) (turned (topology_in old) (cut_in old) found old.unheard old.shut (desk_of old.coordinator)).desk
      (turned (topology_in old) (cut_in old) found old.unheard old.shut (desk_of old.coordinator)).ended old.fates result kept (turn_few tells (topology_in old) (cut_in old) old new found ready) short.some

-- ---- an outcome

pub decided_few_of : {I : Type 0} {g : Ghosts I} (t : Topology) (cut : Cut) (e : Engine I g) (how : CommitOutcome) → IsReady t cut e → (decided t cut how (desk_of e.coordinator)).desk.tick ≤ last_tick
decided_few_of t cut e how ready =
    subst (λ (n : ℕ). n ≤ last_tick) (sym (decided_tick t cut how (next_to_commit t cut (desk_of e.coordinator)) (desk_of e.coordinator))) ready.ticks

module _ {I : Type 0} {g : Ghosts I} (t : Topology) (cut : Cut) (old new : Engine I g) (how : CommitOutcome) (w : Wait) (ready : IsReady t cut old) (ordered : HasOrdered w old) where
  -- what an outcome needs to be one
  pub record Decides : Type 0 where
    pub office : office_of new.coordinator ≡ record (office_of old.coordinator) { desk = (decided t cut how (desk_of old.coordinator)).desk }
    pub collector : collector_of new.coordinator ≡ collector_of old.coordinator
    pub fates : new.fates ≡ old.fates ++ (decided t cut how (desk_of old.coordinator)).ended
    pub own : IsOwn new.coordinator
    pub has_memory : wanted_memory new.coordinator ≡ false
    pub plan : new.plan ≡ old.plan
    pub others : shape new ≡ record (shape old) { spout = stand_of (collector_of new.coordinator); desk = desk_of new.coordinator; fates = new.fates }
    pub tasks : new.tasks ≡ old.tasks
    pub ackers : new.ackers ≡ old.ackers

  decided_next : next_to_commit t cut (desk_of old.coordinator) ≡ Some w
  decided_next = (λ i. next_to_commit (sym ready.seated.of_topology i) (sym ready.seated.of_cut i) (desk_of old.coordinator)) ∙ ordered.next

  module _ (decides : Decides) where
    decided_shape : shape new ≡ outcome_step t cut how (shape old)
    decided_shape =
        let p : Progress = decided t cut how (desk_of old.coordinator) in
        decides.others
        ∙ (λ i. record (shape old) { spout = stand_of (decides.collector i); desk = (ap (λ (o : Office). o.desk) decides.office) i; fates = decides.fates i })
        ∙ sym (ap (λ (b : Bool). cond b (with_progress t cut p (shape old)) (shape old)) ordered.out)

    pub decided_told : outcomes_of new.fates ≡ outcomes_of old.fates ++ how ∷ []
    decided_told = ap outcomes_of decides.fates ∙ decided_tells t cut how w (desk_of old.coordinator) old.fates decided_next

    pub decided_goes : (tells : I → (ℕ → ℕ) → ℕ → Type 0) (custom : Custom) → Goes tells t custom cut (of_outcome ∷ []) old new
    decided_goes tells custom =
        let going : is_over t cut (shape old) ≡ false = (λ i. is_over (sym ready.seated.of_topology i) (sym ready.seated.of_cut i) (shape old)) ∙ ordered.goes_on in
        goes-outcome tells t custom cut old new going how (decided t cut how (desk_of old.coordinator)).ended decides.fates decided_told decided_shape
        (λ i. map source_in (decides.tasks i).items ++ ids_in (decides.collector i) ∷ [])

    pub decided_idle : IsIdle new
    decided_idle on =
        ap (λ (o : Office). o.desk.out) decides.office ∙ decided_out t cut how (next_to_commit t cut (desk_of old.coordinator)) (desk_of old.coordinator)

    pub decided_ready : IsKept t cut (decided t cut how (desk_of old.coordinator)).desk (old.fates ++ (decided t cut how (desk_of old.coordinator)).ended) → IsReady t cut new
    decided_ready kept =
        ready_on t cut old new (decided t cut how (desk_of old.coordinator)).desk (decided t cut how (desk_of old.coordinator)).ended ready
        (seated_on t cut old new ready.seated decides.plan decides.tasks decides.ackers decides.own (ap (λ (o : Office). o.topology) decides.office) (ap (λ (o : Office). o.cut) decides.office))
        (subst (IsOrderly t) (sym decided_shape) (orderly-outcome t cut (shape old) ready.orderly how))
        (ap (λ (o : Office). o.desk) decides.office) decides.fates kept (decided_few_of t cut old how ready) decides.has_memory

-- ---- what the coordinator hands over

module _ {I : Type 0} {g : Ghosts I} (t : Topology) (cut : Cut) (old mid : Engine I g) where
  -- an engine that is the same world, with the same coordinator
  pub record IsAlike : Type 0 where
    pub shape_is : shape mid ≡ shape old
    pub coordinator : mid.coordinator ≡ old.coordinator
    pub plan : mid.plan ≡ old.plan
    pub tasks : mid.tasks ≡ old.tasks
    pub ackers : mid.ackers ≡ old.ackers

  pub ready_alike : IsReady t cut old → IsAlike → IsReady t cut mid
  ready_alike ready alike =
      ready_still t cut old mid ready (record { coordinator = alike.coordinator; fates = ap (λ (w : World). w.fates) alike.shape_is })
      (seated_by t cut old mid ready.seated alike.plan alike.coordinator (subst (λ ts. AreSeats t 0 ts) (λ i. (sym alike.tasks i).items) ready.seated.tasks)
      (subst (λ ss. AllByRecursion (HasBuckets t.buckets) ss) (λ i. (sym alike.ackers i).items) ready.seated.ackers))
      (subst (IsOrderly t) (sym alike.shape_is) ready.orderly)

  pub happens_alike : (tells : I → (ℕ → ℕ) → ℕ → Type 0) (n : ℕ) (needs : World → ℕ) (change : List ℕ → World → World) (new : Engine I g) → IsAlike → Happens tells n (needs (shape mid)) change mid new → Happens tells n (needs (shape old)) change old new
  happens_alike tells n needs change new alike done =
      let source : sources mid ≡ sources old = λ i. map source_in (alike.tasks i).items ++ ids_in (collector_of (alike.coordinator i)) ∷ [] in record {
        ids = done.ids;
        enough = done.enough ∙ ap needs alike.shape_is;
        drawn = subst (λ (ss : List I). DrawsAt tells n done.ids ss (sources new)) source done.drawn;
        same = done.same ∙ ap (change done.ids) alike.shape_is;
        more = done.more;
        added = done.added ∙ ap (λ (w : World). w.fates ++ done.more) alike.shape_is;
      }

  -- no commit is out that was not
  pub idle_still : IsIdle old → IsStill old mid → IsIdle mid
  idle_still idle still =
      subst (λ (c : Coordinator I). cond (is_some (desk_of c).exhausted) true (is_finished (plan_of c) (cut_of c) (desk_of c)) ≡ false → (desk_of c).out ≡ false) (sym still.coordinator) idle

module _ {I : Type 0} {g : Ghosts I} (t : Topology) (cut : Cut) (old new : Engine I g) (ready : IsReady t cut old) where
  pub ready_handed : (tells : I → (ℕ → ℕ) → ℕ → Type 0) → Happens tells (tasks_in_all t) (turn_needs t cut (shape old)) (λ ids w. turn_step t cut ids w) old new → IsStill old new → IsSeated t cut new → IsReady t cut new
  ready_handed tells done still seated =
      ready_still t cut old new ready still seated (subst (IsOrderly t) (sym done.same) (orderly-turn t cut (shape old) ready.input ready.orderly done.ids done.enough))

-- the fates of an engine that is ready
pub ready_once : {I : Type 0} {g : Ghosts I} (t : Topology) (cut : Cut) (e : Engine I g) → IsReady t cut e → IsOnce cut last_tick e.fates
ready_once t cut e ready = kept_once t cut (desk_of e.coordinator) e.fates ready.kept ready.ticks

pub once_still : {I : Type 0} {g : Ghosts I} (t : Topology) (cut : Cut) (old new : Engine I g) → IsReady t cut old → IsStill old new → IsOnce cut last_tick new.fates
once_still t cut old new ready still = subst (IsOnce cut last_tick) (sym still.fates) (ready_once t cut old ready)
