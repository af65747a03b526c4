-- What a step of a task comes to.
use Rattle.std.proofs.Common.{◌≡◌, ◌≢◌, ◌<◌, ◌≤◌, ◌⊎◌, inl, inr, ℕ, suc, Bool, true, false, ◌+◌, ◌-◌, ◌^◌, List, [], ◌∷◌, ◌++◌, length, map, sym, refl, ap, subst, ◌∙◌, arith}
use Rattle.std.specs.Prelude.{min, Result, Ok, Err, IfOk, OnOk}
use Rattle.std.specs.List.{AllByRecursion, range_with_len}
use Rattle.std.specs.Option.{option_to_list}
use Rattle.event_worlds.specs.bolt_ops.RowOp.{Custom, IsCustom}
use Rattle.event_worlds.specs.bolt_task.Executing.{Executes, IsFor, collector_in, component_at, execution_at, number_of, rows_of, topology_at}
use Rattle.event_worlds.specs.bolt_task.declared.task.BoltTask.{BoltTask}
use Rattle.box_rows.specs.declared.mail.Mail.{Mail}
use Rattle.box_rows.specs.declared.mail.Mail.TheVariants as mails
use Rattle.box_rows.specs.Mails.{IsRunFor, IsTrueMail, IsTrueParcel}
use Rattle.box_rows.specs.Rows.{CouldBeEmpty, HasTaken, IsSameRow}
use Rattle.event_worlds.specs.commit_order.Orders.{stand_of}
use Rattle.event_worlds.proofs.counted_items.Each.{each-append}
use Rattle.event_worlds.proofs.counted_items.Weighing.{weigh-push}
use Rattle.event_worlds.specs.Orderly.{FitsParcel, IsForTask, IsStandOf}
use Rattle.event_worlds.specs.Worlds.{execution_by}
use Rattle.event_worlds.proofs.Orderly.{executed-fits}
use Rattle.event_worlds.proofs.output_collector.Sending.{Draws-none}
use Rattle.event_worlds.specs.output_collector.Collectors.{given_by, outlet_of}
use Rattle.event_worlds.specs.output_collector.Draws.{Draws}
use Rattle.event_worlds.specs.output_collector.Outlets.{after_rows}
use Rattle.event_worlds.specs.storm_ids.declared.ids.Ids.{Ghosts}
use Rattle.event_worlds.specs.storm_values.Rows.{IsRow}
use Rattle.task_queues.specs.declared.pass.Pass.{Pass}
use Rattle.event_worlds.specs.topology_plan.declared.parts.Origin.TheVariants as origin
use Rattle.event_worlds.specs.topology_plan.Topology.{Topology, component_of, tasks_in_all}
use Rattle.event_worlds.specs.topology_plan.Valid.{IsValid}
use Rattle.event_worlds.specs.topology_plan.Wired.{IsWired, width_to}
use Rattle.event_worlds.specs.tree_model.declared.messages.AckMsg.{AckMsg}
use Rattle.event_worlds.specs.tree_model.declared.messages.AckMsg.TheVariants as msg
use Rattle.event_worlds.specs.tree_model.declared.messages.Parcel.{Parcel}
use Rattle.event_worlds.specs.tree_model.declared.messages.Parcel.TheVariants.{ToTask}
use Rattle.event_worlds.specs.tree_model.declared.messages.Tuple.{Tuple}
use Rattle.event_worlds.specs.tree_model.Trees.{write_of}
use Rattle.event_worlds.specs.tuple_account.Histories.{Execution, IsExecution, Packet, execution_parcels, nothing, of_parcel, to_acker, to_tasks, weigh_parcels}
use Rattle.event_worlds.specs.tuple_account.Issued.{Run, children_of, course_of_run, edges_of, node_of, notes_by}
use Rattle.event_worlds.specs.tuple_account.Parts.{executing}
use Rattle.event_worlds.specs.tuple_account.Places.{spans}
use Rattle.event_worlds.proofs.tuple_account.Moving.{well-nothing}
use Rattle.event_worlds.proofs.tuple_account.Placing.{spans-more}
use Rattle.event_worlds.specs.tuple_tickets.Trees.{Course, fails, goes, mute}
use Rattle.worker_pool.specs.declared.desk.TaskDesk.{TaskDesk}
use Rattle.pulse_board.specs.Rule.{bit}
use Rattle.worker_pool.specs.declared.outbox.Run.{Run as OutboxRun}
use Rattle.worker_pool.specs.Desks.{DeskDid, IsDesk, IsTaskHeld, MovesMail, Receives, RunsTuple, TaskSays, given_at, source_at, weigh_inbox}
use Rattle.worker_pool.specs.Outboxes.{HandsOver, IsFrontFull, weigh_outbox}
use Rattle.worker_pool.specs.Says.{HasDone, each_one}
use Rattle.worker_pool.proofs.Outboxing.{hands_done, hands_packets}
use Rattle.worker_pool.proofs.Saying.{done-left, done-same, done-taken, empty-same, full-same, true-false, weigh-ones}
use Rattle.worker_pool.specs.Works.{ended}

pub ok_gives : {A E P Q : Type 0} (r : Result A E) → (P → Q) → OnOk r P → OnOk r Q
ok_gives (Ok a) then ok = then ok
ok_gives (Err e) then ok = tt

-- from what came of it
pub ok_from : {A E Q : Type 0} {P : A → Type 0} (r : Result A E) → ((a : A) → P a → Q) → IfOk r P → OnOk r Q
ok_from (Ok a) then ok = then a ok
ok_from (Err e) then ok = tt

pub both_ok : {A E P : Type 0} {Q R : A → Type 0} (r : Result A E) → ((a : A) → P → Q a → R a) → OnOk r P → IfOk r Q → IfOk r R
both_ok (Ok a) then one two = then a one two
both_ok (Err e) then one two = tt

pub if_gives : {A E : Type 0} {P Q : A → Type 0} (r : Result A E) → ((a : A) → P a → Q a) → IfOk r P → IfOk r Q
if_gives (Ok a) then ok = then a ok
if_gives (Err e) then ok = tt

-- ---- places up to 2^64 - 1

told_place : (t : Topology) (custom : Custom) (u : Run) (n x y : ℕ) → ended x ≡ ended y → u.task ≡ n → (c : Course) → notes_by t custom (record u { at = x }) c ≡ notes_by t custom (record u { task = n; at = y }) c
told_place t custom u n x y e same goes =
    λ i. msg.Done (record {
      root = u.tuple.root;
      consumed = u.tuple.edge;
      produced = edges_of (children_of t custom u);
      draw = record { source = same i; first = e i };
      writes = option_to_list (write_of t (node_of u.tuple));
    }) ∷ []
told_place t custom u n x y e same fails = refl
told_place t custom u n x y e same mute = refl

told_parcels : (t : Topology) (custom : Custom) (e : Execution) (n at : ℕ) → ended e.run.at ≡ ended at → e.run.task ≡ n
    → execution_parcels t custom (record e { run = record e.run { task = n; at = at } }) ≡ execution_parcels t custom e
told_parcels t custom e n at is same =
    ap (λ (notes : List AckMsg). to_tasks (children_of t custom e.run) e.targets ++ map (to_acker t) notes)
    (sym (told_place t custom e.run n e.run.at at is same (course_of_run t custom e.run)))

-- ---- inboxes

-- the parcels of a run that are left, and the tuples that came
pub record Receiving {I : Type 0} {g : Ghosts I} (t : Topology) (run : List Parcel) (old new : TaskDesk I g) (rest : List Parcel) : Type 0 where
  pub desk : IsDesk t new
  pub left : AllByRecursion (IsTrueParcel t old.number) rest
  pub weights : (f : Packet → ℕ) → weigh_inbox f old.number new.inbox.items + weigh_parcels f rest ≡ weigh_inbox f old.number old.inbox.items + weigh_parcels f run
  pub task : new.task ≡ old.task
  pub number : new.number ≡ old.number
  pub outbox : new.outbox ≡ old.outbox

module _ {I : Type 0} {g : Ghosts I} (t : Topology) where
  -- another task's state makes the same desk where the task is the same, and mail moved
  pub desk_with : (old new : TaskDesk I g) → IsDesk t old → new.task ≡ old.task → new.number ≡ old.number → AllByRecursion (IsForTask t old.number) new.inbox.items
      → AllByRecursion (λ r. IsRunFor t r.at r.parcels) new.outbox → IsDesk t new
  desk_with old new d task number inbox outbox = record {
    topology = ap topology_at task ∙ d.topology;
    number = ap number_of task ∙ d.number ∙ sym number;
    component = ap component_at task ∙ d.component ∙ ap (component_of t) (sym number);
    there = subst (λ (n : ℕ). n < tasks_in_all t) (sym number) d.there;
    inbox = subst (λ (n : ℕ). AllByRecursion (IsForTask t n) new.inbox.items) (sym number) inbox;
    outbox = outbox;
    stand = subst (λ (n : ℕ). IsStandOf t (origin.Component (component_of t n)) (stand_of (collector_in new.task))) (sym number)
        (subst (λ (b : BoltTask I g). IsStandOf t (origin.Component (component_of t old.number)) (stand_of (collector_in b))) (sym task) d.stand);
  }

  pub receiving-none : (run : List Parcel) (d : TaskDesk I g) → IsDesk t d → AllByRecursion (IsTrueParcel t d.number) run → Receiving t run d d run
  receiving-none run d desk left = record { desk = desk; left = left; weights = λ f. refl; task = refl; number = refl; outbox = refl }

  pub receiving-more : (run : List Parcel) (old mid new : TaskDesk I g) (p : Parcel) (tuple : Tuple) (rest : List Parcel) → Receiving t run old mid (p ∷ rest) → p ≡ ToTask mid.number tuple → IsForTask t mid.number tuple
      → new.inbox.items ≡ mid.inbox.items ++ tuple ∷ [] → new.task ≡ mid.task → new.number ≡ mid.number → new.outbox ≡ mid.outbox → Receiving t run old new rest
  receiving-more run old mid new p tuple rest so_far is for_it inbox task number outbox = record {
    desk = desk_with mid new so_far.desk task number
        (subst (AllByRecursion (IsForTask t mid.number)) (sym inbox) (each-append (IsForTask t mid.number) mid.inbox.items (tuple ∷ []) so_far.desk.inbox (for_it, tt)))
        (subst (λ rs. AllByRecursion (λ r. IsRunFor t r.at r.parcels) rs) (sym outbox) so_far.desk.outbox);
    left = so_far.left.1;
    weights = λ f.
        let w = so_far.weights f in
        let e = ap (weigh_inbox f old.number) inbox ∙ weigh-push (λ (x : Tuple). f (of_parcel (ToTask old.number x))) mid.inbox.items tuple in
        let q = ap (λ (x : Parcel). f (of_parcel x)) (is ∙ ap (λ (n : ℕ). ToTask n tuple) so_far.number) in omega arith;
    task = task ∙ so_far.task;
    number = number ∙ so_far.number;
    outbox = outbox ∙ so_far.outbox;
  }

  pub received : (run : List Parcel) (old new : TaskDesk I g) → Receiving t run old new [] → Receives run old new
  received run old new all = record {
    inbox = λ f. let w = all.weights f in omega arith;
    task = all.task;
    number = all.number;
    outbox = all.outbox;
  }

-- ---- mail

module _ {I : Type 0} {g : Ghosts I} where
  pub mail_handed : (did : Bool) (old new : TaskDesk I g) (was is : List (Pass Mail)) → new.task ≡ old.task → new.number ≡ old.number → new.inbox ≡ old.inbox → HandsOver did old.outbox new.outbox was is → MovesMail old new was is
  mail_handed did old new was is task number inbox hands = record {
    task = task;
    number = number;
    packets = λ f. let h = hands_packets did old.outbox new.outbox was is hands f in let p = h.0 in let k = h.1 in let i = ap (λ b. weigh_inbox f old.number b.items) inbox in omega arith;
    inbox = λ f. let k = (hands_packets did old.outbox new.outbox was is hands f).1 in let i = ap (λ b. weigh_inbox f old.number b.items) inbox in omega arith;
  }

  -- an empty inbox was looked into
  pub mail_after : (old mid new : TaskDesk I g) (was is : List (Pass Mail)) → mid.task ≡ old.task → mid.number ≡ old.number → mid.outbox ≡ old.outbox → mid.inbox.items ≡ old.inbox.items → MovesMail mid new was is → MovesMail old new was is
  mail_after old mid new was is task number outbox inbox moves = record {
    task = moves.task ∙ task;
    number = moves.number ∙ number;
    packets = λ f.
        let p = moves.packets f in
        let o = ap (weigh_outbox f) outbox in
        let i = ap (weigh_inbox f old.number) inbox in
        let m = ap (λ (n : ℕ). weigh_inbox f n mid.inbox.items) number in
        let n = ap (λ (n : ℕ). weigh_inbox f n new.inbox.items) number in omega arith;
    inbox = λ f.
        let p = moves.inbox f in
        let i = ap (weigh_inbox f old.number) inbox in
        let m = ap (λ (n : ℕ). weigh_inbox f n mid.inbox.items) number in
        let n = ap (λ (n : ℕ). weigh_inbox f n new.inbox.items) number in omega arith;
  }

  pub mail_received : (run : List Parcel) (old new : TaskDesk I g) (was is : List (Pass Mail)) → Receives run old new → HasTaken old.number (mails.Run run) was is → MovesMail old new was is
  mail_received run old new was is receives taken = record {
    task = receives.task;
    number = receives.number;
    packets = λ f.
        let i = receives.inbox f in
        let o = ap (weigh_outbox f) receives.outbox in
        let s = taken.sent f in
        let k = taken.taken f in omega arith;
    inbox = λ f. let i = receives.inbox f in let k = taken.taken f in omega arith;
  }

  pub mail_rests : (d : TaskDesk I g) (was is : List (Pass Mail)) → IsSameRow was is → MovesMail d d was is
  mail_rests d was is same = record {
    task = refl;
    number = refl;
    packets = λ f. let s = same.sent f in let k = same.taken f in omega arith;
    inbox = λ f. let k = same.taken f in omega arith;
  }

module _ {I : Type 0} {g : Ghosts I} (tells : I → (ℕ → ℕ) → ℕ → Type 0) (t : Topology) (custom : Custom) where
  -- ---- where no word is drawn

  pub desk_moved : (old new : TaskDesk I g) (was is : List (Pass Mail)) → MovesMail old new was is → DeskDid tells t custom old new was is
  desk_moved old new was is moves = record {
    ids = [];
    drawn = subst (Draws tells (source_at old) []) (λ i. source_at (record old { task = sym moves.task i })) (Draws-none tells (source_at old));
    number = moves.number;
    worked = λ count given. record {
      history = nothing;
      works = record {
        packets = λ f. let p = moves.packets f in let n = ap (λ (n : ℕ). weigh_inbox f n new.inbox.items) moves.number in omega arith;
        notes = λ g. omega arith;
        draws = λ s j. let e : spans old.number 0 count s j ≡ spans new.number 0 (count + 0) s j = (λ i. spans (sym moves.number i) 0 ((let z : count ≡ count + 0 = omega arith in z) i) s j) in omega arith;
        well = well-nothing t custom;
      };
      given = ap (λ (b : BoltTask I g). given_by (collector_in b)) moves.task ∙ given ∙ (let z : ended count ≡ ended (count + 0) = omega arith in z);
      drawn = λ words are. record { of_begun = tt; of_runs = tt };
      inside = record { starts = refl; begun = refl; heard = refl };
      uses = λ f. let p = moves.inbox f in let n = ap (λ (n : ℕ). weigh_inbox f n new.inbox.items) moves.number in omega arith;
      none_met = refl;
      none_dropped = refl;
    };
  }

  -- ---- an execution

  module _ (old : TaskDesk I g) (task : BoltTask I g) (tuple : Tuple) (parcels : List Parcel) (desk : IsDesk t old) (ran : Executes tells custom tuple old.task task parcels) where
    abbrev e0 : Execution
    e0 = execution_at custom old.task tuple ran.ids

    -- with the true place of its words
    abbrev at_place : ℕ → Execution
    at_place count = record e0 { run = record e0.run { task = old.number; at = count } }

    well : (count : ℕ) → IsExecution t custom (at_place count)
    well count = let w = subst (λ (u : Topology). IsExecution u custom e0) desk.topology ran.well in record { ids = w.ids; sent = w.sent }

    sent : (count : ℕ) → given_at old ≡ ended count → parcels ≡ execution_parcels t custom (at_place count)
    sent count given =
        subst (λ (u : Topology). parcels ≡ execution_parcels u custom e0) desk.topology ran.sent
        ∙ sym (told_parcels t custom e0 old.number count (let z : ended (given_at old) ≡ ended count = omega arith in z) desk.number)

    -- the task takes the tuple
    pub desk_takes : IsForTask t old.number tuple → IsFor old.task tuple
    desk_takes for_it = record {
      to = for_it.to ∙ sym desk.component;
      row = subst (λ (c : ℕ). IsRow (width_to (topology_at old.task) c) tuple.row) (sym desk.component)
          (subst (λ (u : Topology). IsRow (width_to u (component_of t old.number)) tuple.row) (sym desk.topology) for_it.row);
    }

    -- what it sends fits, and its rows go along its own lanes
    pub desk_fits : IsValid t → IsWired t → IsCustom custom → IsForTask t old.number tuple
        → AllByRecursion (FitsParcel t) parcels × IsStandOf t (origin.Component (component_of t old.number)) (stand_of (collector_in task))
    desk_fits valid wired keeps for_it =
        let w : IsExecution t custom e0 = subst (λ (u : Topology). IsExecution u custom e0) desk.topology ran.well in
        let fit = executed-fits t custom valid wired old.number (stand_of (collector_in old.task)) tuple ran.ids for_it desk.stand w.ids keeps in
        let targets : e0 ≡ record (execution_by t custom old.number (stand_of (collector_in old.task)) tuple ran.ids) { run = e0.run } =
        ap (λ (u : Topology). record { run = e0.run; targets = (execution_by u custom old.number (stand_of (collector_in old.task)) tuple ran.ids).targets }) desk.topology in
        let is : parcels ≡ execution_parcels t custom (execution_by t custom old.number (stand_of (collector_in old.task)) tuple ran.ids) =
        subst (λ (u : Topology). parcels ≡ execution_parcels u custom e0) desk.topology ran.sent
        ∙ ap (execution_parcels t custom) targets
        ∙ ap (λ (n : ℕ). execution_parcels t custom (record (execution_by t custom old.number (stand_of (collector_in old.task)) tuple ran.ids) { run = record e0.run { task = n } })) desk.number in
        let stand : stand_of (collector_in task) ≡ record { outlet = after_rows (rows_of t custom tuple) (outlet_of (collector_in old.task)); given = given_by (collector_in task) } =
        λ i. record { outlet = (ran.outlet ∙ ap (λ (u : Topology). after_rows (rows_of u custom tuple) (outlet_of (collector_in old.task))) desk.topology) i; given = given_by (collector_in task) } in (
          subst (AllByRecursion (FitsParcel t)) (sym is) fit.0,
          subst (IsStandOf t (origin.Component (component_of t old.number))) (sym stand)
              (record { topology = fit.1.topology; of_source = fit.1.of_source; lanes = fit.1.lanes; sound = fit.1.sound }),
        )

  -- a tuple of its inbox was executed
  pub desk_ran : (tuple : Tuple) (old mid new : TaskDesk I g) (was : List (Pass Mail)) → IsDesk t mid → old.inbox.items ≡ tuple ∷ mid.inbox.items → mid.task ≡ old.task → mid.number ≡ old.number → mid.outbox ≡ old.outbox
      → RunsTuple tells t custom tuple mid new → DeskDid tells t custom old new was was
  desk_ran tuple old mid new was desk front task_is number outbox runs =
      let ran = runs.executes in record {
        ids = ran.ids;
        drawn = subst (λ (b : BoltTask I g). Draws tells (source_at (record old { task = b })) ran.ids (source_at new)) task_is ran.drawn;
        number = runs.number ∙ number;
        worked = λ count given.
            let given_mid : given_at mid ≡ ended count = ap (λ (b : BoltTask I g). given_by (collector_in b)) task_is ∙ given in record {
              history = executing (at_place mid new.task tuple runs.parcels desk ran count);
              works = record {
                packets = λ f.
                    let s = ap (weigh_parcels f) (sent mid new.task tuple runs.parcels desk ran count given_mid) in
                    let o = ap (weigh_outbox f) outbox in
                    let a = runs.adds.packets f in
                    let b = ap (weigh_inbox f old.number) front in
                    let i = ap (λ b. weigh_inbox f old.number b.items) runs.inbox in
                    let n = ap (λ (n : ℕ). weigh_inbox f n new.inbox.items) (runs.number ∙ number) in
                    let m = ap (λ (n : ℕ). f (of_parcel (ToTask n tuple))) number in omega arith;
                notes = λ g. omega arith;
                draws = λ s j.
                    let m = spans-more mid.number count (length ran.ids) s j in
                    let a : spans mid.number 0 count s j ≡ spans old.number 0 count s j = ap (λ (n : ℕ). spans n 0 count s j) number in
                    let e : spans new.number 0 (count + length ran.ids) s j ≡ spans mid.number 0 (count + length ran.ids) s j = ap (λ (n : ℕ). spans n 0 (count + length ran.ids) s j) runs.number in omega arith;
                well = record { begun = tt; runs = (well mid new.task tuple runs.parcels desk ran count, tt); told = tt };
              };
              given = ran.given ∙ (let z : min (given_at mid + length ran.ids) (2 ^ 64 - 1) ≡ ended (count + length ran.ids) = omega arith in z);
              drawn = λ words are. record {
                of_begun = tt;
                of_runs = (subst (λ (n : ℕ). ran.ids ≡ map (words n) (range_with_len count (length ran.ids))) (sym number) are, tt);
              };
              inside = record { starts = refl; begun = refl; heard = refl };
              uses = λ f.
                  let b = ap (weigh_inbox f old.number) front in
                  let i = ap (λ b. weigh_inbox f old.number b.items) runs.inbox in
                  let n = ap (λ (n : ℕ). weigh_inbox f n new.inbox.items) (runs.number ∙ number) in
                  let m = ap (λ (n : ℕ). f (of_parcel (ToTask n tuple))) number in omega arith;
              none_met = refl;
              none_dropped = refl;
            };
      }

-- ---- what a task says

held_by : {I : Type 0} {g : Ghosts I} (d : TaskDesk I g) (row : List (Pass Mail)) → d.outbox ≢ [] → (d.outbox ≡ []) ⊎ IsFrontFull d.outbox row → IsTaskHeld d row
held_by d row some (inl none) = absurd (some none)
held_by d row some (inr full) = record { is = inl full }

front-same : (runs : List OutboxRun) (was is : List (Pass Mail)) → IsSameRow was is → IsFrontFull runs was → IsFrontFull runs is
front-same [] was is same full = absurd full
front-same (run ∷ runs) was is same full = full-same run.at was is same full

module _ {I : Type 0} {g : Ghosts I} where
  -- who is held up stays so
  pub task_stays_held : (d : TaskDesk I g) (was is : List (Pass Mail)) → IsSameRow was is → IsTaskHeld d was → IsTaskHeld d is
  task_stays_held d was is same held = record { is = by held.is }
    where
      by : IsFrontFull d.outbox was ⊎ ((d.outbox ≡ []) × (d.inbox.items ≡ []) × CouldBeEmpty d.number was) → IsFrontFull d.outbox is ⊎ ((d.outbox ≡ []) × (d.inbox.items ≡ []) × CouldBeEmpty d.number is)
      by (inl full) = inl (front-same d.outbox was is same full)
      by (inr (a, b, empty)) = inr (a, b, empty-same d.number was is same empty)

  -- a run was handed over, or came back
  pub says_handed : (did : Bool) (old new : TaskDesk I g) (was is : List (Pass Mail)) → old.outbox ≢ [] → new.inbox ≡ old.inbox → HandsOver did old.outbox new.outbox was is → TaskSays did old new was is
  says_handed did old new was is some inbox hands = record {
    done = subst (λ (n : ℕ). HasDone (bit did) (length old.inbox.items) was n is) (sym (ap (λ b. length b.items) inbox)) (hands_done (length old.inbox.items) did old.outbox new.outbox was is hands);
    held = λ no.
        let s = hands.stays no in (
          s.1,
          task_stays_held new was is s.1
              (subst (λ (rs : List OutboxRun). IsTaskHeld (record new { outbox = rs }) was) (sym s.0) (held_by (record new { outbox = old.outbox }) was some (hands.held no))),
        );
  }

  -- mail came
  pub says_received : (run : List Parcel) (old new : TaskDesk I g) (was is : List (Pass Mail)) → 1 ≤ length run → Receives run old new → HasTaken old.number (mails.Run run) was is → TaskSays true old new was is
  says_received run old new was is some receives taken = record {
    done = done-taken (length old.inbox.items) (length new.inbox.items) old.number run was is some
        (let w = receives.inbox each_one in
        let a : weigh_inbox each_one old.number new.inbox.items ≡ length new.inbox.items = weigh-ones new.inbox.items in
        let b : weigh_inbox each_one old.number old.inbox.items ≡ length old.inbox.items = weigh-ones old.inbox.items in
        let c : weigh_parcels each_one run ≡ length run = weigh-ones run in omega arith) taken;
    held = λ no. true-false no;
  }

  pub says_mail : (t : Topology) (mail : Mail) (run : List Parcel) (old new : TaskDesk I g) (was is : List (Pass Mail)) → mail ≡ mails.Run run → IsTrueMail t old.number mail → HasTaken old.number mail was is → Receives run old new → TaskSays true old new was is
  says_mail t mail run old new was is is_run fits took receives =
      let fit : IsTrueMail t old.number (mails.Run run) = subst (IsTrueMail t old.number) is_run fits in
      says_received run old new was is fit.some receives (subst (λ (m : Mail). HasTaken old.number m was is) is_run took)

  -- none was there
  pub says_empty : (d : TaskDesk I g) (was is : List (Pass Mail)) → d.inbox.items ≡ [] → d.outbox ≡ [] → IsSameRow was is → CouldBeEmpty d.number was → TaskSays false d d was is
  says_empty d was is no_tuple no_run same empty = record {
    done = done-same (length d.inbox.items) was is same;
    held = λ no. (same, record { is = inr (no_run, no_tuple, empty-same d.number was is same empty) });
  }

  -- a tuple was executed
  pub says_executed : (old new : TaskDesk I g) (was : List (Pass Mail)) → length old.inbox.items ≡ suc (length new.inbox.items) → TaskSays true old new was was
  says_executed old new was less = record { done = done-left (length old.inbox.items) (length new.inbox.items) was less; held = λ no. true-false no }

  pub says_ran : (tuple : Tuple) (rest : List Tuple) (did : Bool) (old new : TaskDesk I g) (was : List (Pass Mail)) → old.inbox.items ≡ tuple ∷ rest → new.inbox.items ≡ rest → did ≡ true → TaskSays did old new was was
  says_ran tuple rest did old new was front back done =
      subst (λ (b : Bool). TaskSays b old new was was) (sym done) (says_executed old new was (ap (λ (xs : List Tuple). length xs) front ∙ (let e : length (tuple ∷ rest) ≡ suc (length rest) = omega arith in e) ∙ ap (λ (xs : List Tuple). suc (length xs)) (sym back)))

  -- an empty inbox was looked into
  pub says_after : (did : Bool) (old mid new : TaskDesk I g) (was is : List (Pass Mail)) → mid.inbox.items ≡ old.inbox.items → TaskSays did mid new was is → TaskSays did old new was is
  says_after did old mid new was is inbox says = record { done = subst (λ xs. HasDone (bit did) (length xs) was (length new.inbox.items) is) inbox says.done; held = says.held }
