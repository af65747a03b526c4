use Rattle.std.proofs.Common.{◌≡◌, List, [], ap, subst, sym, ◌∙◌}
use Rattle.std.specs.List.{AllByRecursion}
use Rattle.event_worlds.specs.acker_core.declared.verdict.Verdict.{Verdict}
use Rattle.worker_stretches.specs.event_engine.Engines.{shape}
use Rattle.worker_stretches.specs.event_engine.Exchanges.{parcels_out, verdicts_out}
use Rattle.event_worlds.specs.Orderly.{FitsParcel}
use Rattle.event_worlds.specs.Worlds.{AckerSide, TaskSide, World}
use Rattle.event_worlds.specs.tree_model.declared.messages.Parcel.{Parcel}
use Rattle.worker_turns.specs.Carrying.{nothing_left, weigh_all, weigh_verdicts}
use Rattle.worker_turns.proofs.Sweeps.{engine-then, given-and-carried, gives-orders, gives-parcels, gives-verdicts, none-told, none-without, outs-fit, room-kept}
use Rattle.worker_turns.proofs.sweeping.sweep.Goals as goal

pub returns-in_err-gather_boxes-clause-room : goal.returns-in_err-gather_boxes-clause-room
returns-in_err-gather_boxes-clause-room g c = room-kept c.args.posts.now.plan.now c.args.posts.now.boxes.items c.args.row.now.items c.gather_boxes.new.row.items c.requires.row.passes c.gather_boxes.ensures.row.passes c.requires.room

pub returns-in_err-orders-clause-room : goal.returns-in_err-orders-clause-room
returns-in_err-orders-clause-room g c = room-kept c.args.posts.now.plan.now c.args.posts.now.boxes.items c.args.row.now.items c.gather_boxes.new.row.items c.requires.row.passes c.gather_boxes.ensures.row.passes c.requires.room

pub carry_parcels-requires-clause-room : goal.carry_parcels-requires-clause-room
carry_parcels-requires-clause-room g c = room-kept c.args.posts.now.plan.now c.args.posts.now.boxes.items c.args.row.now.items c.gather_boxes.new.row.items c.requires.row.passes c.gather_boxes.ensures.row.passes c.requires.room

pub carry_parcels-requires-2-clause-fits : goal.carry_parcels-requires-2-clause-fits
carry_parcels-requires-2-clause-fits g c =
    subst (AllByRecursion (FitsParcel c.args.posts.now.plan.now)) (sym {A = List Parcel} c.in_ok-parcels.ensures.gives.are)
    (outs-fit c.args.posts.now.plan.now 0 (shape c.carry_parcels.new.engine).tasks c.in_ok-carry_parcels.ensures.ready.orderly.tasks)

pub returns-clause-swept : goal.returns-clause-swept
returns-clause-swept g c =
    let one = c.in_ok-carry_parcels.ensures.swept in
    let two = c.in_ok-carry_parcels-2.ensures.swept in
    let last = c.in_ok-carry_verdicts.ensures.swept in
    let orders = c.in_ok-orders.ensures.gives.same in
    let parcels = c.in_ok-parcels.ensures.gives.same in
    let verdicts = c.in_ok-verdicts.ensures.gives.same in record {
      tasks =
          last.tasks
          (subst (λ (w : World). AllByRecursion (λ (side : TaskSide). side.outbox ≡ []) w.tasks) (sym verdicts)
          (two.tasks (subst (λ (w : World). AllByRecursion (λ (side : TaskSide). side.outbox ≡ []) w.tasks) (sym parcels) (none-without (shape c.carry_parcels.new.engine).tasks))));
      ackers = last.ackers (subst (λ (w : World). AllByRecursion (λ (side : AckerSide). side.outbox ≡ []) w.ackers) (sym verdicts) (none-told (shape c.carry_parcels-2.new.engine).ackers));
      orders =
          last.orders
          (ap (λ (w : World). w.orders) verdicts
          ∙ two.orders (ap (λ (w : World). w.orders) parcels ∙ one.orders (ap (λ (w : World). w.orders) orders)));
    }

pub returns-clause-carries : goal.returns-clause-carries
returns-clause-carries g c =
    let e0 = c.args.engine.now in
    let e1 = c.gather_boxes.new.engine in
    let e2 = c.take_orders.new.self in
    let e3 = c.carry_parcels.new.engine in
    let e4 = c.give_parcels.new.self in
    let e5 = c.carry_parcels-2.new.engine in
    let e6 = c.give_verdicts.new.self in
    let e7 = c.carry_verdicts.new.engine in
    let r0 = c.args.row.now.items in
    let r1 = c.gather_boxes.new.row.items in
    let r3 = c.carry_parcels.new.row.items in
    let r5 = c.carry_parcels-2.new.row.items in
    let r7 = c.carry_verdicts.new.row.items in
    engine-then e0 e1 e7 r0 r1 r7 nothing_left nothing_left nothing_left (c.in_ok-gather_boxes.ensures.carries nothing_left)
    (engine-then e1 e3 e7 r1 r3 r7 nothing_left nothing_left nothing_left
    (given-and-carried e1 e2 e3 r1 r3 (weigh_all (shape e1).orders) (weigh_all c.in_ok-orders.orders.items) c.take_orders.ensures.still c.in_ok-orders.ensures.gives.sources (gives-orders (shape e1) (shape e2) r1 c.in_ok-orders.ensures.gives.same)
    (λ f. ap (λ (ps : List Parcel). weigh_all ps f) c.in_ok-orders.ensures.gives.are) c.in_ok-carry_parcels.ensures.carries)
    (engine-then e3 e5 e7 r3 r5 r7 nothing_left nothing_left nothing_left
    (given-and-carried e3 e4 e5 r3 r5 (weigh_all (parcels_out (shape e3).tasks)) (weigh_all c.in_ok-parcels.parcels.items) c.give_parcels.ensures.still c.in_ok-parcels.ensures.gives.sources (gives-parcels (shape e3) (shape e4) r3 c.in_ok-parcels.ensures.gives.same)
    (λ f. ap (λ (ps : List Parcel). weigh_all ps f) c.in_ok-parcels.ensures.gives.are) c.in_ok-carry_parcels-2.ensures.carries)
    (given-and-carried e5 e6 e7 r5 r7 (weigh_verdicts (verdicts_out (shape e5).ackers)) (weigh_verdicts c.in_ok-verdicts.verdicts.items) c.give_verdicts.ensures.still c.in_ok-verdicts.ensures.gives.sources (gives-verdicts (shape e5) (shape e6) r5 c.in_ok-verdicts.ensures.gives.same)
    (λ f. ap (λ (vs : List Verdict). weigh_verdicts vs f) c.in_ok-verdicts.ensures.gives.are) c.in_ok-carry_verdicts.ensures.carries)))
