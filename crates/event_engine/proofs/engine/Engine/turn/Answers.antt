use Rattle.std.proofs.Common.{[], ◌∷◌, None, refl, sym, ap, ◌∙◌, append-nil}
use Rattle.event_worlds.specs.commit_order.Orders.{desk_of}
use Rattle.event_worlds.specs.commit_turns.Turns.{turned}
use Rattle.event_engine.specs.Engines.{cut_in, shape, topology_in}
use Rattle.event_engine.proofs.EngineLemmas.{seated_by}
use Rattle.event_engine.proofs.FatesLemmas.{on_err}
use Rattle.event_engine.proofs.GoesLemmas.{goes-over, goes-turn}
use Rattle.event_engine.proofs.TurnEvents.{happens_alike, hands_order, idle_still, once_still, ready_alike, ready_handed, tasks_are}
use Rattle.event_worlds.specs.Worlds.{of_turn, turn_needs, turn_step}
use Rattle.event_worlds.specs.topology_plan.Topology.{tasks_in_all}
use Rattle.event_engine.proofs.engine.Engine.turn.Goals as goal

pub returns-then-is_over-clause-goes : goal.returns-then-is_over-clause-goes
returns-then-is_over-clause-goes g c = λ custom.
    let old = c.args.self.now in
    goes-over g.I.Ids.tells (topology_in old) custom (cut_in old) (of_turn ∷ []) old (sym c.is_over.ensures ∙ c.if-is_over.true)

pub returns-in_ok-deliver-in-Some : goal.returns-in_ok-deliver-in-Some
returns-in_ok-deliver-in-Some g c =
    let old = c.args.self.now in
    let mid = record old { orders = c.pop_front.new.self } in
    let new = c.deliver.new.self in
    let t = topology_in old in
    let cut = cut_in old in
    let ready = c.requires.ready in
    let given = c.in_ok-deliver-in-Some.ensures in
    let still = c.deliver.ensures.still in
    let happens =
    hands_order g.I.Ids.tells t cut old new c.in-Some.parcel mid (tasks_are t cut old old ready) c.in-Some.ensures.items refl refl given.done given.sources still.fates in
    record {
      ready = ready_handed t cut old new ready g.I.Ids.tells happens (record { coordinator = still.coordinator; fates = still.fates }) (given.seated t cut (seated_by t cut old mid ready.seated refl refl ready.seated.tasks ready.seated.ackers));
      goes = λ custom. goes-turn g.I.Ids.tells t custom cut old new (sym c.is_over.ensures ∙ c.if-is_over.false) happens;
      answers = idle_still t cut old new c.requires.idle (record { coordinator = still.coordinator; fates = still.fates });
      once = tt;
      short = tt;
    }

pub take_turn-requires-clause-ready : goal.take_turn-requires-clause-ready
take_turn-requires-clause-ready g c =
    let old = c.args.self.now in
    ready_alike (topology_in old) (cut_in old) old (record old { orders = c.pop_front.new.self }) c.requires.ready
    (record { shape_is = ap (λ out. record (shape old) { orders = out }) (sym c.in-None.ensures.items); coordinator = refl; plan = refl; tasks = refl; ackers = refl })

pub returns-in_ok-commit-in-None-clause-goes : goal.returns-in_ok-commit-in-None-clause-goes
returns-in_ok-commit-in-None-clause-goes g c = λ custom.
    let old = c.args.self.now in
    let t = topology_in old in
    let cut = cut_in old in
    goes-turn g.I.Ids.tells t custom cut old c.take_turn.new.self (sym c.is_over.ensures ∙ c.if-is_over.false)
    (happens_alike t cut old (record old { orders = c.pop_front.new.self }) g.I.Ids.tells (tasks_in_all t) (turn_needs t cut) (λ ids w. turn_step t cut ids w) c.take_turn.new.self
    (record { shape_is = ap (λ out. record (shape old) { orders = out }) (sym c.in-None.ensures.items); coordinator = refl; plan = refl; tasks = refl; ackers = refl })
    c.in_ok-commit-in-None.ensures.taken.happens)

pub returns-in_err-deliver-in-Some-clause-short : goal.returns-in_err-deliver-in-Some-clause-short
returns-in_err-deliver-in-Some-clause-short g c =
    let old = c.args.self.now in
    on_err c.from_residual.result
    (record {
      verdict = None;
      ticks = 0;
      some = record {
        done = [];
        rest = (turned (topology_in old) (cut_in old) None 0 old.shut (desk_of old.coordinator)).ended;
        are_first = refl;
        added = c.deliver.ensures.still.fates ∙ sym (append-nil old.fates);
      };
    })

pub returns-in_err-commit-in-None-clause-short : goal.returns-in_err-commit-in-None-clause-short
returns-in_err-commit-in-None-clause-short g c =
    let short = c.in_err-commit-in-None.ensures.short in
    on_err c.from_residual-in_err-commit-in-None.result (record { verdict = short.verdict; ticks = short.ticks; some = short.some })

pub returns-in_err-deliver-in-Some-clause-once : goal.returns-in_err-deliver-in-Some-clause-once
returns-in_err-deliver-in-Some-clause-once g c =
    let old = c.args.self.now in
    let still = c.deliver.ensures.still in
    on_err c.from_residual.result
    (once_still (topology_in old) (cut_in old) old c.deliver.new.self c.requires.ready (record { coordinator = still.coordinator; fates = still.fates }))
