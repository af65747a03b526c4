use Rattle.std.proofs.Common.{refl, ap, ◌∙◌}
use Rattle.event_worlds.specs.commit_order.Orders.{desk_of}
use Rattle.event_engine.specs.Engines.{cut_in, topology_in}
use Rattle.event_engine.proofs.FatesLemmas.{on_err}
use Rattle.event_engine.proofs.TurnEvents.{front_heard, has_stop_none, none_exhausted, stop_of_txid, turn_short, turn_stopped, turn_taken}
use Rattle.std.specs.Prelude.{Err}
use Rattle.event_engine.proofs.engine.Engine.take_turn.Goals as goal

pub returns-in-Ok : goal.returns-in-Ok
returns-in-Ok g c =
    let old = c.args.self.now in
    let t = topology_in old in
    let cut = cut_in old in
    let d = desk_of old.coordinator in
    let ready = c.requires.ready in
    let found = c.pop_front-verdict.result in
    let goes = has_stop_none t cut old ready c.requires.goes_on in
    let kept = c.desks_are_kept.ensures.turn t cut d old.fates ready.input.valid ready.input.start (none_exhausted t cut old c.requires.goes_on) ready.kept found old.unheard old.shut in
    let to = c.in-Ok.ensures.turned goes in
    record {
      taken =
          turn_taken g.I.Ids.tells old _ found ready c.requires.goes_on c.requires.empty kept c.in-Ok.orders
          (record {
            heard = front_heard found old.verdicts.items c.pop_front-verdict.new.self.items c.pop_front-verdict.ensures.items c.pop_front-verdict.ensures.rest;
            verdicts = c.pop_front-verdict.ensures.rest;
            orders = c.from_vec.ensures.items ∙ c.into_vec.ensures;
            unheard = refl;
            shut = refl;
            tick = refl;
            plan = refl;
            tasks = refl;
            ackers = refl;
          })
          to (c.in-Ok.ensures.fates goes) c.in-Ok.ensures.own (c.orders_are_decided.ensures.ordered t cut d found old.unheard old.shut to.goes_on) (c.orders_are_decided.ensures.out t cut d found old.unheard old.shut c.requires.idle);
      once = tt;
      short = tt;
    }

pub returns-in_ok-fail_without_memory-in-Err : goal.returns-in_ok-fail_without_memory-in-Err
returns-in_ok-fail_without_memory-in-Err g c =
    let old = c.args.self.now in
    let t = topology_in old in
    let cut = cut_in old in
    let d = desk_of old.coordinator in
    let ready = c.requires.ready in
    let found = c.pop_front-verdict.result in
    let goes = has_stop_none t cut old ready c.requires.goes_on in
    let kept = c.desks_are_kept.ensures.turn t cut d old.fates ready.input.valid ready.input.start (none_exhausted t cut old c.requires.goes_on) ready.kept found old.unheard old.shut in
    let stop = stop_of_txid c.turn.result c.in-Err.stop c.in-Err.is c.in_ok-fail_without_memory-in-Err.ensures.ok c.turn.ensures.no_cell c.turn.ensures.no_follower in
    record {
      taken =
          turn_stopped g.I.Ids.tells old _ found ready c.requires.goes_on c.requires.empty kept stop.0
          (record {
            heard = front_heard found old.verdicts.items c.pop_front-verdict.new.self.items c.pop_front-verdict.ensures.items c.pop_front-verdict.ensures.rest;
            verdicts = c.pop_front-verdict.ensures.rest;
            orders = c.requires.empty;
            unheard = refl;
            shut = refl;
            tick = refl;
            plan = refl;
            tasks = refl;
            ackers = refl;
          })
          (c.turn.ensures.stops goes stop.0 stop.1) c.turn.ensures.own;
      once = tt;
      short = tt;
    }

pub returns-in_err-fail_without_memory-in-Err-clause-once : goal.returns-in_err-fail_without_memory-in-Err-clause-once
returns-in_err-fail_without_memory-in-Err-clause-once g c =
    let old = c.args.self.now in
    let t = topology_in old in
    let cut = cut_in old in
    let d = desk_of old.coordinator in
    let ready = c.requires.ready in
    let found = c.pop_front-verdict.result in
    let goes = has_stop_none t cut old ready c.requires.goes_on in
    let kept = c.desks_are_kept.ensures.turn t cut d old.fates ready.input.valid ready.input.start (none_exhausted t cut old c.requires.goes_on) ready.kept found old.unheard old.shut in
    on_err c.from_residual.result
    (turn_short g.I.Ids.tells old (record old { coordinator = c.turn.new.self }) found ready c.requires.goes_on c.requires.empty kept c.turn.new.fates (c.turn.ensures.short goes (c.in-Err.is ∙ ap Err c.in_err-fail_without_memory-in-Err.ensures.err)))

pub returns-in_err-fail_without_memory-in-Err-clause-short : goal.returns-in_err-fail_without_memory-in-Err-clause-short
returns-in_err-fail_without_memory-in-Err-clause-short g c =
    let old = c.args.self.now in
    let goes = has_stop_none (topology_in old) (cut_in old) old c.requires.ready c.requires.goes_on in
    let short = c.turn.ensures.short goes (c.in-Err.is ∙ ap Err c.in_err-fail_without_memory-in-Err.ensures.err) in
    on_err c.from_residual.result (record { verdict = c.pop_front-verdict.result; ticks = old.unheard; some = short.some })
