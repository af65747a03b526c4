use Rattle.std.proofs.Common.{refl, ap, ◌∙◌}
use Rattle.std.specs.Prelude.{Err}
use Rattle.event_worlds.specs.commit_order.Orders.{desk_of}
use Rattle.event_worlds.specs.commit_turns.Turns.{decided}
use Rattle.event_engine.specs.Engines.{cut_in, topology_in}
use Rattle.event_engine.proofs.FatesLemmas.{on_err, short_once}
use Rattle.event_engine.proofs.TurnEvents.{Decides, decided_few_of, decided_goes, decided_idle, decided_ready, decided_told, has_stop_none, none_exhausted, stop_of_txid}
use Rattle.event_engine.proofs.engine.Engine.decide.Goals as goal

pub returns-in-Ok : goal.returns-in-Ok
returns-in-Ok g c =
    let old = c.args.self.now in
    let new = record old { coordinator = c.committed.new.self; fates = c.committed.new.fates } in
    let t = topology_in old in
    let cut = cut_in old in
    let ready = c.requires.ready in
    let w = c.requires.out.0 in
    let ordered = c.requires.out.1 in
    let goes = has_stop_none t cut old ready ordered.goes_on in
    let kept = c.desks_are_kept.ensures.outcome t cut (desk_of old.coordinator) old.fates ready.input.valid ready.input.start (none_exhausted t cut old ordered.goes_on) ready.kept c.args.how in
    let to = c.in-Ok.ensures.ends goes in
    let decides : Decides t cut old new c.args.how w ready ordered =
    record { office = to.office; collector = to.collector; fates = to.fates; own = c.committed.ensures.own to.has_memory; has_memory = to.has_memory; plan = refl; others = refl; tasks = refl; ackers = refl } in
    record {
      ready = decided_ready t cut old new c.args.how w ready ordered decides kept;
      goes = decided_goes t cut old new c.args.how w ready ordered decides g.I.Ids.tells;
      idle = decided_idle t cut old new c.args.how w ready ordered decides;
      told = decided_told t cut old new c.args.how w ready ordered decides;
      once = tt;
      short = tt;
    }

pub returns-in_ok-fail_without_memory-in-Err : goal.returns-in_ok-fail_without_memory-in-Err
returns-in_ok-fail_without_memory-in-Err g c =
    let old = c.args.self.now in
    let new = record old { coordinator = c.committed.new.self; fates = c.committed.new.fates } in
    let t = topology_in old in
    let cut = cut_in old in
    let ready = c.requires.ready in
    let w = c.requires.out.0 in
    let ordered = c.requires.out.1 in
    let goes = has_stop_none t cut old ready ordered.goes_on in
    let kept = c.desks_are_kept.ensures.outcome t cut (desk_of old.coordinator) old.fates ready.input.valid ready.input.start (none_exhausted t cut old ordered.goes_on) ready.kept c.args.how in
    let stop = stop_of_txid c.committed.result c.in-Err.stop c.in-Err.is c.in_ok-fail_without_memory-in-Err.ensures.ok c.committed.ensures.no_cell c.committed.ensures.no_follower in
    let to = c.committed.ensures.stops goes stop.0 stop.1 in
    let decides : Decides t cut old new c.args.how w ready ordered =
    record { office = to.office; collector = to.collector; fates = to.fates; own = c.committed.ensures.own to.has_memory; has_memory = to.has_memory; plan = refl; others = refl; tasks = refl; ackers = refl } in
    record {
      ready = decided_ready t cut old new c.args.how w ready ordered decides kept;
      goes = decided_goes t cut old new c.args.how w ready ordered decides g.I.Ids.tells;
      idle = decided_idle t cut old new c.args.how w ready ordered decides;
      told = decided_told t cut old new c.args.how w ready ordered decides;
      once = tt;
      short = tt;
    }

pub returns-in_err-fail_without_memory-in-Err-clause-once : goal.returns-in_err-fail_without_memory-in-Err-clause-once
returns-in_err-fail_without_memory-in-Err-clause-once g c =
    let old = c.args.self.now in
    let t = topology_in old in
    let cut = cut_in old in
    let d = desk_of old.coordinator in
    let ready = c.requires.ready in
    let ordered = c.requires.out.1 in
    let goes = has_stop_none t cut old ready ordered.goes_on in
    let kept = c.desks_are_kept.ensures.outcome t cut d old.fates ready.input.valid ready.input.start (none_exhausted t cut old ordered.goes_on) ready.kept c.args.how in
    let short = c.committed.ensures.short goes (c.in-Err.is ∙ ap Err c.in_err-fail_without_memory-in-Err.ensures.err) in
    on_err c.from_residual.result
    (short_once t cut (decided t cut c.args.how d).desk (decided t cut c.args.how d).ended old.fates c.committed.new.fates kept (decided_few_of t cut old c.args.how ready) short.some)

pub returns-in_err-fail_without_memory-in-Err-clause-short : goal.returns-in_err-fail_without_memory-in-Err-clause-short
returns-in_err-fail_without_memory-in-Err-clause-short g c =
    let old = c.args.self.now in
    let goes = has_stop_none (topology_in old) (cut_in old) old c.requires.ready c.requires.out.1.goes_on in
    let short = c.committed.ensures.short goes (c.in-Err.is ∙ ap Err c.in_err-fail_without_memory-in-Err.ensures.err) in
    on_err c.from_residual.result short.some
