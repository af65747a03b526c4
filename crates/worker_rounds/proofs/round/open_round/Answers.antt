use Rattle.worker_stretches.proofs.event_engine.LoopLemmas.{ready_here, ready_there, still_then}
use Rattle.worker_stretches.specs.event_engine.Engines.{cut_in}
use Rattle.worker_rounds.proofs.Calling.{goes-opened, ready-after, ready-own}
use Rattle.worker_rounds.proofs.round.open_round.Goals as goal

pub shut_by-requires : goal.shut_by-requires
shut_by-requires g c = ready_here c.args.plan.now (cut_in c.args.engine.now) c.args.engine.now c.requires.ready

pub act_all-requires-clause-ready : goal.act_all-requires-clause-ready
act_all-requires-clause-ready g c = λ lives bounds.
    let t = c.args.plan.now in
    let cut = cut_in c.args.engine.now in
    let shut = c.shut_by.new.self in
    ready-own t cut shut (ready_there t cut c.args.engine.now c.requires.ready shut c.shut_by.ensures.ready)

pub all_ackers-requires : goal.all_ackers-requires
all_ackers-requires g c =
    let t = c.args.plan.now in
    let cut = cut_in c.args.engine.now in
    let shut = c.shut_by.new.self in
    let acted = c.act_all.new.engine in
    ready_here t cut acted (ready-after t cut shut acted (ready_there t cut c.args.engine.now c.requires.ready shut c.shut_by.ensures.ready) c.in_ok-act_all.ensures.ready)

pub returns-clause-ready : goal.returns-clause-ready
returns-clause-ready g c =
    let t = c.args.plan.now in
    let cut = cut_in c.args.engine.now in
    let shut = c.shut_by.new.self in
    let acted = c.act_all.new.engine in
    ready_there t cut acted (ready-after t cut shut acted (ready_there t cut c.args.engine.now c.requires.ready shut c.shut_by.ensures.ready) c.in_ok-act_all.ensures.ready) c.all_ackers.new.self c.in_ok-all_ackers.ensures.ready

pub returns-clause-goes : goal.returns-clause-goes
returns-clause-goes g c =
    let t = c.args.plan.now in
    let cut = cut_in c.args.engine.now in
    let custom = g.O.RowOp.meaning c.args.custom.now in
    let shut = c.shut_by.new.self in
    let acted = c.act_all.new.engine in
    let ready_shut = ready_there t cut c.args.engine.now c.requires.ready shut c.shut_by.ensures.ready in
    goes-opened t cut g.I.Ids.tells custom c.args.shut c.args.engine.now shut acted c.all_ackers.new.self c.requires.ready ready_shut (ready-after t cut shut acted ready_shut c.in_ok-act_all.ensures.ready)
    (c.shut_by.ensures.goes custom) c.in_ok-act_all.ensures.goes (c.in_ok-all_ackers.ensures.goes custom)

pub returns-clause-still : goal.returns-clause-still
returns-clause-still g c =
    let shut = c.shut_by.new.self in
    still_then c.args.engine.now c.act_all.new.engine c.all_ackers.new.self (still_then c.args.engine.now shut c.act_all.new.engine c.shut_by.ensures.still c.act_all.ensures.still) c.all_ackers.ensures.still
