use Rattle.worker_stretches.specs.event_engine.Engines.{cut_in}
use Rattle.std.proofs.Common.{[]}
use Rattle.worker_runs.proofs.Going.{goes-on-then}
use Rattle.worker_runs.proofs.Keeping.{gathered-again, ready-back, ready-own, same-tick, still-then}
use Rattle.worker_runs.proofs.Rows.{keeps-room}
use Rattle.worker_rounds.proofs.worker_turns.Stands.{goes-carried}
use Rattle.worker_runs.proofs.run.work.Goals as goal

pub sweep-requires-clause-ready : goal.sweep-requires-clause-ready
sweep-requires-clause-ready g c =
    ready-own c.args.posts.now.plan.now (cut_in c.args.engine.now) c.stretch_once.new.engine c.in_ok-stretch_once.ensures.ready

pub sweep-requires-clause-room : goal.sweep-requires-clause-room
sweep-requires-clause-room g c =
    keeps-room c.args.posts.now.plan.now c.args.posts.now.boxes.items c.args.row.now.items c.stretch_once.new.row.items c.requires.gathered.fit.passes c.stretch_once.ensures.row.passes c.requires.gathered.room

pub returns-clause-gathered : goal.returns-clause-gathered
returns-clause-gathered g c =
    let t = c.args.posts.now.plan.now in
    let cut = cut_in c.args.engine.now in
    gathered-again t c.args.posts.now.boxes.items c.args.board.now cut c.args.engine.now c.stretch_once.new.engine c.sweep.new.engine c.args.row.now.items c.stretch_once.new.row.items c.sweep.new.row.items c.args.seat.now c.stretch_once.new.seat c.requires.gathered
    c.in_ok-stretch_once.ensures.in_time c.in_ok-sweep.ensures.carries c.stretch_once.ensures.still
    (ready-back t cut c.stretch_once.new.engine c.sweep.new.engine c.in_ok-stretch_once.ensures.ready c.in_ok-sweep.ensures.ready) c.in_ok-sweep.ensures.swept c.sweep.ensures.row c.in_ok-sweep.ensures.empty c.in_ok-sweep.ensures.room c.stretch_once.ensures.seat

pub returns-clause-still : goal.returns-clause-still
returns-clause-still g c = still-then c.args.posts.now.plan.now c.args.engine.now c.stretch_once.new.engine c.sweep.new.engine c.stretch_once.ensures.still c.sweep.ensures.still

pub returns-clause-ticks : goal.returns-clause-ticks
returns-clause-ticks g c =
    same-tick c.args.posts.now.plan.now c.args.posts.now.boxes.items c.args.board.now (cut_in c.args.engine.now) c.args.engine.now c.stretch_once.new.engine c.sweep.new.engine c.args.row.now.items c.stretch_once.new.row.items c.sweep.new.row.items c.args.seat.now c.stretch_once.new.seat c.requires.gathered
    c.in_ok-stretch_once.ensures.in_time c.in_ok-sweep.ensures.carries c.stretch_once.ensures.drawn

pub returns-clause-goes : goal.returns-clause-goes
returns-clause-goes g c =
    let t = c.args.posts.now.plan.now in
    let custom = g.O.RowOp.meaning c.args.custom.now in
    let cut = cut_in c.args.engine.now in
    let mid = c.stretch_once.new.engine in
    let new = c.sweep.new.engine in
    let ready = ready-back t cut mid new c.in_ok-stretch_once.ensures.ready c.in_ok-sweep.ensures.ready in
    goes-on-then g.I.Ids.tells t custom cut 0 0 c.args.engine.now mid new c.args.row.now.items c.stretch_once.new.row.items c.sweep.new.row.items (c.in_ok-stretch_once.ensures.goes_on [])
    (goes-carried g.I.Ids.tells t custom cut mid new c.stretch_once.new.row.items c.sweep.new.row.items ready.orderly c.in_ok-sweep.ensures.carries)

pub returns-in_err-sweep-clause-still : goal.returns-in_err-sweep-clause-still
returns-in_err-sweep-clause-still g c = still-then c.args.posts.now.plan.now c.args.engine.now c.stretch_once.new.engine c.sweep.new.engine c.stretch_once.ensures.still c.sweep.ensures.still
