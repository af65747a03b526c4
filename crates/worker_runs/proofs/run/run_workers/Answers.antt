use Rattle.std.proofs.Common.{Ok, refl, sym}
use Rattle.worker_stretches.specs.event_engine.Engines.{cut_in, shape, topology_in}
use Rattle.worker_rounds.proofs.schedule_core.Following.{run_followed, started_none, started_taken}
use Rattle.worker_rounds.specs.schedule_core.Runs.{ended}
use Rattle.worker_runs.proofs.Beginning.{ended-here, gathered-first}
use Rattle.worker_runs.proofs.Ending.{comes-not-begun, ends, stopped-end, whole-end}
use Rattle.worker_runs.proofs.Starting.{no-tick}
use Rattle.worker_runs.proofs.run.run_workers.Goals as goal

pub run_on-done-requires-clause-gathered : goal.run_on-done-requires-clause-gathered
run_on-done-requires-clause-gathered g c = λ lives bounds.
    gathered-first (g.N.IdMaker.tells c.args.ids.now) g.N.I.Ids.tells c.args.plan.now c.args.offers c.args.boxes.now c.args.board.now c.in-Ok.engine c.args.seat.now
    c.in-Ok.ensures.ready c.in-Ok.ensures.idle c.in-Ok.ensures.started c.requires.boxes c.requires.seat

pub run_on-done-requires-clause-no_tick : goal.run_on-done-requires-clause-no_tick
run_on-done-requires-clause-no_tick g c = λ lives bounds. no-tick (g.N.IdMaker.tells c.args.ids.now) g.N.I.Ids.tells c.args.plan.now c.args.offers c.in-Ok.engine c.in-Ok.ensures.started

pub run_on-done-requires-clause-takes : goal.run_on-done-requires-clause-takes
run_on-done-requires-clause-takes g c = λ lives bounds.
    started_taken (g.N.IdMaker.tells c.args.ids.now) g.N.I.Ids.tells c.args.plan.now c.args.offers c.in-Ok.engine c.in-Ok.ensures.started (g.W.Follow.takes c.args.follow.now) c.in-Ok.ensures.ready.seated.of_cut c.requires.takes

pub returns-in-Err : goal.returns-in-Err
returns-in-Err g c =
    let t = c.args.plan.now in
    let custom = g.O.RowOp.meaning c.args.custom.now in
    let cut = c.args.offers in
    record {
      comes = comes-not-begun (g.N.IdMaker.tells c.args.ids.now) (g.T.Ticks.tells c.args.ticks.now) (g.V.Avail.tells c.args.avail.now) g.C.CellStore.tells g.C.CellStore.fault_count t custom cut (c.laws_of_runs.ensures t custom cut) (g.T.Ticks.handed_out c.args.ticks.now) c.args.fates.now c.args.parts.now c.requires.input c.requires.empty;
      finishes = λ to_come tells shut_none can apart no_failure low. tt;
      row = λ had. absurd had;
      books = λ had. absurd had;
      seat = λ had. absurd had;
      ticked = λ had. absurd had;
      followed = refl;
      less = λ txid is. cc;
    }

pub returns-in_err-end_run : goal.returns-in_err-end_run
returns-in_err-end_run g c =
    let t = c.args.plan.now in
    let custom = g.O.RowOp.meaning c.args.custom.now in
    let cut = c.args.offers in
    let run = c.run_on-done in
    let boxes = c.args.boxes.now in
    let e0 = c.in-Ok.engine in
    let so = ended-here g.N.I.Ids.tells g.C.CellStore.tells g.C.CellStore.fault_count g.T.Ticks.handed_out g.T.Ticks.tells g.V.Avail.tells custom c.args.avail.now run.new.avail boxes.posts.boxes.items c.args.board.now c.args.ticks.now run.new.ticks e0 boxes.row.items c.args.parts.now run.result run.new.engine run.new.row.items run.new.seat run.new.parts
    boxes.posts.plan.now t (cut_in e0) cut c.requires.boxes.plan c.in-Ok.ensures.ready.seated.of_cut (record { ran = run.ensures.ran; gathered = run.ensures.gathered; over = run.ensures.over; back = run.ensures.back; once = run.ensures.once; kept = run.ensures.kept }) in
    let same = stopped-end c.end_run.result _ c.from_residual.result _ c.from_residual.ensures.1 c.end_run.ensures.answer c.in_err-end_run.was in
    let all = ends (g.N.IdMaker.tells c.args.ids.now) g.N.I.Ids.tells g.C.CellStore.tells g.C.CellStore.fault_count g.T.Ticks.handed_out g.T.Ticks.tells g.V.Avail.tells t custom cut (c.laws_of_workers.ensures t custom cut) (c.laws_of_runs.ensures t custom cut) (c.laws_of_steps.ensures t custom cut) c.requires.input (g.O.RowOp.keeps c.args.custom.now) c.args.avail.now run.new.avail
    boxes.posts.boxes.items c.args.board.now e0 c.in-Ok.ensures.started boxes.row.items c.requires.boxes.first c.args.parts.now c.requires.parts c.args.ticks.now run.new.ticks run.new.engine run.new.row.items run.new.seat run.new.parts
    run.result so c.from_residual.result same c.end_run.new.fates c.end_run.ensures.fates in
    record {
      comes = all.comes;
      finishes = all.finishes;
      row = all.row_is;
      books = all.books;
      seat = all.seat_is;
      ticked = all.ticked;
      followed =
          run_followed g.W.Follow.tells g.W.Follow.fault_count (topology_in run.new.engine) (cut_in run.new.engine) (shape run.new.engine) run.result (ended c.from_residual.result) e0.fates run.new.engine.fates c.end_run.new.fates c.args.follow.now run.new.follow
          (started_none (g.N.IdMaker.tells c.args.ids.now) g.N.I.Ids.tells t cut e0 c.in-Ok.ensures.started) c.end_run.ensures.fates (sym same) run.ensures.followed;
      less = all.less;
    }

pub returns : goal.returns
returns g c =
    let t = c.args.plan.now in
    let custom = g.O.RowOp.meaning c.args.custom.now in
    let cut = c.args.offers in
    let run = c.run_on-done in
    let boxes = c.args.boxes.now in
    let e0 = c.in-Ok.engine in
    let so = ended-here g.N.I.Ids.tells g.C.CellStore.tells g.C.CellStore.fault_count g.T.Ticks.handed_out g.T.Ticks.tells g.V.Avail.tells custom c.args.avail.now run.new.avail boxes.posts.boxes.items c.args.board.now c.args.ticks.now run.new.ticks e0 boxes.row.items c.args.parts.now run.result run.new.engine run.new.row.items run.new.seat run.new.parts
    boxes.posts.plan.now t (cut_in e0) cut c.requires.boxes.plan c.in-Ok.ensures.ready.seated.of_cut (record { ran = run.ensures.ran; gathered = run.ensures.gathered; over = run.ensures.over; back = run.ensures.back; once = run.ensures.once; kept = run.ensures.kept }) in
    let same = whole-end run.result run.new.engine c.end_run.result _ run.ensures.over c.end_run.ensures.answer c.in_ok-end_run.was in
    let all = ends (g.N.IdMaker.tells c.args.ids.now) g.N.I.Ids.tells g.C.CellStore.tells g.C.CellStore.fault_count g.T.Ticks.handed_out g.T.Ticks.tells g.V.Avail.tells t custom cut (c.laws_of_workers.ensures t custom cut) (c.laws_of_runs.ensures t custom cut) (c.laws_of_steps.ensures t custom cut) c.requires.input (g.O.RowOp.keeps c.args.custom.now) c.args.avail.now run.new.avail
    boxes.posts.boxes.items c.args.board.now e0 c.in-Ok.ensures.started boxes.row.items c.requires.boxes.first c.args.parts.now c.requires.parts c.args.ticks.now run.new.ticks run.new.engine run.new.row.items run.new.seat run.new.parts
    run.result so (Ok tt) same c.end_run.new.fates c.end_run.ensures.fates in
    record {
      comes = all.comes;
      finishes = all.finishes;
      row = all.row_is;
      books = all.books;
      seat = all.seat_is;
      ticked = all.ticked;
      followed =
          run_followed g.W.Follow.tells g.W.Follow.fault_count (topology_in run.new.engine) (cut_in run.new.engine) (shape run.new.engine) run.result (ended (Ok tt)) e0.fates run.new.engine.fates c.end_run.new.fates c.args.follow.now run.new.follow
          (started_none (g.N.IdMaker.tells c.args.ids.now) g.N.I.Ids.tells t cut e0 c.in-Ok.ensures.started) c.end_run.ensures.fates (sym same) run.ensures.followed;
      less = all.less;
    }
