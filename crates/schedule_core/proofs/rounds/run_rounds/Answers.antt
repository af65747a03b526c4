use Rattle.std.proofs.Common.{Ok, Result, refl, subst}
use Rattle.event_engine.specs.Engines.{cut_in, shape, topology_in}
use Rattle.event_worlds.specs.commit_order.declared.stop.Stop.{Stop}
use Rattle.schedule_core.specs.declared.ended.Ended.{Ended}
use Rattle.schedule_core.specs.Following.{RunFollowed}
use Rattle.schedule_core.proofs.Following.{run_followed, started_none, started_taken}
use Rattle.schedule_core.proofs.Ending.{at_rest}
use Rattle.schedule_core.proofs.RunByRounds.{rounds-end, rounds-less, rounds-not-begun, stopped_end, whole_end}
use Rattle.schedule_core.proofs.rounds.run_rounds.Goals as goal

pub rounds_until_over-done-requires-clause-at_rest : goal.rounds_until_over-done-requires-clause-at_rest
rounds_until_over-done-requires-clause-at_rest g c = λ lives bounds. at_rest c.args.plan.now c.args.offers c.in-Ok.engine c.in-Ok.ensures.ready c.in-Ok.ensures.idle

pub rounds_until_over-done-requires-clause-takes : goal.rounds_until_over-done-requires-clause-takes
rounds_until_over-done-requires-clause-takes g c = λ lives bounds.
    started_taken (g.N.IdMaker.tells c.args.ids.now) g.N.I.Ids.tells c.args.plan.now c.args.offers c.in-Ok.engine c.in-Ok.ensures.started (g.W.Follow.takes c.args.follow.now) c.in-Ok.ensures.ready.seated.of_cut c.requires.takes

pub returns-in-Err : goal.returns-in-Err
returns-in-Err g c =
    record { comes = rounds-not-begun g.T.Ticks.handed_out g.T.Ticks.tells (g.V.Avail.tells c.args.avail.now) (g.N.IdMaker.tells c.args.ids.now) g.C.CellStore.tells g.C.CellStore.fault_count c.args.plan.now (g.O.RowOp.meaning c.args.custom.now) c.args.offers (c.laws_of_runs.ensures c.args.plan.now (g.O.RowOp.meaning c.args.custom.now) c.args.offers) c.args.ticks.now c.args.fates.now c.args.parts.now c.requires.input c.requires.empty; followed = refl; less = λ txid is. cc }

pub returns-in_err-end_run : goal.returns-in_err-end_run
returns-in_err-end_run g c =
    let t = c.args.plan.now in
    let custom = g.O.RowOp.meaning c.args.custom.now in
    let cut = c.args.offers in
    let run = c.rounds_until_over-done in
    record {
      comes = rounds-end (g.N.IdMaker.tells c.args.ids.now) g.N.I.Ids.tells g.C.CellStore.tells g.C.CellStore.fault_count g.T.Ticks.handed_out g.T.Ticks.tells g.V.Avail.tells t custom cut (c.laws_of_runs.ensures t custom cut) c.requires.input (g.O.RowOp.keeps c.args.custom.now)
          run.result c.in-Ok.engine run.new.engine c.args.parts.now run.new.parts c.args.ticks.now run.new.ticks c.args.avail.now c.from_residual.result c.end_run.result c.end_run.new.fates
          c.in-Ok.ensures.ready c.in-Ok.ensures.started c.requires.parts run.ensures.same_run run.ensures.comes run.ensures.once run.ensures.kept c.end_run.ensures.answer c.end_run.ensures.fates
          (stopped_end c.end_run.result c.from_residual.result _ c.from_residual.ensures.1 c.in_err-end_run.was);
      followed =
          subst (λ (r : Result Ended Stop). RunFollowed g.W.Follow.tells g.W.Follow.fault_count r c.end_run.new.fates c.args.follow.now run.new.follow) (stopped_end c.end_run.result c.from_residual.result _ c.from_residual.ensures.1 c.in_err-end_run.was)
          (run_followed g.W.Follow.tells g.W.Follow.fault_count (topology_in run.new.engine) (cut_in run.new.engine) (shape run.new.engine) run.result c.end_run.result c.in-Ok.engine.fates run.new.engine.fates c.end_run.new.fates c.args.follow.now run.new.follow
          (started_none (g.N.IdMaker.tells c.args.ids.now) g.N.I.Ids.tells t cut c.in-Ok.engine c.in-Ok.ensures.started) c.end_run.ensures.fates c.end_run.ensures.answer run.ensures.followed);
      less = λ txid is.
          rounds-less (g.N.IdMaker.tells c.args.ids.now) g.N.I.Ids.tells g.C.CellStore.tells g.C.CellStore.fault_count g.T.Ticks.handed_out g.T.Ticks.tells g.V.Avail.tells t custom cut (c.laws_of_runs.ensures t custom cut) c.requires.input (g.O.RowOp.keeps c.args.custom.now)
          txid run.result c.in-Ok.engine run.new.engine c.args.parts.now run.new.parts c.args.ticks.now run.new.ticks c.args.avail.now c.from_residual.result c.end_run.result c.end_run.new.fates
          c.in-Ok.ensures.ready c.in-Ok.ensures.started c.requires.parts run.ensures.same_run run.ensures.comes run.ensures.once run.ensures.kept c.end_run.ensures.answer c.end_run.ensures.fates
          (stopped_end c.end_run.result c.from_residual.result _ c.from_residual.ensures.1 c.in_err-end_run.was) is;
    }

pub returns : goal.returns
returns g c =
    let t = c.args.plan.now in
    let custom = g.O.RowOp.meaning c.args.custom.now in
    let cut = c.args.offers in
    let run = c.rounds_until_over-done in
    record {
      comes = rounds-end (g.N.IdMaker.tells c.args.ids.now) g.N.I.Ids.tells g.C.CellStore.tells g.C.CellStore.fault_count g.T.Ticks.handed_out g.T.Ticks.tells g.V.Avail.tells t custom cut (c.laws_of_runs.ensures t custom cut) c.requires.input (g.O.RowOp.keeps c.args.custom.now)
          run.result c.in-Ok.engine run.new.engine c.args.parts.now run.new.parts c.args.ticks.now run.new.ticks c.args.avail.now (Ok tt) c.end_run.result c.end_run.new.fates
          c.in-Ok.ensures.ready c.in-Ok.ensures.started c.requires.parts run.ensures.same_run run.ensures.comes run.ensures.once run.ensures.kept c.end_run.ensures.answer c.end_run.ensures.fates
          (whole_end run.result run.new.engine c.end_run.result _ run.ensures.over c.end_run.ensures.answer c.in_ok-end_run.was);
      followed =
          subst (λ (r : Result Ended Stop). RunFollowed g.W.Follow.tells g.W.Follow.fault_count r c.end_run.new.fates c.args.follow.now run.new.follow) (whole_end run.result run.new.engine c.end_run.result _ run.ensures.over c.end_run.ensures.answer c.in_ok-end_run.was)
          (run_followed g.W.Follow.tells g.W.Follow.fault_count (topology_in run.new.engine) (cut_in run.new.engine) (shape run.new.engine) run.result c.end_run.result c.in-Ok.engine.fates run.new.engine.fates c.end_run.new.fates c.args.follow.now run.new.follow
          (started_none (g.N.IdMaker.tells c.args.ids.now) g.N.I.Ids.tells t cut c.in-Ok.engine c.in-Ok.ensures.started) c.end_run.ensures.fates c.end_run.ensures.answer run.ensures.followed);
      less = λ txid is.
          rounds-less (g.N.IdMaker.tells c.args.ids.now) g.N.I.Ids.tells g.C.CellStore.tells g.C.CellStore.fault_count g.T.Ticks.handed_out g.T.Ticks.tells g.V.Avail.tells t custom cut (c.laws_of_runs.ensures t custom cut) c.requires.input (g.O.RowOp.keeps c.args.custom.now)
          txid run.result c.in-Ok.engine run.new.engine c.args.parts.now run.new.parts c.args.ticks.now run.new.ticks c.args.avail.now (Ok tt) c.end_run.result c.end_run.new.fates
          c.in-Ok.ensures.ready c.in-Ok.ensures.started c.requires.parts run.ensures.same_run run.ensures.comes run.ensures.once run.ensures.kept c.end_run.ensures.answer c.end_run.ensures.fates
          (whole_end run.result run.new.engine c.end_run.result _ run.ensures.over c.end_run.ensures.answer c.in_ok-end_run.was) is;
    }
