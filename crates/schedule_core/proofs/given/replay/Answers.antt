use Rattle.std.proofs.Common.{refl}
use Rattle.event_worlds.specs.Rounds.{ticks_in}
use Rattle.event_engine.specs.Engines.{cut_in, shape, topology_in}
use Rattle.schedule_core.proofs.Following.{run_followed, started_none, started_taken}
use Rattle.schedule_core.proofs.Ending.{at_rest, ends, ends_less, fits_first, not_begun, ran-from}
use Rattle.schedule_core.specs.Schedules.{all_steps}
use Rattle.event_worlds.specs.topology_plan.Topology.{Topology}
use Rattle.schedule_core.proofs.given.replay.Goals as goal

pub carry_out_all-done-requires-clause-at_rest : goal.carry_out_all-done-requires-clause-at_rest
carry_out_all-done-requires-clause-at_rest g c = λ lives bounds. at_rest c.args.plan.now c.args.offers c.in-Ok.engine c.in-Ok.ensures.ready c.in-Ok.ensures.idle

pub carry_out_all-done-requires-clause-fit : goal.carry_out_all-done-requires-clause-fit
carry_out_all-done-requires-clause-fit g c = λ lives bounds. fits_first c.args.plan.now c.args.offers c.in-Ok.engine c.args.events.now c.in-Ok.ensures.ready c.requires.fit

pub carry_out_all-done-requires-clause-takes : goal.carry_out_all-done-requires-clause-takes
carry_out_all-done-requires-clause-takes g c = λ lives bounds.
    started_taken (g.N.IdMaker.tells c.args.ids.now) g.N.I.Ids.tells c.args.plan.now c.args.offers c.in-Ok.engine c.in-Ok.ensures.started (g.W.Follow.takes c.args.follow.now) c.in-Ok.ensures.ready.seated.of_cut c.requires.takes

pub returns-in-Err : goal.returns-in-Err
returns-in-Err g c = record {
  comes = not_begun g.C.CellStore.tells g.C.CellStore.fault_count c.args.plan.now (g.O.RowOp.meaning c.args.custom.now) c.args.offers (c.laws_of_runs.ensures c.args.plan.now (g.O.RowOp.meaning c.args.custom.now) c.args.offers) (all_steps c.args.plan.now c.args.events.now) (ticks_in (all_steps c.args.plan.now c.args.events.now)) c.args.fates.now c.args.parts.now c.requires.input c.requires.empty;
  told = λ words are ok. absurd ok;
  drawn = λ words are ok. absurd ok;
  followed = refl;
  less = λ txid is. cc;
}

pub returns : goal.returns
returns g c =
    let told = g.N.IdMaker.tells c.args.ids.now in
    let tells = g.N.I.Ids.tells in
    let holds = g.C.CellStore.tells in
    let count = g.C.CellStore.fault_count in
    let t = c.args.plan.now in
    let custom = g.O.RowOp.meaning c.args.custom.now in
    let cut = c.args.offers in
    let laws = c.laws_of_runs.ensures t custom cut in
    let keeps = g.O.RowOp.keeps c.args.custom.now in
    let steps = all_steps t c.args.events.now in
    let done = c.carry_out_all-done.ensures in
    let ran = ran-from told tells holds count t custom cut laws c.requires.input keeps (λ (u : Topology). all_steps u c.args.events.now) (ticks_in steps) c.carry_out_all-done.result c.in-Ok.engine c.carry_out_all-done.new.engine c.args.parts.now c.carry_out_all-done.new.parts
    c.in-Ok.ensures.ready c.in-Ok.ensures.started c.requires.parts (λ n most last. most) done.same_run done.drives done.bad done.failed done.short done.once done.kept in
    let ends_so = ends told tells holds count t custom cut laws c.requires.input keeps steps (ticks_in steps) c.carry_out_all-done.result c.in-Ok.engine c.carry_out_all-done.new.engine c.args.parts.now c.carry_out_all-done.new.parts
    c.end_run.result c.end_run.new.fates ran c.end_run.ensures.answer c.end_run.ensures.fates in
    let e = c.carry_out_all-done.new.engine in
    record {
      comes = ends_so.comes;
      told = ends_so.told;
      drawn = ends_so.drawn;
      followed =
          run_followed g.W.Follow.tells g.W.Follow.fault_count (topology_in e) (cut_in e) (shape e) c.carry_out_all-done.result c.end_run.result c.in-Ok.engine.fates e.fates c.end_run.new.fates c.args.follow.now c.carry_out_all-done.new.follow
          (started_none told tells t cut c.in-Ok.engine c.in-Ok.ensures.started) c.end_run.ensures.fates c.end_run.ensures.answer done.followed;
      less = λ txid is.
          ends_less told tells holds count t custom cut laws c.requires.input keeps steps (ticks_in steps) txid c.carry_out_all-done.result c.in-Ok.engine e c.args.parts.now c.carry_out_all-done.new.parts
          c.end_run.result c.end_run.new.fates ran c.end_run.ensures.answer c.end_run.ensures.fates is;
    }
