use Rattle.std.proofs.Common.{sym, ◌∙◌}
use Rattle.event_engine.specs.Engines.{cut_in, topology_in}
use Rattle.event_engine.proofs.BoostLemmas.{boosts_over, boosts_then, goes_on_still}
use Rattle.event_engine.proofs.FatesLemmas.{on_err}
use Rattle.event_engine.proofs.LoopLemmas.{ready_here, ready_there, still_then}
use Rattle.event_engine.proofs.TurnEvents.{once_still}
use Rattle.event_engine.proofs.engine.Engine.boost.Goals as goal

pub returns-then-is_over-clause-boosts : goal.returns-then-is_over-clause-boosts
returns-then-is_over-clause-boosts g c =
    let old = c.args.self.now in
    boosts_over g.I.Ids.tells (topology_in old) (g.O.RowOp.meaning c.args.custom.now) (cut_in old) c.args.most old (sym c.is_over.ensures ∙ c.if-is_over.true)

pub tasks_often-requires-clause-goes_on : goal.tasks_often-requires-clause-goes_on
tasks_often-requires-clause-goes_on g c = λ lives bounds. sym c.is_over.ensures ∙ c.if-is_over.false

pub ackers_often-requires-clause-ready : goal.ackers_often-requires-clause-ready
ackers_often-requires-clause-ready g c = let old = c.args.self.now in ready_here (topology_in old) (cut_in old) c.tasks_often.new.self c.in_ok-tasks_often.ensures.ready

pub ackers_often-requires-clause-goes_on : goal.ackers_often-requires-clause-goes_on
ackers_often-requires-clause-goes_on g c = goes_on_still c.args.self.now c.tasks_often.new.self c.tasks_often.ensures.still (sym c.is_over.ensures ∙ c.if-is_over.false)

pub returns-clause-ready : goal.returns-clause-ready
returns-clause-ready g c = let old = c.args.self.now in ready_there (topology_in old) (cut_in old) c.tasks_often.new.self c.in_ok-tasks_often.ensures.ready c.ackers_often.new.self c.in_ok-ackers_often.ensures.ready

pub returns-clause-boosts : goal.returns-clause-boosts
returns-clause-boosts g c =
    let old = c.args.self.now in
    let custom = g.O.RowOp.meaning c.args.custom.now in
    boosts_then g.I.Ids.tells (topology_in old) (cut_in old) c.tasks_often.new.self c.ackers_often.new.self c.in_ok-tasks_often.ensures.ready custom c.args.most old c.in_ok-tasks_often.ensures.boosts (c.in_ok-ackers_often.ensures.boosts custom)

pub returns-clause-still : goal.returns-clause-still
returns-clause-still g c = still_then c.args.self.now c.tasks_often.new.self c.ackers_often.new.self c.tasks_often.ensures.still c.ackers_often.ensures.still

pub returns-in_err-ackers_often-clause-still : goal.returns-in_err-ackers_often-clause-still
returns-in_err-ackers_often-clause-still g c = still_then c.args.self.now c.tasks_often.new.self c.ackers_often.new.self c.tasks_often.ensures.still c.ackers_often.ensures.still

pub returns-in_err-tasks_often-clause-once : goal.returns-in_err-tasks_often-clause-once
returns-in_err-tasks_often-clause-once g c =
    let old = c.args.self.now in
    on_err c.from_residual.result (once_still (topology_in old) (cut_in old) old c.tasks_often.new.self c.requires c.tasks_often.ensures.still)

pub returns-in_err-ackers_often-clause-once : goal.returns-in_err-ackers_often-clause-once
returns-in_err-ackers_often-clause-once g c =
    let old = c.args.self.now in
    on_err c.from_residual-in_err-ackers_often.result
    (once_still (topology_in old) (cut_in old) old c.ackers_often.new.self c.requires (still_then old c.tasks_often.new.self c.ackers_often.new.self c.tasks_often.ensures.still c.ackers_often.ensures.still))
