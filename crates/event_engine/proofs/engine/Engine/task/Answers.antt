use Rattle.std.proofs.Common.{[], ◌∷◌, sym, ◌∙◌}
use Rattle.event_engine.specs.Engines.{cut_in, topology_in}
use Rattle.event_engine.proofs.EngineLemmas.{task_ready}
use Rattle.event_engine.proofs.FatesLemmas.{on_err}
use Rattle.event_engine.proofs.GoesLemmas.{goes-over, goes-task}
use Rattle.event_engine.proofs.TurnEvents.{once_still}
use Rattle.event_worlds.specs.Worlds.{of_task}
use Rattle.event_engine.proofs.engine.Engine.task.Goals as goal

pub returns-then-is_over-clause-goes : goal.returns-then-is_over-clause-goes
returns-then-is_over-clause-goes g c =
    let old = c.args.self.now in
    goes-over g.I.Ids.tells (topology_in old) (g.O.RowOp.meaning c.args.custom.now) (cut_in old) (of_task c.args.n ∷ []) old (sym c.is_over.ensures ∙ c.if-is_over.true)

pub returns-clause-ready : goal.returns-clause-ready
returns-clause-ready g c =
    let old = c.args.self.now in
    task_ready g.I.Ids.tells (topology_in old) (g.O.RowOp.meaning c.args.custom.now) c.args.n (cut_in old) old c.task_event.new.self (g.O.RowOp.keeps c.args.custom.now) c.requires.there c.requires.ready
    c.task_event.ensures.still c.in_ok-task_event.ensures.seated c.in_ok-task_event.ensures.done

pub returns-clause-goes : goal.returns-clause-goes
returns-clause-goes g c =
    let old = c.args.self.now in
    goes-task g.I.Ids.tells (topology_in old) (g.O.RowOp.meaning c.args.custom.now) (cut_in old) old c.task_event.new.self (sym c.is_over.ensures ∙ c.if-is_over.false) c.args.n c.in_ok-task_event.ensures.done

pub returns-in_err-task_event-clause-once : goal.returns-in_err-task_event-clause-once
returns-in_err-task_event-clause-once g c =
    let old = c.args.self.now in
    on_err c.from_residual.result (once_still (topology_in old) (cut_in old) old c.task_event.new.self c.requires.ready c.task_event.ensures.still)
