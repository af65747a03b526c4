use Rattle.std.proofs.Common.{[], ◌∷◌, sym, ◌∙◌}
use Rattle.event_engine.specs.Engines.{cut_in, topology_in}
use Rattle.event_engine.proofs.EngineLemmas.{acker_ready}
use Rattle.event_engine.proofs.FatesLemmas.{on_err}
use Rattle.event_engine.proofs.GoesLemmas.{goes-acker, goes-over}
use Rattle.event_engine.proofs.TurnEvents.{once_still}
use Rattle.event_worlds.specs.Worlds.{of_acker}
use Rattle.event_engine.proofs.engine.Engine.acker.Goals as goal

pub returns-then-is_over-clause-goes : goal.returns-then-is_over-clause-goes
returns-then-is_over-clause-goes g c = λ custom.
    let old = c.args.self.now in
    goes-over g.I.Ids.tells (topology_in old) custom (cut_in old) (of_acker c.args.n ∷ []) old (sym c.is_over.ensures ∙ c.if-is_over.true)

pub returns-clause-ready : goal.returns-clause-ready
returns-clause-ready g c =
    let old = c.args.self.now in
    acker_ready (topology_in old) (cut_in old) old c.acker_event.new.self c.args.n c.requires.ready c.acker_event.ensures.still c.in_ok-acker_event.ensures.seated c.in_ok-acker_event.ensures.done

pub returns-clause-goes : goal.returns-clause-goes
returns-clause-goes g c = λ custom.
    let old = c.args.self.now in
    goes-acker g.I.Ids.tells (topology_in old) custom (cut_in old) old c.acker_event.new.self (sym c.is_over.ensures ∙ c.if-is_over.false) c.args.n c.in_ok-acker_event.ensures.done c.in_ok-acker_event.ensures.sources

pub returns-in_err-acker_event-clause-once : goal.returns-in_err-acker_event-clause-once
returns-in_err-acker_event-clause-once g c =
    let old = c.args.self.now in
    on_err c.from_residual.result (once_still (topology_in old) (cut_in old) old c.acker_event.new.self c.requires.ready c.acker_event.ensures.still)
