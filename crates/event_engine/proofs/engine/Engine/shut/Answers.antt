use Rattle.std.proofs.Common.{[], ◌∷◌, ap, sym, ◌∙◌}
use Rattle.event_engine.specs.Engines.{cut_in, shape, topology_in}
use Rattle.event_engine.proofs.EngineLemmas.{shut_ready}
use Rattle.event_engine.proofs.GoesLemmas.{goes-over, goes-shut}
use Rattle.event_worlds.specs.Worlds.{of_shut}
use Rattle.event_engine.proofs.engine.Engine.shut.Goals as goal

pub returns-then-is_over-clause-goes : goal.returns-then-is_over-clause-goes
returns-then-is_over-clause-goes g c = λ custom.
    let old = c.args.self.now in
    goes-over g.I.Ids.tells (topology_in old) custom (cut_in old) (of_shut c.args.partition ∷ []) old (sym c.is_over.ensures ∙ c.if-is_over.true)

pub returns-clause-ready : goal.returns-clause-ready
returns-clause-ready g c =
    let old = c.args.self.now in
    shut_ready (topology_in old) (cut_in old) old c.take_shut.new.self c.with_shut.result c.requires.ready c.take_shut.ensures.still (c.take_shut.ensures.seated (topology_in old) (cut_in old) c.requires.ready.seated) c.take_shut.ensures.done

pub returns-clause-goes : goal.returns-clause-goes
returns-clause-goes g c = λ custom.
    let old = c.args.self.now in
    goes-shut g.I.Ids.tells (topology_in old) custom (cut_in old) old c.take_shut.new.self (sym c.is_over.ensures ∙ c.if-is_over.false) c.args.partition
    (c.take_shut.ensures.done ∙ ap (λ n. record (shape old) { shut = n }) c.with_shut.ensures) c.take_shut.ensures.sources
