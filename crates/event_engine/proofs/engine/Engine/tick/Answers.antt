use Rattle.std.proofs.Common.{[], ◌∷◌, sym, ◌∙◌}
use Rattle.event_engine.specs.Engines.{cut_in, topology_in}
use Rattle.event_engine.proofs.EngineLemmas.{tick_ready}
use Rattle.event_engine.proofs.GoesLemmas.{goes-over, goes-tick}
use Rattle.event_worlds.specs.Worlds.{of_tick}
use Rattle.event_engine.proofs.engine.Engine.tick.Goals as goal

pub returns-then-is_over-clause-goes : goal.returns-then-is_over-clause-goes
returns-then-is_over-clause-goes g c = λ custom.
    let old = c.args.self.now in
    goes-over g.I.Ids.tells (topology_in old) custom (cut_in old) (of_tick ∷ []) old (sym c.is_over.ensures ∙ c.if-is_over.true)

pub returns-clause-ready : goal.returns-clause-ready
returns-clause-ready g c =
    let old = c.args.self.now in
    tick_ready (topology_in old) (cut_in old) old c.tick_event.new.self c.requires c.tick_event.ensures.still (c.tick_event.ensures.seated (topology_in old) (cut_in old) c.requires.seated) c.tick_event.ensures.done

pub returns-clause-goes : goal.returns-clause-goes
returns-clause-goes g c = λ custom.
    let old = c.args.self.now in
    goes-tick g.I.Ids.tells (topology_in old) custom (cut_in old) old c.tick_event.new.self (sym c.is_over.ensures ∙ c.if-is_over.false) c.tick_event.ensures.done c.tick_event.ensures.sources
