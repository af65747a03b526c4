use Rattle.std.proofs.Common.{ap, refl}
use Rattle.event_engine.specs.Engines.{cut_in, shape, topology_in}
use Rattle.event_engine.proofs.EngineLemmas.{seated_by}
use Rattle.event_engine.proofs.ExchangeLemmas.{ready_without_parcels}
use Rattle.event_engine.proofs.engine.Engine.give_parcels.Goals as goal

pub returns-clause-ready : goal.returns-clause-ready
returns-clause-ready g c =
    let old = c.args.self.now in
    let new = record old { tasks = c.give_all_parcels.new.tasks } in
    let gone = c.in_ok-given.ensures in
    ready_without_parcels (topology_in old) (cut_in old) old new c.requires (record { coordinator = refl; fates = refl })
    (seated_by (topology_in old) (cut_in old) old new c.requires.seated refl refl (gone.seats (topology_in old) c.requires.seated.tasks) c.requires.seated.ackers) (ap (λ sides. record (shape old) { tasks = sides }) gone.sides)
