use Rattle.std.proofs.Common.{ap, refl}
use Rattle.event_engine.specs.Engines.{cut_in, shape, topology_in}
use Rattle.event_engine.proofs.EngineLemmas.{seated_by}
use Rattle.event_engine.proofs.ExchangeLemmas.{ready_without_verdicts}
use Rattle.event_engine.proofs.SeatLemmas.{buckets_kept}
use Rattle.event_engine.proofs.engine.Engine.give_verdicts.Goals as goal

pub returns-clause-ready : goal.returns-clause-ready
returns-clause-ready g c =
    let old = c.args.self.now in
    let new = record old { ackers = c.give_all_verdicts.new.ackers } in
    let gone = c.in_ok-given.ensures in
    ready_without_verdicts (topology_in old) (cut_in old) old new c.requires (record { coordinator = refl; fates = refl })
    (seated_by (topology_in old) (cut_in old) old new c.requires.seated refl refl c.requires.seated.tasks
    (buckets_kept (topology_in old).buckets old.ackers.items c.give_all_verdicts.new.ackers.items gone.same_buckets c.requires.seated.ackers))
    (ap (λ sides. record (shape old) { ackers = sides }) gone.sides)
