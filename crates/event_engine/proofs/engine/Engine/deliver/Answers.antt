use Rattle.std.proofs.Common.{ap, refl, [], ◌∷◌, ◌++◌}
use Rattle.event_worlds.specs.commit_order.Orders.{collector_of}
use Rattle.event_engine.specs.Engines.{shape, topology_in}
use Rattle.event_engine.proofs.EngineLemmas.{put_seats, put_sides, put_sources, seated_by}
use Rattle.event_engine.proofs.SeatLemmas.{buckets_kept}
use Rattle.event_worlds.specs.output_collector.Collectors.{ids_in}
use Rattle.event_engine.proofs.engine.Engine.deliver.Goals as goal

pub returns-in_ok-put_tuple-in-ToTask-clause-done :
    goal.returns-in_ok-put_tuple-in-ToTask-clause-done
returns-in_ok-put_tuple-in-ToTask-clause-done g c =
    let old = c.args.self.now in
    rw c.in-ToTask.is
    (ap (λ sides. record (shape old) { tasks = sides }) (put_sides (topology_in old) c.in-ToTask.tuple c.in-ToTask.n old.tasks.items c.put_tuple.new.tasks.items c.in_ok-put_tuple-in-ToTask.ensures))

pub returns-in_ok-put_tuple-in-ToTask-clause-sources :
    goal.returns-in_ok-put_tuple-in-ToTask-clause-sources
returns-in_ok-put_tuple-in-ToTask-clause-sources g c =
    let old = c.args.self.now in
    λ i. put_sources c.in-ToTask.tuple c.in-ToTask.n old.tasks.items c.put_tuple.new.tasks.items c.in_ok-put_tuple-in-ToTask.ensures i ++ ids_in (collector_of old.coordinator) ∷ []

pub returns-in_ok-put_tuple-in-ToTask-clause-seated :
    goal.returns-in_ok-put_tuple-in-ToTask-clause-seated
returns-in_ok-put_tuple-in-ToTask-clause-seated g c = λ t cut seated.
    let old = c.args.self.now in
    seated_by t cut old (record old { tasks = c.put_tuple.new.tasks }) seated refl refl
    (put_seats t c.in-ToTask.tuple c.in-ToTask.n old.tasks.items c.put_tuple.new.tasks.items c.in_ok-put_tuple-in-ToTask.ensures seated.tasks) seated.ackers

pub returns-in_ok-put_message-in-ToAcker-clause-seated :
    goal.returns-in_ok-put_message-in-ToAcker-clause-seated
returns-in_ok-put_message-in-ToAcker-clause-seated g c = λ t cut seated.
    let old = c.args.self.now in
    seated_by t cut old (record old { ackers = c.put_message.new.ackers }) seated refl refl seated.tasks
    (buckets_kept t.buckets old.ackers.items c.put_message.new.ackers.items c.in_ok-put_message-in-ToAcker.ensures.same_buckets seated.ackers)
