use Rattle.std.proofs.Common.{refl}
use Rattle.event_engine.specs.Engines.{cut_in, topology_in}
use Rattle.event_engine.proofs.EngineLemmas.{seated_by}
use Rattle.event_engine.proofs.SeatLemmas.{buckets_kept}
use Rattle.event_engine.proofs.engine.Engine.acker_event.Goals as goal

pub returns-in_ok-push_back-in-Some-clause-seated : goal.returns-in_ok-push_back-in-Some-clause-seated
returns-in_ok-push_back-in-Some-clause-seated g c =
    let old = c.args.self.now in
    seated_by (topology_in old) (cut_in old) old (record old { ackers = c.answer_at.new.ackers; verdicts = c.push_back.new.self }) c.requires.ready.seated refl refl c.requires.ready.seated.tasks
    (buckets_kept (topology_in old).buckets old.ackers.items c.answer_at.new.ackers.items c.in_ok-verdict.ensures.same_buckets c.requires.ready.seated.ackers)

pub returns-in-None-clause-seated : goal.returns-in-None-clause-seated
returns-in-None-clause-seated g c =
    let old = c.args.self.now in
    seated_by (topology_in old) (cut_in old) old (record old { ackers = c.answer_at.new.ackers }) c.requires.ready.seated refl refl c.requires.ready.seated.tasks
    (buckets_kept (topology_in old).buckets old.ackers.items c.answer_at.new.ackers.items c.in_ok-verdict.ensures.same_buckets c.requires.ready.seated.ackers)
