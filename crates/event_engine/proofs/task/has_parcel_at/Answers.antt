use Rattle.std.proofs.Common.{◌≡◌, ◌<◌, [], length, rules}
use Rattle.event_engine.proofs.SeatLemmas.{at-some, only-there}
use Rattle.event_engine.proofs.task.has_parcel_at.Goals as goal

pub returns-clause-some : goal.returns-clause-some
returns-clause-some g c = λ is s at.
    only-there (λ seat. 0 < length seat.outbox.items) c.args.tasks.now.items c.args.n c.index.result.now s (at-some c.args.tasks.now.items c.args.n c.index.result.now c.requires (search rules)) (c.has_parcel.ensures.some is) at

pub returns-clause-none : goal.returns-clause-none
returns-clause-none g c = λ is s at.
    only-there (λ seat. seat.outbox.items ≡ []) c.args.tasks.now.items c.args.n c.index.result.now s (at-some c.args.tasks.now.items c.args.n c.index.result.now c.requires (search rules)) (c.has_parcel.ensures.none is) at
