use Rattle.std.proofs.Common.{rules, refl}
use Rattle.event_engine.proofs.SeatLemmas.{at-some}
use Rattle.event_engine.proofs.task.give_parcels_at.Goals as goal

pub returns : goal.returns
returns g c = record {
  before = c.index_mut.result.now;
  after = record (c.index_mut.result.now) { outbox = c.append.new.other };
  at = at-some c.args.tasks.now.items c.args.n c.index_mut.result.now c.requires (search rules);
  given = search rules;
  outbox = search rules;
  inbox = refl;
  task = refl;
  others = refl;
}
