use Rattle.std.proofs.Common.{rules, refl}
use Rattle.event_engine.proofs.SeatLemmas.{at-some}
use Rattle.event_engine.proofs.task.put_tuple.Goals as goal

pub returns : goal.returns
returns g c = record {
  before = c.index_mut.result.now;
  after = record (c.index_mut.result.now) { inbox = c.push_back.new.self };
  at = at-some c.args.tasks.now.items c.args.n c.index_mut.result.now c.requires (search rules);
  inbox = search rules;
  outbox = refl;
  task = refl;
  others = refl;
}
