use Rattle.std.proofs.Common.{rules, refl}
use Rattle.worker_stretches.proofs.Handing.{at-some}
use Rattle.worker_stretches.proofs.hands.give.Goals as goal

pub returns : goal.returns
returns g c = record {
  before = c.index_mut.result.now;
  after = c.push.new.self;
  at = at-some c.args.hands.now.items c.args.at c.index_mut.result.now c.requires (search rules);
  items = search rules;
  others = refl;
}
