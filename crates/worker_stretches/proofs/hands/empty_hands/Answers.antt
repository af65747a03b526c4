use Rattle.std.proofs.Common.{rules, ap, ◌∙◌}
use Rattle.worker_stretches.specs.Hands.{items_in}
use Rattle.worker_stretches.proofs.Handing.{one-empty}
use Rattle.worker_stretches.proofs.hands.empty_hands.Goals as goal

pub loop-next-preserved : goal.loop-next-preserved
loop-next-preserved g c = record {
  many = search rules;
  room = search rules;
  empty = ap items_in c.push_reserved.ensures.items ∙ one-empty c.loop-next.hands.items c.new.result c.loop-next.invariant.empty c.new.ensures.items;
}
