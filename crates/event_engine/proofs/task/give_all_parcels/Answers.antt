use Rattle.std.proofs.Common.{rules, arith}
use Rattle.event_engine.proofs.ExchangeLemmas.{parcels_all, parcels_more, parcels_none}
use Rattle.event_engine.proofs.task.give_all_parcels.Goals as goal

pub loop-n-init : goal.loop-n-init
loop-n-init g c = parcels_none c.new-given.result.items c.args.tasks.now.items (search rules)

pub loop-n-preserved : goal.loop-n-preserved
loop-n-preserved g c = parcels_more c.loop-n.n c.loop-n.given.items c.give_parcels_at.new.given.items c.args.tasks.now.items c.loop-n.tasks.items c.give_parcels_at.new.tasks.items c.loop-n.invariant c.in_ok-give_parcels_at.ensures

pub returns : goal.returns
returns g c = parcels_all c.loop-n.n c.loop-n.given.items c.args.tasks.now.items c.loop-n.tasks.items (let far = c.loop-n-test.false in omega arith) c.loop-n.invariant
