use Rattle.std.proofs.Common.{rules, arith}
use Rattle.event_engine.proofs.ExchangeLemmas.{verdicts_all, verdicts_more, verdicts_none}
use Rattle.event_engine.proofs.acker.give_all_verdicts.Goals as goal

pub loop-n-init : goal.loop-n-init
loop-n-init c = verdicts_none c.new-given.result.items c.args.ackers.now.items (search rules)

pub loop-n-preserved : goal.loop-n-preserved
loop-n-preserved c = verdicts_more c.loop-n.n c.loop-n.given.items c.give_verdict_at.new.given.items c.args.ackers.now.items c.loop-n.ackers.items c.give_verdict_at.new.ackers.items c.loop-n.invariant c.in_ok-give_verdict_at.ensures

pub returns : goal.returns
returns c = verdicts_all c.loop-n.n c.loop-n.given.items c.args.ackers.now.items c.loop-n.ackers.items (let far = c.loop-n-test.false in omega arith) c.loop-n.invariant
