use Rattle.event_engine.proofs.ShutLemmas.{has_bit, opens, stays_open}
use Rattle.event_engine.proofs.shutting.with_open.Goals as goal

pub returns-then-shut-bit-eq0 : goal.returns-then-shut-bit-eq0
returns-then-shut-bit-eq0 c = stays_open c.args.partition c.args.shut c.requires c.if-shut-bit-eq0.true

pub overflow_sub-result : goal.overflow_sub-result
overflow_sub-result c = has_bit c.args.partition c.args.shut c.requires c.if-shut-bit-eq0.false

pub returns : goal.returns
returns c = opens c.args.partition c.args.shut c.requires c.if-shut-bit-eq0.false
