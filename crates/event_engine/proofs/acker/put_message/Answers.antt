use Rattle.std.proofs.Common.{rules}
use Rattle.event_engine.proofs.SeatLemmas.{puts_message}
use Rattle.event_engine.proofs.acker.put_message.Goals as goal

pub returns : goal.returns
returns c = puts_message c.args.message c.args.n c.args.ackers.now.items c.index_mut.result.now c.put.new.self c.requires (search rules) (search rules) c.put.ensures.buckets
