use Rattle.std.proofs.Common.{rules}
use Rattle.event_engine.proofs.ExchangeLemmas.{gives_verdict}
use Rattle.event_engine.proofs.acker.give_verdict_at.Goals as goal

pub returns : goal.returns
returns c =
    gives_verdict c.args.n c.args.given.now.items c.give.new.given.items c.args.ackers.now.items c.index_mut.result.now c.give.new.self c.requires (search rules)
    c.in_ok-give.ensures.given c.give.ensures.side c.give.ensures.buckets
