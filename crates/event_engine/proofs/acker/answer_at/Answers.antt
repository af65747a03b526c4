use Rattle.std.proofs.Common.{rules}
use Rattle.event_engine.proofs.SeatLemmas.{answers_at, buckets_at}
use Rattle.event_engine.proofs.acker.answer_at.Goals as goal

pub answer-requires-clause-own : goal.answer-requires-clause-own
answer-requires-clause-own c = buckets_at c.args.buckets c.args.n c.args.ackers.now.items c.index_mut.result.now c.requires.own c.requires.within (search rules)

pub returns : goal.returns
returns c =
    answers_at c.args.buckets c.args.tick c.args.n c.in_ok-verdict.verdict c.args.ackers.now.items c.index_mut.result.now c.answer.new.self c.requires.within (search rules)
    c.in_ok-verdict.ensures.side c.in_ok-verdict.ensures.verdict c.answer.ensures.buckets
