use Rattle.event_engine.proofs.ExchangeLemmas.{VerdictsGone}
use Rattle.event_engine.proofs.acker.give_all_verdicts.Given as goal

abbrev pub invariant-loop-n : goal.invariant-loop-n
invariant-loop-n l = VerdictsGone l.n l.given.items l.fn.ackers.items l.ackers.items
