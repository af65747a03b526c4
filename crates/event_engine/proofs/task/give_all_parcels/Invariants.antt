use Rattle.event_engine.proofs.ExchangeLemmas.{ParcelsGone}
use Rattle.event_engine.proofs.task.give_all_parcels.Given as goal

abbrev pub invariant-loop-n : goal.invariant-loop-n
invariant-loop-n g l = ParcelsGone l.n l.given.items l.fn.tasks.items l.tasks.items
