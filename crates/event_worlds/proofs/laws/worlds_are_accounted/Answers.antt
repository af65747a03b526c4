use Rattle.event_worlds.specs.Added.{added, first_history}
use Rattle.event_worlds.proofs.Led.{run-accounted}
use Rattle.commit_order.specs.tuple_account.Histories.{joined}
use Rattle.event_worlds.proofs.laws.worlds_are_accounted.Goals as goal

pub returns-clause-first : goal.returns-clause-first
returns-clause-first c = λ t custom cut words input. (first_history t words, c.steps_add_to_histories.ensures.first t custom cut words input)

pub returns-clause-next : goal.returns-clause-next
returns-clause-next c = λ t custom cut words outcomes s k input keeps fine accounted. (
  joined accounted.0 (added t custom cut words s k),
  c.steps_add_to_histories.ensures.next t custom cut words outcomes s accounted.0 k input keeps fine accounted.1,
)

pub returns-clause-run : goal.returns-clause-run
returns-clause-run c = λ t custom cut words outcomes steps k input keeps fine accounted.
    run-accounted t custom cut words outcomes (λ s h known led. c.steps_add_to_histories.ensures.next t custom cut words outcomes s h known input keeps fine led) steps k accounted
