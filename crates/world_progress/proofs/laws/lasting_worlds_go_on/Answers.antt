use Rattle.std.proofs.Common.{refl}
use Rattle.event_worlds.specs.Added.{first_history}
use Rattle.world_progress.proofs.Rounding.{all_done_fits, first_lasts, goes_on}
use Rattle.world_progress.proofs.laws.lasting_worlds_go_on.Goals as goal

pub returns-clause-first : goal.returns-clause-first
returns-clause-first c = λ t custom cut words input. first_lasts t custom cut words (first_history t words)
    (c.steps_add_to_histories.ensures.first t custom cut words input) refl

pub returns-clause-steps : goal.returns-clause-steps
returns-clause-steps c = λ t custom cut words outcomes steps h k input keeps all_done last short.
    goes_on t custom cut words outcomes
    (λ s g j led. c.steps_add_to_histories.ensures.next t custom cut words outcomes s g j input keeps (all_done_fits t outcomes all_done) led)
    all_done steps h k last short
