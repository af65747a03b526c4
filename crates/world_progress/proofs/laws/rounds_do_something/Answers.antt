use Rattle.world_progress.proofs.Rounding.{all_done_fits, round_does}
use Rattle.world_progress.proofs.laws.rounds_do_something.Goals as goal

pub returns : goal.returns
returns c = λ t custom cut words outcomes ticks h k input keeps can all_done last short.
    round_does t custom cut words outcomes
    (λ s g j led. c.steps_add_to_histories.ensures.next t custom cut words outcomes s g j input keeps (all_done_fits t outcomes all_done) led)
    all_done c.lowest_is_pending.ensures input can ticks h k last short
