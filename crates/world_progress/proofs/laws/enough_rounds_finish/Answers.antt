use Rattle.std.proofs.Common.{arith, refl}
use Rattle.std.proofs.lemmas.List.Elements.{recursion_from_All}
use Rattle.event_worlds.specs.Added.{first_history}
use Rattle.event_worlds.specs.Worlds.{first_known}
use Rattle.world_progress.specs.Rounding.{ShutsNone}
use Rattle.world_progress.proofs.Rounding.{all_done_fits, all_finish, first_lasts}
use Rattle.world_progress.proofs.laws.enough_rounds_finish.Goals as goal

pub returns-clause-first : goal.returns-clause-first
returns-clause-first c = λ t custom cut words outcomes steps input keeps can all_done apart has short stays_open.
    all_finish t custom cut words outcomes
    (λ s h k led. c.steps_add_to_histories.ensures.next t custom cut words outcomes s h k input keeps (all_done_fits t outcomes all_done) led)
    all_done (c.nodes_of_joined_rows.ensures.sum t custom) c.lowest_is_pending.ensures input can (first_history t words) (first_known t cut words)
    (first_lasts t custom cut words (first_history t words) (c.steps_add_to_histories.ensures.first t custom cut words input) refl) (λ some. refl)
    steps has (omega (arith, short)) (λ some. recursion_from_All ShutsNone steps (stays_open some)) apart

pub returns-clause-later : goal.returns-clause-later
returns-clause-later c = λ t custom cut words outcomes steps h k input keeps can all_done last is_open apart has short stays_open.
    all_finish t custom cut words outcomes
    (λ s g j led. c.steps_add_to_histories.ensures.next t custom cut words outcomes s g j input keeps (all_done_fits t outcomes all_done) led)
    all_done (c.nodes_of_joined_rows.ensures.sum t custom) c.lowest_is_pending.ensures input can h k last is_open
    steps has short (λ some. recursion_from_All ShutsNone steps (stays_open some)) apart
