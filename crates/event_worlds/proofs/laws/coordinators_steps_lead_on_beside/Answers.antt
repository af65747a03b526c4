use Rattle.event_worlds.proofs.Led.{moves-on, next-led-on}
use Rattle.event_worlds.specs.Beside.{waits}
use Rattle.commit_order.specs.tuple_account.Moves.{beside}
use Rattle.event_worlds.proofs.laws.coordinators_steps_lead_on_beside.Goals as goal

pub returns : goal.returns
returns c = λ t custom cut words outcomes s weight h k input fine free led. next-led-on t custom cut words input (record {
  kept_first = c.desks_are_kept.ensures.first t cut;
  kept_turn = c.desks_are_kept.ensures.turn t cut;
  kept_outcome = c.desks_are_kept.ensures.outcome t cut;
  fits_first = c.accounts_stay_fit.ensures.first t cut;
  fits_turn = c.accounts_stay_fit.ensures.turn t cut;
  fits_outcome = c.accounts_stay_fit.ensures.outcome t cut;
  roots_turn = c.accounts_stay_fit.ensures.roots t cut;
}) (λ a. beside (waits weight) a) (moves-on t custom weight) h k.world k.counts led outcomes fine s free
