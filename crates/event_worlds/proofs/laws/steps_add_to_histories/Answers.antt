use Rattle.event_worlds.proofs.Led.{first-led, next-led}
use Rattle.event_worlds.proofs.laws.steps_add_to_histories.Goals as goal

pub returns-clause-first : goal.returns-clause-first
returns-clause-first c = λ t custom cut words input. first-led t custom cut words input (record {
  kept_first = c.desks_are_kept.ensures.first t cut;
  kept_turn = c.desks_are_kept.ensures.turn t cut;
  kept_outcome = c.desks_are_kept.ensures.outcome t cut;
  fits_first = c.accounts_stay_fit.ensures.first t cut;
  fits_turn = c.accounts_stay_fit.ensures.turn t cut;
  fits_outcome = c.accounts_stay_fit.ensures.outcome t cut;
  roots_turn = c.accounts_stay_fit.ensures.roots t cut;
})

pub returns-clause-next : goal.returns-clause-next
returns-clause-next c = λ t custom cut words outcomes s h k input keeps fine led. next-led t custom cut words input (record {
  kept_first = c.desks_are_kept.ensures.first t cut;
  kept_turn = c.desks_are_kept.ensures.turn t cut;
  kept_outcome = c.desks_are_kept.ensures.outcome t cut;
  fits_first = c.accounts_stay_fit.ensures.first t cut;
  fits_turn = c.accounts_stay_fit.ensures.turn t cut;
  fits_outcome = c.accounts_stay_fit.ensures.outcome t cut;
  roots_turn = c.accounts_stay_fit.ensures.roots t cut;
}) keeps h k.world k.counts led outcomes fine s
