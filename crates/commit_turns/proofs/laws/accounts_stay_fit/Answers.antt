use Rattle.commit_turns.proofs.LawLemmas.{first_account, outcome_fits, turn_fits, turn_roots}
use Rattle.commit_turns.proofs.laws.accounts_stay_fit.Goals as goal

pub returns-clause-first : goal.returns-clause-first
returns-clause-first c = first_account

pub returns-clause-turn : goal.returns-clause-turn
returns-clause-turn c = λ t cut d fates h valid start none kept fits. turn_fits t cut d fates valid start none kept h fits

pub returns-clause-outcome : goal.returns-clause-outcome
returns-clause-outcome c = λ t cut d fates h valid start none kept fits. outcome_fits t cut d fates valid start none kept h fits

pub returns-clause-roots : goal.returns-clause-roots
returns-clause-roots c = λ t cut d fates h valid start none kept fits. turn_roots t cut d fates valid start none kept h fits
