use Rattle.storm_ticks.proofs.TickingLemmas.{fold-handed_on}
use Rattle.storm_ticks.proofs.ticks.handed_out_is_the_sum_of_answers.Goals as goal

pub returns : goal.returns
returns c = fold-handed_on
