use Rattle.output_collector.proofs.Lanes.{few_subs}
use Rattle.output_collector.proofs.laws.start_words_are_few.Goals as goal

pub returns : goal.returns
returns c = few_subs
