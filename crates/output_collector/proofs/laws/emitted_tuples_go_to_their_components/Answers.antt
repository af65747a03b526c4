use Rattle.output_collector.proofs.Targets.{go_to}
use Rattle.output_collector.proofs.laws.emitted_tuples_go_to_their_components.Goals as goal

pub returns : goal.returns
returns c = go_to
