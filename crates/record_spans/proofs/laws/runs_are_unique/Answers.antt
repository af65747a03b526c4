use Rattle.record_spans.proofs.RunLemmas.{one_list_of_runs}
use Rattle.record_spans.proofs.laws.runs_are_unique.Goals as goal

pub returns : goal.returns
returns c = one_list_of_runs
