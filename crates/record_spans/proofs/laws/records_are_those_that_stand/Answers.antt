use Rattle.record_spans.proofs.RunLemmas.{stands_then, then_stands}
use Rattle.record_spans.proofs.laws.records_are_those_that_stand.Goals as goal

pub returns : goal.returns
returns c = λ spans n. (stands_then spans n, then_stands spans n)
