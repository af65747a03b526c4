use Rattle.attempt_fates.proofs.RecordLemmas.{record_before, record_once}
use Rattle.attempt_fates.proofs.laws.each_record_is_committed_once.Goals as goal

pub returns-clause-once : goal.returns-clause-once
returns-clause-once c = λ cut ticks number fates. record_once number cut ticks fates

pub returns-clause-gone : goal.returns-clause-gone
returns-clause-gone c = λ cut ticks number fates. record_before number cut ticks fates
