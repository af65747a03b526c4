use Rattle.attempt_fates.proofs.RecordLemmas.{records_after}
use Rattle.attempt_fates.proofs.laws.committed_records_are_all.Goals as goal

pub returns : goal.returns
returns c = records_after
