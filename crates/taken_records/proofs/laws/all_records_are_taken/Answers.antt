use Rattle.taken_records.proofs.Leaving.{all_taken, full_offered}
use Rattle.taken_records.proofs.laws.all_records_are_taken.Goals as goal

pub returns : goal.returns
returns c = record { all = all_taken; offered = full_offered }
