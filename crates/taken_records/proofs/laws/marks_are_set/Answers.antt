use Rattle.taken_records.proofs.Marking.{are_marked, only_marked}
use Rattle.taken_records.proofs.laws.marks_are_set.Goals as goal

pub returns : goal.returns
returns c = record { set = are_marked; only = only_marked }
