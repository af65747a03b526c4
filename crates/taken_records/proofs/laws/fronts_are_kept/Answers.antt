use Rattle.taken_records.proofs.Fronting.{passed_gone, stay_before, stay_first, stay_taken}
use Rattle.taken_records.proofs.laws.fronts_are_kept.Goals as goal

pub returns : goal.returns
returns c = record {
  first = stay_first;
  taken = stay_taken;
  put_back = stay_before;
  gone = passed_gone;
}
