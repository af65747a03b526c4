use Rattle.taken_records.proofs.Fronting.{offered_left}
use Rattle.taken_records.proofs.Taking.{first_taken, once_at_most, one_back, one_moved, one_taken}
use Rattle.taken_records.proofs.laws.records_are_taken_once.Goals as goal

pub returns : goal.returns
returns c = record {
  first = first_taken;
  taken = one_taken;
  free = λ size partitions shut n gone. offered_left size partitions shut gone n;
  put_back = one_back;
  moved = one_moved;
  apart = once_at_most;
}
