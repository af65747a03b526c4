use Rattle.load_source.proofs.Known.{no_fault, width_known, batch_known, buckets_known, attempts_known}
use Rattle.load_source.proofs.laws.load_file_is_fit.Goals as goal

pub returns : goal.returns
returns c = record {
  no_fault = no_fault;
  width = width_known;
  batch = batch_known;
  buckets = buckets_known;
  attempts = attempts_known;
}
