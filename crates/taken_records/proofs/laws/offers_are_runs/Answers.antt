use Rattle.record_spans.proofs.RunLemmas.{one_list_of_runs}
use Rattle.record_offers.specs.Offers.{offered}
use Rattle.taken_records.specs.Taken.{runs_of}
use Rattle.taken_records.proofs.Running.{free_is_batch, offered_rises, one_batch, runs_are}
use Rattle.taken_records.proofs.laws.offers_are_runs.Goals as goal

pub returns : goal.returns
returns c = record {
  runs = λ state txid shut. runs_are (offered state txid shut) (offered_rises state txid shut);
  only = λ state txid shut spans are. one_list_of_runs (offered state txid shut) spans (runs_of (offered state txid shut)) are
      (runs_are (offered state txid shut) (offered_rises state txid shut));
  batch = one_batch;
  free = free_is_batch;
}
