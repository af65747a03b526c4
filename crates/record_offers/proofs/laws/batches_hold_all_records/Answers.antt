use Rattle.record_offers.proofs.BatchLemmas.{enough, least, there}
use Rattle.record_offers.proofs.laws.batches_hold_all_records.Goals as goal

pub returns : goal.returns
returns c = record { enough = enough; least = least; there = there }
