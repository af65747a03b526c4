use Rattle.taken_records.proofs.Starting.{start_after, start_fresh}
use Rattle.taken_records.proofs.laws.possible_starts_are_starts.Goals as goal

pub returns-clause-fresh : goal.returns-clause-fresh
returns-clause-fresh c = start_fresh

pub returns-clause-after : goal.returns-clause-after
returns-clause-after c = λ records size partitions txid spans marks some last possible marked. start_after records size partitions txid spans marks some last possible marked
