use Rattle.storm_values.proofs.InputLemmas.{input_fault-take, records_of-take}
use Rattle.storm_values.proofs.lines.one_byte_past_the_limit_suffices.Goals as goal

pub returns-clause-fault : goal.returns-clause-fault
returns-clause-fault c = input_fault-take

pub returns-clause-records : goal.returns-clause-records
returns-clause-records c = records_of-take
