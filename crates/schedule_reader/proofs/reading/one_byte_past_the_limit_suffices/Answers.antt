use Rattle.schedule_reader.proofs.ScheduleLemmas.{schedule_fault-take, events_of-take}
use Rattle.schedule_reader.proofs.reading.one_byte_past_the_limit_suffices.Goals as goal

pub returns-clause-fault : goal.returns-clause-fault
returns-clause-fault c = schedule_fault-take

pub returns-clause-events : goal.returns-clause-events
returns-clause-events c = events_of-take
