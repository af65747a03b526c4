use Rattle.schedule_reader.proofs.EventLemmas.{read_of_said, said_of_read}
use Rattle.schedule_reader.proofs.event.lines_say_their_events.Goals as goal

pub returns-clause-read : goal.returns-clause-read
returns-clause-read c = read_of_said

pub returns-clause-said : goal.returns-clause-said
returns-clause-said c = said_of_read
