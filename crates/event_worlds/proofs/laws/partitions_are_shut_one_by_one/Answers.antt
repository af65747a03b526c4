use Rattle.event_worlds.proofs.Shutting.{open-bit, shut-bit}
use Rattle.event_worlds.proofs.laws.partitions_are_shut_one_by_one.Goals as goal

pub returns-clause-shut : goal.returns-clause-shut
returns-clause-shut c = λ q r shut. shut-bit q shut r

pub returns-clause-opened : goal.returns-clause-opened
returns-clause-opened c = λ q r shut. open-bit q shut r
