use Rattle.std.proofs.Common.{ap, [], length, refl}
use Rattle.batch_commits.proofs.Counting.{decided_counted, ended_counted, outcome_is}
use Rattle.batch_commits.proofs.Numbers.{part_stands}
use Rattle.batch_commits.proofs.Turning.{none_turned}
use Rattle.batch_commits.proofs.laws.failures_of_commits_are_counted.Goals as goal

pub returns-clause-counted : goal.returns-clause-counted
returns-clause-counted g c = λ t cut ended how list old new follow is. ended_counted g.C.CellStore.fault_count t cut ended [] how list old new follow is refl

pub returns-clause-decided : goal.returns-clause-decided
returns-clause-decided g c = λ t cut d w how old new next follow. decided_counted g.C.CellStore.fault_count t cut d w how old new next follow

pub returns-clause-outcome : goal.returns-clause-outcome
returns-clause-outcome g c = λ t how old new planned tells. outcome_is g.C.CellStore.fault_count t old new planned how tells

pub returns-clause-turn : goal.returns-clause-turn
returns-clause-turn g c = λ t cut d verdict ticks shut. ap length (none_turned t cut verdict ticks shut d)

pub returns-clause-part : goal.returns-clause-part
returns-clause-part g c = λ t parts component part planned is. part_stands t parts component part planned is
