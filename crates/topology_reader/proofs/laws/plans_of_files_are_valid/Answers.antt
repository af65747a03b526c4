use Rattle.topology_reader.proofs.FilePlans.{plan_is_valid, said_is_valid}
use Rattle.topology_reader.proofs.NoFault.{none_exactly_valid}
use Rattle.topology_reader.proofs.Common.{in_range}
use Rattle.topology_reader.proofs.laws.plans_of_files_are_valid.Goals as goal

pub returns : goal.returns
returns c = record {
  valid = λ bytes t is. (plan_is_valid bytes t is).0;
  wired = λ bytes t is. (plan_is_valid bytes t is).1;
  said = said_is_valid;
  range = in_range;
  exactly = none_exactly_valid;
}
