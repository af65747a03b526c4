use Rattle.topology_reader.proofs.FilePlans.{plan_of_front, refused_by_front, fault_of_whole}
use Rattle.topology_reader.proofs.laws.first_bytes_decide.Goals as goal

pub returns : goal.returns
returns c = record {
  plan = plan_of_front;
  fault = λ bytes fault refused. let alike = refused_by_front bytes fault refused in (alike.told, alike.is_first, alike.alike);
  fault_of_whole = fault_of_whole;
}
