use Rattle.storm_answers.proofs.FileLemmas.{accepted_by_front, topology_refused}
use Rattle.storm_answers.proofs.files.read_plan.Goals as goal

pub returns-in-Ok-clause-plan : goal.returns-in-Ok-clause-plan
returns-in-Ok-clause-plan g c = accepted_by_front _ _ _ _ _ c.in_ok-bytes.ensures.bytes c.as_slice.ensures c.in-Ok.ensures.plan

pub returns-clause-stop : goal.returns-clause-stop
returns-clause-stop g c =
    topology_refused _ _ _ _ _ c.refused_topology.result c.in_ok-bytes.ensures.bytes c.as_slice.ensures c.in-Err.ensures.fault c.in_ok-bytes.ensures.fetches c.refused_topology.ensures
