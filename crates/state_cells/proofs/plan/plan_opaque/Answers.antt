use Rattle.state_cells.specs.Groups.{group_of, jobs_of}
use Rattle.state_cells.proofs.PlanLemmas.{known_by_jobs, plan_of_all}
use Rattle.state_cells.proofs.RestoreLemmas.{all_apart, all_at}
use Rattle.state_cells.proofs.plan.plan_opaque.Goals as goal

pub returns-clause-plan : goal.returns-clause-plan
returns-clause-plan g c = λ cells told.
    let groups = c.args.groups.now in
    let restores = c.in_ok-restores.restores.items in
    let is = c.in_ok-restores.ensures in
    plan_of_all c.args.txid c.in-Ok.found.is_newest cells (jobs_of groups restores) c.in-Ok.found.keys.items (group_of groups)
    (all_apart groups restores c.in-Ok.found.keys.items is c.requires.apart) (all_at groups restores c.in-Ok.found.keys.items is)
    (rw (← c.in-Ok.ensures.txid) (c.in-Ok.ensures.knows cells told))

pub returns-clause-known : goal.returns-clause-known
returns-clause-known g c = λ cells told.
    let groups = c.args.groups.now in
    let restores = c.in_ok-restores.restores.items in
    let is = c.in_ok-restores.ensures in
    known_by_jobs c.args.txid c.in-Ok.found.is_newest cells (jobs_of groups restores) c.in-Ok.found.keys.items (group_of groups)
    (all_apart groups restores c.in-Ok.found.keys.items is c.requires.apart) (all_at groups restores c.in-Ok.found.keys.items is)
    (rw (← c.in-Ok.ensures.txid) (c.in-Ok.ensures.knows cells told))
