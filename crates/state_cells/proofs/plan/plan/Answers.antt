use Rattle.state_cells.specs.Groups.{group_of, jobs_of}
use Rattle.state_cells.proofs.PlanLemmas.{plan_of_written}
use Rattle.state_cells.proofs.RestoreLemmas.{written_apart, written_at}
use Rattle.state_cells.proofs.plan.plan.Goals as goal

pub returns-in-Transactional-clause-plan : goal.returns-in-Transactional-clause-plan
returns-in-Transactional-clause-plan g c = λ cells told.
    let groups = c.args.groups.now in
    rw c.in-Transactional.is
    (plan_of_written c.args.batch.root.txid cells (jobs_of groups c.new.result.items) (group_of groups)
    (written_apart groups c.new.result.items c.new.ensures.items c.requires.apart) (written_at groups c.new.result.items c.new.ensures.items))
