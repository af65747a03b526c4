use Rattle.topology_plan.proofs.Plans.{last_task_of}
use Rattle.topology_plan.proofs.plan.Plan.component.Goals as goal

pub returns-clause-last : goal.returns-clause-last
returns-clause-last c = last_task_of _ c.args.self.now c.args.c c.index.result.now c.self.invariant.wired c.self.view_is c.requires c.index.ensures
