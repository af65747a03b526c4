use Rattle.topology_plan.proofs.Plans.{targets_of}
use Rattle.topology_plan.proofs.Widths.{as_wide_of}
use Rattle.topology_plan.proofs.plan.Plan.subs.Goals as goal

pub returns-clause-targets : goal.returns-clause-targets
returns-clause-targets c = targets_of _ _ c.args.from _ c.self.invariant.valid c.self.view_is c.subs_from.ensures

pub returns-clause-widths : goal.returns-clause-widths
returns-clause-widths c = as_wide_of _ _ c.args.from _ c.self.invariant.valid c.self.invariant.wired c.self.view_is c.subs_from.ensures
