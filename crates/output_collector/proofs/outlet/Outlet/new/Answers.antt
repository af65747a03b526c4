use Rattle.std.proofs.Common.{sym, subst}
use Rattle.output_collector.specs.Outlets.{AreLanesOf}
use Rattle.output_collector.proofs.Lanes.{AreLanesOf-started}
use Rattle.output_collector.proofs.outlet.Outlet.new.Goals as goal

pub invariant_of-result : goal.invariant_of-result
invariant_of-result c =
    subst (AreLanesOf c.args.plan.now c.args.from) (sym c.in_ok-new.ensures.value) (AreLanesOf-started c.args.plan.now c.args.from c.args.starts.now c.requires)
