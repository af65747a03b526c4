use Rattle.std.proofs.Common.{arith}
use Rattle.output_collector.proofs.Lanes.{few_subs, length-subs}
use Rattle.output_collector.proofs.outlet.Outlet.subs_len.Goals as goal

pub overflow_cast-result : goal.overflow_cast-result
overflow_cast-result c =
    let few = few_subs c.self.inside.plan.now c.self.inside.from c.facts.ensures.valid c.facts.ensures.wired in
    omega (arith, length-subs c.self.inside.plan.now c.self.inside.from c.self.inside.router c.self.invariant)
