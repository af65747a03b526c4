use Rattle.std.proofs.Common.{◌-◌}
use Rattle.commit_order.specs.Orders.{Fills, plan_of}
use Rattle.commit_order.proofs.coordinator.Coordinator.fill.Given as goal

abbrev pub invariant-loop : goal.invariant-loop
invariant-loop g l = Fills g.I.Ids.tells l.shut (plan_of l.fn.self).pending ((plan_of l.fn.self).pending - l.counter) l.fn.self l.self l.parcels
