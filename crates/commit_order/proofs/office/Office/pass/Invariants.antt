use Rattle.std.proofs.Common.{◌-◌}
use Rattle.commit_order.specs.Offices.{Passes}
use Rattle.commit_order.proofs.office.Office.pass.Given as goal

abbrev pub invariant-loop : goal.invariant-loop
invariant-loop l = Passes l.ticks (l.ticks - l.counter) l.fn.self l.self l.fn.fates l.fates
