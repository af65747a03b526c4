use Rattle.std.proofs.Common.{subst}
use Rattle.acker_core.specs.Check.{IsCheckOf}
use Rattle.run_report.proofs.Lines.{adds_nothing}
use Rattle.run_report.proofs.edges.push_open.Goals as goal

pub returns-in-Closed : goal.returns-in-Closed
returns-in-Closed c = adds_nothing _ _ (subst (IsCheckOf c.args.list.now) c.in-Closed.is c.in_ok-check_list.ensures).0
