use Rattle.std.proofs.Common.{rules, subst}
use Rattle.acker_core.specs.Check.{IsCheckOf}
use Rattle.run_report.proofs.Lines.{none_open}
use Rattle.run_report.proofs.values.open_edges.Goals as goal

pub returns-in-Closed : goal.returns-in-Closed
returns-in-Closed c = none_open _ _ (search rules) (subst (IsCheckOf c.args.list.now) c.in-Closed.is c.in_ok-check_list.ensures).0
