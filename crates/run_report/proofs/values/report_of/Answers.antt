use Rattle.std.proofs.Common.{refl}
use Rattle.run_report.proofs.Lines.{value_made}
use Rattle.run_report.proofs.values.report_of.Goals as goal

pub returns : goal.returns
returns c = value_made _ _ _ _ _ c.in_ok-lines.ensures c.in_ok-cells.ensures refl
