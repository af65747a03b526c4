use Rattle.run_report.proofs.Lines.{lines_one}
use Rattle.run_report.proofs.laws.lines_are_one.Goals as goal

pub returns : goal.returns
returns c = lines_one
