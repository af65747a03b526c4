use Rattle.report_lines.proofs.ReadingLemmas.{read_as}
use Rattle.report_lines.proofs.reading.read_report.Goals as goal

pub returns-clause-only : goal.returns-clause-only
returns-clause-only c =
    read_as c.args.bytes.now c.report_of_lines.result c.report_of_lines.ensures.good c.report_of_lines.ensures.fault
