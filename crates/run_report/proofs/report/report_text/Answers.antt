use Rattle.run_report.proofs.Lines.{report_made}
use Rattle.run_report.proofs.report.report_text.Goals as goal

pub returns : goal.returns
returns c =
    report_made _ _ _ _ _ _ _ _ c.new-text.ensures.bytes c.in_ok-push_attempts.ensures c.in_ok-push_cells.ensures c.in_ok-push_tail.ensures
