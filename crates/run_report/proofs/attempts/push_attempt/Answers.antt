use Rattle.run_report.proofs.Lines.{adds_line}
use Rattle.run_report.proofs.attempts.push_attempt.Goals as goal

pub returns : goal.returns
returns c =
    adds_line _ _ _ _ _ _ c.in_ok-push_heading.ensures c.in_ok-push_end.ensures c.in_ok-writeln.ensures.bytes
