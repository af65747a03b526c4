use Rattle.std.proofs.Common.{append_assoc}
use Rattle.report_lines.specs.steps.Printed.{heading_text}
use Rattle.report_lines.proofs.printed.push_attempt.Goals as goal

pub returns : goal.returns
unfolding heading_text
returns c =
    rw (c.in_ok-writeln.ensures.bytes, c.in_ok-push_end.ensures, c.in_ok-push_heading.ensures) (simp append_assoc)
