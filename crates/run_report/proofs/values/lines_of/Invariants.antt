use Rattle.std.proofs.Common.{map, take}
use Rattle.report_lines.specs.Told.{attempt_told}
use Rattle.run_report.specs.Fated.{AreLinesOf}
use Rattle.run_report.proofs.values.lines_of.Given as goal

abbrev pub invariant-loop-attempt : goal.invariant-loop-attempt
invariant-loop-attempt l = AreLinesOf l.plan (take l.attempt-index l.fates) (map attempt_told l.lines)
