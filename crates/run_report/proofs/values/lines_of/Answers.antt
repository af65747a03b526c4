use Rattle.std.proofs.Common.{rules, ◌≡◌, [], ◌∷◌, ◌++◌, map, sym, subst}
use Rattle.report_lines.specs.Told.{attempt_told}
use Rattle.run_report.specs.Fated.{AreLinesOf}
use Rattle.run_report.proofs.Lines.{told_more}
use Rattle.run_report.proofs.values.lines_of.Goals as goal

pub loop-attempt-preserved : goal.loop-attempt-preserved
loop-attempt-preserved c =
    told_more _ c.args.fates.now c.loop-attempt.attempt-index c.attempt-item.result _ _ _ (search rules) c.attempt-item.is c.loop-attempt.invariant c.in_ok-line_of.ensures (search rules)
