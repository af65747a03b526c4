use Rattle.std.proofs.Common.{rules}
use Rattle.run_report.proofs.Lines.{adds_more}
use Rattle.run_report.proofs.attempts.push_attempts.Goals as goal

pub loop-attempt-preserved : goal.loop-attempt-preserved
loop-attempt-preserved c =
    adds_more _ c.args.fates.now c.loop-attempt.attempt-index c.attempt-item.result _ _ _ (search rules) c.attempt-item.is c.loop-attempt.invariant c.in_ok-push_attempt.ensures
