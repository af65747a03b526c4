use Rattle.std.proofs.Common.{take, string_bytes}
use Rattle.run_report.specs.Steps.{AddsLines}
use Rattle.run_report.proofs.attempts.push_attempts.Given as goal

abbrev pub invariant-loop-attempt : goal.invariant-loop-attempt
invariant-loop-attempt l =
    AddsLines l.plan (take l.attempt-index l.fates) (string_bytes l.fn.text) (string_bytes l.text)
