use Rattle.std.proofs.Common.{◌≡◌, ◌+◌, Some}
use Rattle.kept_commit_tests.proofs.steps.check_steps.Given as goal

abbrev pub invariant-loop-step : goal.invariant-loop-step
invariant-loop-step l = Some (l.kept.meta.txid + 1) ≡ Some l.next
