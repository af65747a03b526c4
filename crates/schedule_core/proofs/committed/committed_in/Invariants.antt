use Rattle.std.proofs.Common.{◌≡◌, ◌+◌, ◌≤◌, drop, length}
use Rattle.event_worlds.specs.attempt_fates.Fates.{committed}
use Rattle.schedule_core.proofs.committed.committed_in.Given as goal

abbrev pub invariant-loop-attempt : goal.invariant-loop-attempt
invariant-loop-attempt l = record {
  few : l.count ≤ l.attempt-index;
  rest : l.count + length (committed (drop l.attempt-index l.fates)) ≡ length (committed l.fates);
}
