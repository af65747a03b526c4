use Rattle.std.proofs.Common.{◌≡◌, ◌≤◌, ◌++◌, drop}
use Rattle.track_runs.specs.Steps.{merged}
use Rattle.track_runs.proofs.ends.merged.Given as goal

abbrev pub invariant-loop-is_acked : goal.invariant-loop-is_acked
invariant-loop-is_acked l = record {
  place : l.place ≤ l.is_acked-index;
  rest : l.ends.items ++ merged l.attempt (drop l.is_acked-index l.acked) (drop l.place l.later) ≡ merged l.attempt l.acked l.later;
}
