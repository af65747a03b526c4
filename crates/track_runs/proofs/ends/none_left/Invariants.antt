use Rattle.std.proofs.Common.{◌≡◌, replicate}
use Rattle.track_runs.specs.Steps.{gave_up}
use Rattle.track_runs.proofs.ends.none_left.Given as goal

abbrev pub invariant-loop : goal.invariant-loop
invariant-loop l = l.ends.items ≡ replicate l.counter (gave_up l.attempts)
