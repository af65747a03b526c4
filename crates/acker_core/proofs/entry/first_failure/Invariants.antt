use Rattle.std.proofs.Common.{◌≡◌, drop}
use Rattle.acker_core.specs.Entries.{first_failed}
use Rattle.acker_core.proofs.entry.first_failure.Given as goal

abbrev pub invariant-loop-at : goal.invariant-loop-at
invariant-loop-at l = first_failed (drop l.at l.list) ≡ first_failed l.list
