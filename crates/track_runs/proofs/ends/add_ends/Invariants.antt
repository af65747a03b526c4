use Rattle.std.proofs.Common.{◌≡◌, ◌++◌, take}
use Rattle.track_runs.proofs.ends.add_ends.Given as goal

abbrev pub invariant-loop-end : goal.invariant-loop-end
invariant-loop-end l = l.ends.items ≡ l.fn.ends.items ++ take l.end-index l.more
