use Rattle.std.proofs.Common.{◌≡◌, ◌++◌, drop}
use Rattle.commit_order.proofs.writes.add_copies.Given as goal

abbrev pub invariant-loop-write : goal.invariant-loop-write
invariant-loop-write l = l.into ++ drop l.write-index l.fn.writes ≡ l.fn.into ++ l.fn.writes
