use Rattle.std.proofs.Common.{◌≡◌, [], replicate}
use Rattle.topology_reader.proofs.Common.{items_by}
use Rattle.topology_reader.proofs.planned.no_subs.Given as goal

abbrev pub invariant-loop-c : goal.invariant-loop-c
invariant-loop-c l = items_by l.subs.items ≡ replicate l._c []
