use Rattle.topology_reader.proofs.Common.{AreReached}
use Rattle.topology_reader.proofs.cycles.reach_sets.Given as goal

abbrev pub invariant-loop-n : goal.invariant-loop-n
invariant-loop-n l = AreReached l.n l.sources l.sets.items
