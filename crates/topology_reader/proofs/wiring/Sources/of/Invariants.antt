use Rattle.topology_reader.proofs.IndexLemmas.{HoldsFrom}
use Rattle.topology_reader.proofs.wiring.Sources.of.Given as goal

abbrev pub invariant-loop-i : goal.invariant-loop-i
invariant-loop-i l = HoldsFrom l.parts.bolts l.i l.by_name
