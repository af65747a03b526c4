use Rattle.topology_reader.proofs.wiring.Wiring.of.Goals as goal

pub invariant_of-result : goal.invariant_of-result
invariant_of-result c = (c.in_ok-graph.ensures.value, c.in_ok-fields.ensures, c.requires.range, c.requires.acyclic)
