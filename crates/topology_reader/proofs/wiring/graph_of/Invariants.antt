use Rattle.std.proofs.Common.{◌≡◌, map, take}
use Rattle.topology_reader.proofs.Common.{components_of, ComponentPart, feeds_of}
use Rattle.topology_reader.proofs.wiring.graph_of.Given as goal

abbrev pub invariant-loop-c : goal.invariant-loop-c
invariant-loop-c l = l.graph.items ≡ map (λ (part : ComponentPart). feeds_of l.sources part.tasks part.inputs) (take l.c (components_of l.sources))
