use Rattle.std.proofs.Common.{◌≡◌, map, drop}
use Rattle.topology_reader.proofs.Common.{first_some, components_of, component_twice}
use Rattle.topology_reader.proofs.names.check_components.Given as goal

abbrev pub invariant-loop-c : goal.invariant-loop-c
invariant-loop-c l = first_some (map component_twice (drop l.c (components_of l.sources))) ≡ first_some (map component_twice (components_of l.sources))
