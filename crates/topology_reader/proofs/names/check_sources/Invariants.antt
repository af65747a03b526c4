use Rattle.std.proofs.Common.{◌≡◌, map, drop}
use Rattle.topology_reader.proofs.Common.{first_some, components_of, nameless_fault}
use Rattle.topology_reader.proofs.names.check_sources.Given as goal

abbrev pub invariant-loop-c : goal.invariant-loop-c
invariant-loop-c l = first_some (map (nameless_fault l.sources) (drop l.c (components_of l.sources))) ≡ first_some (map (nameless_fault l.sources) (components_of l.sources))
