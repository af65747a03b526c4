use Rattle.std.proofs.Common.{◌≡◌, map, drop}
use Rattle.topology_reader.proofs.Common.{first_some, component_fault, fields_fault}
use Rattle.topology_reader.proofs.fields_fault.check_fields.Given as goal

abbrev pub invariant-loop-c : goal.invariant-loop-c
invariant-loop-c l = first_some (map (component_fault l.wiring) (drop l.c-index l.c-items)) ≡ fields_fault l.wiring
