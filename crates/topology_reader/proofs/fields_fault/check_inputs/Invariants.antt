use Rattle.std.proofs.Common.{◌≡◌, map, drop}
use Rattle.topology_reader.proofs.Common.{first_some, input_fault}
use Rattle.topology_reader.proofs.fields_fault.check_inputs.Given as goal

abbrev pub invariant-loop-input : goal.invariant-loop-input
invariant-loop-input l = first_some (map (input_fault l.wiring l.c) (drop l.input-index l.inputs)) ≡ first_some (map (input_fault l.wiring l.c) l.inputs)
