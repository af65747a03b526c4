use Rattle.std.proofs.Common.{◌≡◌, map, drop}
use Rattle.topology_reader.proofs.Common.{first_some, Input, again_fault, key_of}
use Rattle.topology_reader.proofs.names.check_component.Given as goal

abbrev pub invariant-loop-input : goal.invariant-loop-input
invariant-loop-input l =
    first_some (map (λ (input : Input). again_fault (key_of input.grouping)) (drop l.input-index l.inputs)) ≡ first_some (map (λ (input : Input). again_fault (key_of input.grouping)) l.inputs)
