use Rattle.std.proofs.Common.{◌≡◌, drop, is_none}
use Rattle.std.specs.List.{find}
use Rattle.topology_reader.proofs.Common.{Input, source_of}
use Rattle.topology_reader.proofs.names.check_named.Given as goal

abbrev pub invariant-loop-input : goal.invariant-loop-input
invariant-loop-input l =
    find (λ (input : Input). is_none (source_of l.sources input.from)) (drop l.input-index l.input-items) ≡ find (λ (input : Input). is_none (source_of l.sources input.from)) l.part.inputs
