use Rattle.std.proofs.Common.{◌≡◌, not, drop}
use Rattle.std.specs.List.{find}
use Rattle.topology_reader.proofs.Common.{is_among, fields_to}
use Rattle.topology_reader.proofs.fields_fault.check_there.Given as goal

abbrev pub invariant-loop-name : goal.invariant-loop-name
invariant-loop-name l =
    find (λ name. not (is_among (fields_to l.wiring l.c) name)) (drop l.name-index l.names) ≡ find (λ name. not (is_among (fields_to l.wiring l.c) name)) l.names
