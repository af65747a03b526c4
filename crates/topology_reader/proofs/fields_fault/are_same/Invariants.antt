use Rattle.std.proofs.Common.{◌≡◌, drop}
use Rattle.topology_reader.proofs.Common.{pointwise, bytes_eq}
use Rattle.topology_reader.proofs.fields_fault.are_same.Given as goal

abbrev pub invariant-loop-i : goal.invariant-loop-i
invariant-loop-i l = pointwise bytes_eq (drop l.i l.a) (drop l.i l.b) ≡ pointwise bytes_eq l.a l.b
