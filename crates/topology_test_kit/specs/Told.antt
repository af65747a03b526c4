-- What a table of tests says of a file.
use Rattle.std.specs.Prelude.{ℕ, List, Option, Some, None, codes}
use Rattle.topology_reader.specs.TopoFault.{TopoFault}
use Rattle.topology_reader.specs.Faults.{fault_text}

-- the text of the first fault, or that there is none
abbrev pub told_of : Option TopoFault → List ℕ
told_of None = codes "no fault"
told_of (Some fault) = fault_text fault
