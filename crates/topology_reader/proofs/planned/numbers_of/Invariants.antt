use Rattle.std.proofs.Common.{◌≡◌, take}
use Rattle.topology_reader.proofs.Common.{numbers_of}
use Rattle.topology_reader.proofs.planned.numbers_of.Given as goal

abbrev pub invariant-loop-name : goal.invariant-loop-name
invariant-loop-name l = l.numbers.items ≡ numbers_of l.fields (take l.name-index l.names)
