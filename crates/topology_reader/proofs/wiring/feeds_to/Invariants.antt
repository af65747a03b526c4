use Rattle.std.proofs.Common.{◌≡◌, take}
use Rattle.topology_reader.proofs.Common.{feeds_of}
use Rattle.topology_reader.proofs.wiring.feeds_to.Given as goal

abbrev pub invariant-loop-input : goal.invariant-loop-input
invariant-loop-input l = l.feeds.items ≡ feeds_of l.sources l.part.tasks (take l.input-index l.input-items)
