use Rattle.std.proofs.Common.{◌≡◌, ◌++◌, take}
use Rattle.message_lists.specs.Packed.{ids_in}
use Rattle.message_lists.proofs.packed.add_ids.Given as goal

abbrev pub invariant-loop-edge : goal.invariant-loop-edge
invariant-loop-edge l = l.into.items ≡ l.fn.into.items ++ ids_in (take l.edge-index l.edges)
