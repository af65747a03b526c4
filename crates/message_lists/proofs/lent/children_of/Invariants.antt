use Rattle.std.proofs.Common.{◌≡◌, take}
use Rattle.message_lists.specs.Packed.{children_from}
use Rattle.message_lists.proofs.lent.children_of.Given as goal

abbrev pub invariant-loop-number : goal.invariant-loop-number
invariant-loop-number l = l.made ≡ children_from l.path 0 (take l.number l.ids)
