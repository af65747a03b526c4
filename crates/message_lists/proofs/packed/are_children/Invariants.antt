use Rattle.std.proofs.Common.{◌≡◌, drop}
use Rattle.message_lists.specs.Packed.{children_from, ids_in}
use Rattle.message_lists.proofs.packed.are_children.Given as goal

abbrev pub invariant-loop-number : goal.invariant-loop-number
invariant-loop-number l =
    drop l.number l.edges ≡ children_from l.path l.number (ids_in (drop l.number l.edges))
    → l.edges ≡ children_from l.path 0 (ids_in l.edges)
