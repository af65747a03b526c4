use Rattle.std.proofs.Common.{◌≡◌, take}
use Rattle.message_lists.proofs.packed.Notes.to_messages.Given as goal

abbrev pub invariant-loop-at : goal.invariant-loop-at
invariant-loop-at l = l.made ≡ take l.at l.self
