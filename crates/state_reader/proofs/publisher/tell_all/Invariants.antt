use Rattle.std.proofs.Common.{◌≡◌, length, take}
use Rattle.state_reader.specs.Lists.{shown_by_each}
use Rattle.state_reader.specs.Pairs.{told_by_each}
use Rattle.state_reader.proofs.publisher.tell_all.Given as goal

abbrev pub invariant-loop-place : goal.invariant-loop-place
invariant-loop-place l =
    (shown_by_each l.pairs.items ≡ shown_by_each l.initial.pairs.items)
    × (length l.pairs.items ≡ length l.initial.pairs.items)
    × (told_by_each l.notes.items ≡ take l.place (shown_by_each l.initial.pairs.items))
