use Rattle.std.proofs.Common.{◌≡◌, length}
use Rattle.state_reader.specs.Lists.{shown_by_each}
use Rattle.state_reader.proofs.Several.{spread}
use Rattle.state_reader.proofs.publisher.publish_all.Given as goal

abbrev pub invariant-loop-place : goal.invariant-loop-place
invariant-loop-place g l =
    (shown_by_each l.pairs.items ≡ spread l.commit l.place (shown_by_each l.initial.pairs.items))
    × (length l.pairs.items ≡ length l.initial.pairs.items)
