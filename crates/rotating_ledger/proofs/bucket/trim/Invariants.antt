use Rattle.std.proofs.Common.{vec_len}
use Rattle.rotating_ledger.specs.Slots.{Trims}
use Rattle.rotating_ledger.proofs.bucket.trim.Given as goal

abbrev pub invariant-loop-slots : goal.invariant-loop-slots
invariant-loop-slots g l = Trims l.fn.slots.items l.slots.items

abbrev pub decreases-loop-slots : goal.decreases-loop-slots
decreases-loop-slots g l = vec_len l.slots
