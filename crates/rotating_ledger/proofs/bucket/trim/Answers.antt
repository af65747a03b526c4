use Rattle.std.proofs.Common.{◌≡◌, Some, rules}
use Rattle.rotating_ledger.specs.declared.slot.Slot.TheVariants.{Empty}
use Rattle.rotating_ledger.proofs.SlotLemmas.{trims-none, trims-more}
use Rattle.rotating_ledger.proofs.bucket.trim.Goals as goal

pub loop-slots-init : goal.loop-slots-init
loop-slots-init g c = trims-none _

pub loop-slots-preserved : goal.loop-slots-preserved
loop-slots-preserved g c =
    let popped : c.pop.result ≡ Some Empty = search rules in
    let split = rw popped at c.pop.ensures.items in
    trims-more _ _ (rw split at c.loop-slots.invariant)
