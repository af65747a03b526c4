-- What a bucket ends as, where a `&mut` to a value in it is returned. No public
-- clause cites this module.
use Rattle.std.specs.Prelude.{ℕ, slice_index_or}
use Rattle.std.specs.Vec.{with_item}
use Rattle.rotating_ledger.specs.Slots.{refilled}
use Rattle.rotating_ledger.specs.declared.bucket.Bucket.{Bucket}
use Rattle.rotating_ledger.specs.declared.slot.Slot.{Slot}
use Rattle.rotating_ledger.specs.declared.slot.Slot.TheVariants.{Empty}

-- a bucket with another slot
abbrev pub put_slot : {V : Type 0} → Bucket V → ℕ → Slot V → Bucket V
put_slot b i slot = record b { slots = with_item b.slots i slot }

-- a bucket with another value in a slot
abbrev pub with_slot : {V : Type 0} → Bucket V → ℕ → V → Bucket V
with_slot b i value = put_slot b i (refilled (slice_index_or b.slots.items i Empty) value)
