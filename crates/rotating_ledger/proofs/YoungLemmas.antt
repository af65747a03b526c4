-- Ages of what buckets hold.
use Rattle.std.proofs.Common.{◌<◌, ◌≤◌, ℕ, List, [], ◌∷◌, ◌++◌, length, arith}
use Rattle.rotating_ledger.specs.Held.{Held, AreYoung}
use Rattle.rotating_ledger.specs.Slots.{held_in, held_of}
use Rattle.rotating_ledger.specs.declared.bucket.Bucket.{Bucket}
use Rattle.rotating_ledger.specs.declared.slot.Slot.{Slot}
use Rattle.rotating_ledger.specs.declared.slot.Slot.TheVariants.{Full, Empty}

module _ {V : Type 0} (n : ℕ) where
  young-append : (xs ys : List (Held V)) → AreYoung n xs → AreYoung n ys → AreYoung n (xs ++ ys)
  young-append [] ys young later = later
  young-append (x ∷ xs) ys young later = (young.0, young-append xs ys young.1 later)

  young-in : (age : ℕ) (ss : List (Slot V)) → age < n → AreYoung n (held_in age ss)
  young-in age [] below = tt
  young-in age (Empty ∷ ss) below = young-in age ss below
  young-in age (Full root value ∷ ss) below = (below, young-in age ss below)

  -- a bucket is as old as there are buckets after it
  pub young-of : (bs : List (Bucket V)) → length bs ≤ n → AreYoung n (held_of bs)
  young-of [] few = tt
  young-of (b ∷ bs) few =
      young-append (held_in (length bs) b.slots.items) (held_of bs) (young-in (length bs) b.slots.items (omega arith)) (young-of bs (omega arith))
