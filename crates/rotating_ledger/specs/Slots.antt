-- How the values lie in buckets. No public clause cites this module.
use Rattle.std.specs.Prelude.{◌≡◌, ℕ, ◌+◌, ◌==◌, ◌&&◌, Bool, Option, None, Some, List, [], ◌∷◌, ◌++◌, length, slice_get}
use Rattle.std.specs.HashMap.{HashMap, get}
use Rattle.std.specs.declared.hash.FoldHasher.{FoldHasher}
use Rattle.std.specs.declared.hash.BuildHasherDefault.{BuildHasherDefault}
use Rattle.storm_values.specs.declared.value.Root.{Root}
use Rattle.rotating_ledger.specs.Held.{Held}
use Rattle.rotating_ledger.specs.declared.bucket.Bucket.{Bucket}
use Rattle.rotating_ledger.specs.declared.key.Key.{Key}
use Rattle.rotating_ledger.specs.declared.slot.Slot.{Slot}
use Rattle.rotating_ledger.specs.declared.slot.Slot.TheVariants.{Full, Empty}

-- a root as a key of a map
abbrev pub key_of : Root → Key
key_of root = record { txid = root.txid; attempt = root.attempt }

abbrev pub key_eq : Key → Key → Bool
key_eq a b = (a.txid == b.txid) && (a.attempt == b.attempt)

-- where the value of each root lies
abbrev pub Places : Type 0
Places = HashMap Key ℕ (BuildHasherDefault FoldHasher)

abbrev pub slot_at : Places → Root → Option ℕ
slot_at places root = get key_eq places (key_of root)

-- this bucket and the slot in it, where there is one, and else what comes later
abbrev pub found_or : Option ℕ → ℕ → Option (ℕ × ℕ) → Option (ℕ × ℕ)
found_or None bucket later = later
found_or (Some slot) bucket later = Some (bucket, slot)

module _ {V : Type 0} where
  -- what slots hold, at one age
  abbrev pub held_in : ℕ → List (Slot V) → List (Held V)
  held_in age [] = []
  held_in age (Empty ∷ ss) = held_in age ss
  held_in age (Full root value ∷ ss) =
      record { root = root; age = age; value = value } ∷ held_in age ss

  -- the roots and values of slots
  abbrev pub pairs_in : List (Slot V) → List (Root × V)
  pairs_in [] = []
  pairs_in (Empty ∷ ss) = pairs_in ss
  pairs_in (Full root value ∷ ss) = (root, value) ∷ pairs_in ss

  -- the value in a slot, if there is one
  abbrev pub value_in : Slot V → Option V
  value_in Empty = None
  value_in (Full root value) = Some value

  -- a slot with another value
  abbrev pub refilled : Slot V → V → Slot V
  refilled Empty value = Empty
  refilled (Full root old) value = Full root value

  -- each root is found exactly where its value lies
  pub record AreFound (places : Places) (slots : List (Slot V)) : Type 0 where
    pub found : (root : Root) (value : V) (i : ℕ) → slice_get slots i ≡ Some (Full root value)
        → slot_at places root ≡ Some i
    pub there : (root : Root) (i : ℕ) → slot_at places root ≡ Some i
        → (value : V) × (slice_get slots i ≡ Some (Full root value))

  -- this slot of a bucket has the value of the root
  abbrev pub HasAt : Bucket V → ℕ → Root → Type 0
  HasAt bucket slot root =
      (value : V) × (slice_get bucket.slots.items slot ≡ Some (Full root value))

  -- without some empty slots at the end
  pub record Trims (old new : List (Slot V)) : Type 0 where
    pub rest : List (Slot V)
    pub split : old ≡ new ++ rest
    pub silent : held_in 0 rest ≡ []

  -- what buckets hold, the oldest bucket first
  abbrev pub held_of : List (Bucket V) → List (Held V)
  held_of [] = []
  held_of (b ∷ bs) = held_in (length bs) b.slots.items ++ held_of bs

  -- each bucket finds its roots
  abbrev pub AllFound : List (Bucket V) → Type 0
  AllFound [] = Unit {0}
  AllFound (b ∷ bs) = AreFound b.places b.slots.items × AllFound bs

  -- the first bucket that has a root, and its slot there, where the first bucket has this number
  abbrev pub place_from : ℕ → Root → List (Bucket V) → Option (ℕ × ℕ)
  place_from i root [] = None
  place_from i root (b ∷ bs) = found_or (slot_at b.places root) i (place_from (i + 1) root bs)
