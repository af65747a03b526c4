-- A maker of stores in memory.
use Rattle.std.specs.Prelude.{ℕ, ◌≡◌, ◌==◌, ◌&&◌, Bool, true, false, List, [], Option, Some, None, find}
use Rattle.storm_stores.specs.CellMaps.{CellMap, InKeyOrder}
use Rattle.storm_stores.specs.MemoryStore.{StoreState, store_of}
use Rattle.storm_stores.specs.declared.memory_maker.Slot.{Slot}

-- the places of the parts, and how often the stores have failed that came back
pub record MakerState : Type 0 where
  pub slots : List Slot
  pub faults : ℕ

abbrev pub no_parts : MakerState
no_parts = record { slots = []; faults = 0 }

-- the place is that of the part
abbrev pub is_slot : ℕ → ℕ → Slot → Bool
is_slot component part slot = (slot.component == component) && (slot.part == part)

-- the place of a part, if it has one
abbrev pub slot_of : List Slot → ℕ → ℕ → Option Slot
slot_of slots component part = find (is_slot component part) slots

-- the store in a place: an empty one where there is no place yet
abbrev pub store_in : Option Slot → StoreState
store_in None = store_of []
store_in (Some slot) = slot.store

abbrev pub made_in : Option Slot → Bool
made_in None = false
made_in (Some slot) = slot.made

-- the store that lies here for a part
abbrev pub store_at : List Slot → ℕ → ℕ → StoreState
store_at slots component part = store_in (slot_of slots component part)

-- whether a store was made for a part
abbrev pub made_at : List Slot → ℕ → ℕ → Bool
made_at slots component part = made_in (slot_of slots component part)

-- the cells that are held for a part, their keys in order
abbrev pub HoldsFor : MakerState → ℕ → ℕ → CellMap → Type 0
HoldsFor maker component part cells =
    (cells ≡ (store_at maker.slots component part).cells) × InKeyOrder cells

abbrev pub HasMade : MakerState → ℕ → ℕ → Type 0
HasMade maker component part = made_at maker.slots component part ≡ true

-- it is another part
abbrev pub IsOther : ℕ → ℕ → ℕ → ℕ → Type 0
IsOther component part c p = (c ≡ component) × (p ≡ part) → ⊥

-- every part has the same store, and was made or not as before
pub record SameParts (old new : List Slot) : Type 0 where
  pub stores : (c p : ℕ) → store_at new c p ≡ store_at old c p
  pub made : (c p : ℕ) → made_at new c p ≡ made_at old c p

-- one part has this store now, every other part what it had
pub record ChangesPart (old new : List Slot) (component part : ℕ) (store : StoreState)
    (made : Bool) : Type 0 where
  pub store_is : store_at new component part ≡ store
  pub made_is : made_at new component part ≡ made
  pub other_stores : (c p : ℕ) → IsOther component part c p → store_at new c p ≡ store_at old c p
  pub other_made : (c p : ℕ) → IsOther component part c p → made_at new c p ≡ made_at old c p
