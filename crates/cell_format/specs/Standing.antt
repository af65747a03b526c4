-- When the map of a part stands at a number of commits. This project's own.
use Rattle.std.specs.Prelude.{◌≡◌, ◌≢◌, ◌≤◌, ◌+◌, ◌%◌, ◌⊎◌, ℕ, ℤ, List, [], Option, None, Some, IsSome}
use Rattle.tree_model.specs.storm_values.Keys.{hash_of, text_of}
use Rattle.tree_model.specs.storm_values.declared.value.Value.{Value}
use Rattle.tree_model.specs.topology_plan.declared.parts.Kind.{Kind}
use Rattle.tree_model.specs.topology_plan.declared.parts.Kind.TheVariants.{Transactional, Opaque}
use Rattle.tree_model.specs.Tables.{Folding}
use Rattle.tree_model.specs.declared.write.Write.{Write}
use Rattle.cell_format.specs.declared.cell.Cell.{Cell}
use Rattle.cell_format.specs.Commits.{Holds, amounts_at, value_after}

-- ---- one key

-- what a cell of the next transaction keeps, where these amounts come next
abbrev pub IsNext : Kind → Folding → Option ℤ → List ℤ → Cell → Type 0
IsNext Transactional by base next cell = cell.value ≡ value_after by next base
IsNext Opaque by base next cell = cell.prev ≡ base

-- A key whose value after t transactions is the base stands at t. Its cell may have the
-- next transaction already.
abbrev pub CellStands : Kind → Folding → ℕ → Option ℤ → List ℤ → Option Cell → Type 0
CellStands kind by t base next None = base ≡ None
CellStands kind by t base next (Some cell) =
    ((cell.txid ≤ t) × (cell.value ≡ base)) ⊎ ((cell.txid ≡ t + 1) × IsNext kind by base next cell)

-- the same of what a store has at the key
pub record KeyStands (kind : Kind) (by : Folding) (t : ℕ) (base : Option ℤ) (next : List ℤ)
    (held : Option (List ℕ)) : Type 0 where
  pub cell : Option Cell
  pub is : Holds kind held cell
  pub stands : CellStands kind by t base next cell

-- ---- a part

-- the text is that of a key whose hash belongs to this part of so many
pub record IsKeyOf (parts part : ℕ) (key : List ℕ) : Type 0 where
  pub values : List Value
  pub text : text_of values ≡ key
  pub place : hash_of values % parts ≡ part

-- the writes are this part's own
abbrev pub AreOwn : ℕ → ℕ → List Write → Type 0
AreOwn parts part writes = (key : List ℕ) → amounts_at writes key ≢ [] → IsKeyOf parts part key

-- The map of a part stands at t, where `done` are the part's writes of the batches 1 to t and
-- `next` those of batch t + 1.
pub record Stands (kind : Kind) (by : Folding) (parts part t : ℕ) (done next : List Write)
    (held : List ℕ → Option (List ℕ)) : Type 0 where
  pub keys : (key : List ℕ)
      → KeyStands kind by t (value_after by (amounts_at done key) None) (amounts_at next key)
      (held key)
  pub own : (key : List ℕ) → IsSome (held key) → IsKeyOf parts part key

-- no cell has a larger transaction than t
abbrev pub IsWithin : Kind → ℕ → (List ℕ → Option (List ℕ)) → Type 0
IsWithin kind t held =
    (key : List ℕ) (cell : Cell) → Holds kind (held key) (Some cell) → cell.txid ≤ t
