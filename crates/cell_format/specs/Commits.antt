-- What a commit makes of a key's cell. After Trident's transactional and opaque states.
use Rattle.std.specs.Prelude.{◌≡◌, ◌⊎◌, ℕ, ◌==◌, ℤ, if◌then◌else◌, List, [], ◌∷◌, Option, None, Some, IfSome, map, filter, fold}
use Rattle.std.specs.Str.{bytes_eq}
use Rattle.tree_model.specs.topology_plan.declared.parts.Kind.{Kind}
use Rattle.tree_model.specs.topology_plan.declared.parts.Kind.TheVariants.{Transactional, Opaque}
use Rattle.tree_model.specs.Tables.{Folding}
use Rattle.tree_model.specs.declared.write.Write.{Write}
use Rattle.tree_model.specs.storm_values.declared.value.Root.{Root}
use Rattle.cell_format.specs.declared.cell.Cell.{Cell}
use Rattle.cell_format.specs.Layout.{AreBytesOf, IsCell}

-- the amounts that are written for a key, in order
abbrev pub amounts_at : List Write → List ℕ → List ℤ
amounts_at writes key =
    map (λ (write : Write). write.amount)
    (filter (λ (write : Write). bytes_eq key write.key) writes)

-- a value after these amounts, from the value before, if there was one
abbrev pub value_after : Folding → List ℤ → Option ℤ → Option ℤ
value_after by amounts value = fold (λ old amount. Some (by old amount)) value amounts

-- the value of a key
abbrev pub value_of : Option Cell → Option ℤ
value_of None = None
value_of (Some cell) = cell.value

-- A cell of the committed transaction: it stays, or begins anew from the value before and is then
-- of this attempt.
abbrev pub again : Kind → Folding → ℕ → List ℤ → Cell → Cell
again Transactional by attempt amounts cell = cell
again Opaque by attempt amounts cell =
    record cell { attempt = attempt; value = value_after by amounts cell.prev }

-- only an opaque cell keeps the value before
abbrev pub kept_by : Kind → Option ℤ → Option ℤ
kept_by Transactional value = None
kept_by Opaque value = value

-- a key without a cell of the committed transaction: only a write changes it
abbrev pub anew : Kind → Folding → Root → List ℤ → Option Cell → Option Cell
anew kind by root [] cell = cell
anew kind by root (amount ∷ amounts) cell =
    Some (record {
      txid = root.txid;
      attempt = root.attempt;
      value = value_after by (amount ∷ amounts) (value_of cell);
      prev = kept_by kind (value_of cell);
      kind = kind;
    })

-- the cell of a key after a commit of these amounts of the key
abbrev pub after : Kind → Folding → Root → List ℤ → Option Cell → Option Cell
after kind by root amounts None = anew kind by root amounts None
after kind by root amounts (Some cell) =
    if cell.txid == root.txid then Some (again kind by root.attempt amounts cell)
    else anew kind by root amounts (Some cell)

-- ---- the same of what a store has at a key

-- a cell that a part of this kind takes
pub record IsCellOf (kind : Kind) (cell : Cell) : Type 0 where
  pub is : IsCell cell
  pub kind_is : cell.kind ≡ kind

-- what a store has at a key is the cell, in either format, or nothing where there is none
abbrev pub IsHeld : Option (List ℕ) → Option Cell → Type 0
IsHeld None None = Unit {0}
IsHeld None (Some cell) = ⊥
IsHeld (Some bytes) None = ⊥
IsHeld (Some bytes) (Some cell) = AreBytesOf cell bytes

-- a key has this cell, or none
pub record Holds (kind : Kind) (held : Option (List ℕ)) (cell : Option Cell) : Type 0 where
  pub bytes : IsHeld held cell
  pub good : IfSome cell (IsCellOf kind)

-- a transactional part leaves the bytes of a key for which nothing is written
abbrev pub IsLeftAlone : Kind → List ℤ → Option (List ℕ) → Option (List ℕ) → Type 0
IsLeftAlone Transactional [] old new = new ≡ old
IsLeftAlone Transactional (amount ∷ amounts) old new = Unit {0}
IsLeftAlone Opaque amounts old new = Unit {0}

-- a commit of these amounts of a key made the new bytes of the old
pub record Commits (kind : Kind) (by : Folding) (root : Root) (amounts : List ℤ)
    (old new : Option (List ℕ)) : Type 0 where
  pub cell : Option Cell
  pub was : Holds kind old cell
  pub is : Holds kind new (after kind by root amounts cell)
  pub left : IsLeftAlone kind amounts old new

-- what a whole commit leaves at a key; a transactional one does not look at a key that has no write
abbrev pub IsDone : Kind → Folding → Root → List ℤ → Option (List ℕ) → Option (List ℕ) → Type 0
IsDone Transactional by root [] old new = new ≡ old
IsDone Transactional by root (amount ∷ amounts) old new =
    Commits Transactional by root (amount ∷ amounts) old new
IsDone Opaque by root amounts old new = Commits Opaque by root amounts old new

-- what a commit that was broken off leaves at a key
abbrev pub IsPerhapsDone : Kind → Folding → Root → List ℤ → Option (List ℕ) → Option (List ℕ) → Type 0
IsPerhapsDone kind by root amounts old new = (new ≡ old) ⊎ Commits kind by root amounts old new

-- no cell that a part of this kind takes has these bytes
abbrev pub IsRefused : Kind → List ℕ → Type 0
IsRefused kind bytes = (cell : Cell) → IsCellOf kind cell → AreBytesOf cell bytes → ⊥
