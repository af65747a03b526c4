-- What an opaque part knows of its store's cells.
use Rattle.std.specs.Prelude.{◌≡◌, ℕ, Bool, true, List, map, Option, None, Some}
use Rattle.tree_model.specs.topology_plan.declared.parts.Kind.{Kind}
use Rattle.tree_model.specs.topology_plan.declared.parts.Kind.TheVariants.{Opaque}
use Rattle.storm_stores.specs.CellMaps.{CellMap, cell_at}
use Rattle.cell_format.specs.Commits.{Holds}
use Rattle.cell_format.specs.declared.cell.Cell.{Cell}
use Rattle.state_cells.specs.Scans.{IsNotLater}
use Rattle.state_cells.specs.Turns.{AreOnce, IsListed, Job}
use Rattle.state_cells.specs.declared.known.Known.{Known}

-- a key with a cell of this transaction is listed
abbrev pub IsListedOf : ℕ → List (List ℕ) → List ℕ → Option Cell → Type 0
IsListedOf txid keys key None = Unit {0}
IsListedOf txid keys key (Some cell) = cell.txid ≡ txid → IsListed keys key

-- A key's cell is one that an opaque part takes. With one of the transaction the key is listed, and
-- no cell is later where the transaction is the newest.
pub record IsKnownAt (txid : ℕ) (newest : Bool) (keys : List (List ℕ))
    (key : List ℕ) (held : Option (List ℕ)) : Type 0 where
  pub cell : Option Cell
  pub holds : Holds Opaque held cell
  pub listed : IsListedOf txid keys key cell
  pub within : newest ≡ true → IsNotLater txid cell

-- of every key; none is listed twice
pub record AreKnown (txid : ℕ) (newest : Bool) (keys : List (List ℕ))
    (cells : CellMap) : Type 0 where
  pub once : AreOnce keys
  pub at : (key : List ℕ) → IsKnownAt txid newest keys key (cell_at cells key)

-- what is known is so of these cells
abbrev pub IsSo : Known → CellMap → Type 0
IsSo known cells = AreKnown known.txid known.is_newest known.keys.items cells

-- it is so of the map that a store tells
abbrev pub Knows : {S : Type 0} → (S → CellMap → Type 0) → S → Known → Type 0
Knows tells store known = (cells : CellMap) → tells store cells → IsSo known cells

-- of whatever cells the one is so, the other is so too
abbrev pub Follows : Known → Known → Type 0
Follows known now = (cells : CellMap) → IsSo known cells → IsSo now cells

abbrev pub FollowsFrom : Option Known → Known → Type 0
FollowsFrom None now = ⊥
FollowsFrom (Some known) now = Follows known now

-- the keys of jobs
abbrev pub keys_in : List Job → List (List ℕ)
keys_in jobs = map (λ (job : Job). job.key) jobs

-- what is known after a commit of these jobs
pub record IsAfter (kind : Kind) (txid : ℕ) (newest : Bool) (jobs : List Job)
    (known : Known) : Type 0 where
  pub kind_is : kind ≡ Opaque
  pub txid_is : known.txid ≡ txid
  pub newest_is : known.is_newest ≡ newest
  pub keys_are : known.keys.items ≡ keys_in jobs
