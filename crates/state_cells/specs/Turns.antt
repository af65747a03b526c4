-- What calls make of a store's map, key by key.
use Rattle.std.specs.Prelude.{◌≡◌, ◌≢◌, ℕ, ℤ, List, [], ◌∷◌, Option, None, Some, option_map, find, true}
use Rattle.std.specs.List.{list_any}
use Rattle.std.specs.Str.{bytes_eq}
use Rattle.tree_model.specs.Tables.{Folding}
use Rattle.tree_model.specs.storm_values.declared.value.Root.{Root}
use Rattle.tree_model.specs.topology_plan.declared.parts.Kind.{Kind}
use Rattle.storm_stores.specs.CellMaps.{CellMap, cell_at}
use Rattle.cell_format.specs.Commits.{Commits, IsPerhapsDone, IsRefused}

-- The store told a map before, and tells one now, where each key's cell has become
-- what the relation says.
pub record Turns {S : Type 0} (tells : S → CellMap → Type 0)
    (R : List ℕ → Option (List ℕ) → Option (List ℕ) → Type 0) (old new : S) : Type 0 where
  pub to : (cells : CellMap) → tells old cells
      → (after : CellMap) × tells new after
      × ((key : List ℕ) → R key (cell_at cells key) (cell_at after key))

-- every key has what it had
abbrev pub Stays : List ℕ → Option (List ℕ) → Option (List ℕ) → Type 0
Stays key old new = new ≡ old

-- this key has become what the relation says, and every other key has what it had
abbrev pub OnlyAt : List ℕ → (Option (List ℕ) → Option (List ℕ) → Type 0) → List ℕ → Option (List ℕ)
    → Option (List ℕ) → Type 0
OnlyAt at R key old new = (key ≡ at → R old new) × (key ≢ at → new ≡ old)

-- what a key has is a cell that a part of this kind does not take
abbrev pub IsBad : Kind → Option (List ℕ) → Type 0
IsBad kind None = ⊥
IsBad kind (Some bytes) = IsRefused kind bytes

-- ---- the jobs of a commit

-- what a commit is to add to a key's value, in order
pub record Job : Type 0 where
  pub key : List ℕ
  pub amounts : List ℤ

-- the amounts that a job has for a key, if there is one for it
abbrev pub job_at : List Job → List ℕ → Option (List ℤ)
job_at jobs key =
    option_map (λ (job : Job). job.amounts) (find (λ (job : Job). bytes_eq key job.key) jobs)

-- no two jobs are for one key
abbrev pub AreApart : List Job → Type 0
AreApart [] = Unit {0}
AreApart (job ∷ jobs) = (job_at jobs job.key ≡ None) × AreApart jobs

-- a key with a job is committed, every other key has what it had
abbrev pub IsWorked : Kind → Folding → Root → Option (List ℤ) → Option (List ℕ) → Option (List ℕ)
    → Type 0
IsWorked kind by root None old new = new ≡ old
IsWorked kind by root (Some amounts) old new = Commits kind by root amounts old new

-- the same where the work was broken off
abbrev pub IsPerhapsWorked : Kind → Folding → Root → Option (List ℤ) → Option (List ℕ)
    → Option (List ℕ) → Type 0
IsPerhapsWorked kind by root None old new = new ≡ old
IsPerhapsWorked kind by root (Some amounts) old new = IsPerhapsDone kind by root amounts old new

-- ---- the cells of a transaction

abbrev pub IsListed : List (List ℕ) → List ℕ → Type 0
IsListed keys key = list_any (bytes_eq key) keys ≡ true

-- no key stands twice
abbrev pub AreOnce : List (List ℕ) → Type 0
AreOnce [] = Unit {0}
AreOnce (key ∷ keys) = (IsListed keys key → ⊥) × AreOnce keys
