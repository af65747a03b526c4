-- The jobs that a commit needs.
use Rattle.std.specs.Prelude.{◌≡◌, ℕ, ℤ, false, List, [], Option, MatchOption}
use Rattle.tree_model.specs.topology_plan.declared.parts.Kind.{Kind}
use Rattle.tree_model.specs.topology_plan.declared.parts.Kind.TheVariants.{Transactional, Opaque}
use Rattle.storm_stores.specs.CellMaps.{CellMap, cell_at}
use Rattle.cell_format.specs.Commits.{Holds}
use Rattle.cell_format.specs.declared.cell.Cell.{Cell}
use Rattle.state_cells.specs.Scans.{carries_of}
use Rattle.state_cells.specs.Turns.{AreApart, Job, job_at}

-- a key that the commit may leave alone: nothing is written for it, and in an opaque part its cell
-- is not of the transaction
abbrev pub IsLeft : Kind → ℕ → List ℤ → Option (List ℕ) → Type 0
IsLeft Transactional txid amounts held = amounts ≡ []
IsLeft Opaque txid amounts held =
    (amounts ≡ []) × (cell : Option Cell) × Holds Opaque held cell × (carries_of txid cell ≡ false)

-- one job at most for a key, with what is written for it, and none only where the commit
-- may leave the key alone
pub record IsPlan (kind : Kind) (txid : ℕ) (written : List ℕ → List ℤ) (cells : CellMap)
    (jobs : List Job) : Type 0 where
  pub apart : AreApart jobs
  pub at : (key : List ℕ)
      → MatchOption (job_at jobs key) (IsLeft kind txid (written key) (cell_at cells key))
      (λ amounts. amounts ≡ written key)
