-- What a run comes to over stores that perhaps hold the cells of an earlier run. This project's own.
use Rattle.std.specs.Prelude.{◌≡◌, ◌⊎◌, ℕ, List, [], All}
use Rattle.event_worlds.specs.attempt_fates.declared.fates.Attempt.{Attempt}
use Rattle.event_worlds.specs.bolt_ops.RowOp.{Custom}
use Rattle.event_worlds.specs.state_parts.PartPlans.{PartPlan, planned_parts}
use Rattle.event_worlds.specs.storm_values.Counts.{raised}
use Rattle.event_worlds.specs.taken_records.Cuts.{Cut}
use Rattle.event_worlds.specs.topology_plan.Topology.{Topology}
use Rattle.state_cells.specs.Rows.{IsBadRow}
use Rattle.storm_stores.specs.CellMaps.{CellMap, cell_at}
use Rattle.stored_runs.specs.declared.ending.RunEnd.{RunEnd}
use Rattle.stored_runs.specs.declared.ending.RunEnd.TheVariants as end
use Rattle.stored_runs.specs.Makers.{MakerUse}
use Rattle.stored_runs.specs.StoredRuns.{IsRun, StandAtCommits}

-- One store failed once while cells were brought to format 2, and no other store did. No attempt was
-- begun, and the maps stand where they stood.
pub record FailsFirst (t : Topology) (custom : Custom) (cut : Cut) (maker : MakerUse)
    (fates : List Attempt) : Type 0 where
  pub none_begun : fates ≡ []
  pub failed_once : maker.faults_after ≡ raised maker.faults_before
  pub stands : StandAtCommits t custom cut maker fates

-- It is a run over the stores of a maker, or a store failed before one was begun. A bad cell may also
-- be one that was met while cells were brought to format 2.
abbrev pub IsResumed : ((ℕ → ℕ → ℕ) → Type 0) → Topology → Custom → Cut → ℕ → MakerUse
    → List Attempt → RunEnd → Type 0
IsResumed told t custom cut ticks maker fates ending =
    IsRun told t custom cut ticks maker fates ending
    ⊎ ((ending ≡ end.StoreFault) × FailsFirst t custom cut maker fates)

-- no part had a cell that a table does not take, as far as the maker told its cells
abbrev pub HadRows : Topology → MakerUse → Type 0
HadRows t maker =
    All
    (λ (part : PartPlan).
    (cells : CellMap) → maker.held part.component part.part cells → (key : List ℕ)
    → IsBadRow part.kind key (cell_at cells key) → ⊥)
    (planned_parts t)
