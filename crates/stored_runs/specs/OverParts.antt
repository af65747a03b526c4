-- What a run comes to over parts whose cells are brought to format 2 first. This project's own.
use Rattle.std.specs.Prelude.{◌≡◌, ◌⊎◌, ℕ, List, [], All, Result, Ok, Err}
use Rattle.event_worlds.specs.attempt_fates.declared.fates.Attempt.{Attempt}
use Rattle.event_worlds.specs.bolt_ops.RowOp.{Custom}
use Rattle.event_worlds.specs.commit_order.declared.stop.Stop.{Stop}
use Rattle.event_worlds.specs.commit_order.declared.stop.Stop.TheVariants as stop
use Rattle.event_worlds.specs.Accounted.{AreCaused}
use Rattle.event_worlds.specs.state_parts.Commits.{SameCounts}
use Rattle.event_worlds.specs.state_parts.declared.parts.StatePart.{StatePart}
use Rattle.event_worlds.specs.state_parts.Migrate.{AreKept}
use Rattle.event_worlds.specs.state_parts.PartPlans.{plans_of}
use Rattle.event_worlds.specs.state_parts.PartTables.{AreRead, IsBadRowAt, OneRaised}
use Rattle.event_worlds.specs.taken_records.Cuts.{Cut}
use Rattle.event_worlds.specs.topology_plan.Topology.{Topology}
use Rattle.schedule_core.specs.Following.{StandLess}
use Rattle.schedule_core.specs.Runs.{RunTells, ended}
use Rattle.schedule_core.specs.Schedules.{HadMemory}
use Rattle.state_cells.specs.Rows.{IsBadRow}
use Rattle.storm_stores.specs.CellMaps.{CellMap, cell_at}
use Rattle.stored_runs.specs.Closing.{Closes}
use Rattle.stored_runs.specs.declared.ending.RunEnd.{RunEnd}
use Rattle.stored_runs.specs.declared.ending.RunEnd.TheVariants as end

-- A run over parts, in which so many ticks were handed out, left these fates and answered so. The
-- sources of ids told these words.
pub record Runs {S : Type 0} (told : (ℕ → ℕ → ℕ) → Type 0) (tells : S → CellMap → Type 0)
    (count : S → ℕ) (t : Topology) (custom : Custom) (cut : Cut) (ticks : ℕ)
    (done : Result (Unit {0}) Stop) (fates : List Attempt) (old new : List (StatePart S))
    : Type 0 where
  pub tells_so : RunTells tells count t custom cut ticks (ended done) fates old new
  pub drawn : (words : ℕ → ℕ → ℕ) → told words → HadMemory (ended done)
      → AreCaused t custom cut ticks words fates
  -- where a follower failed the parts stand at what was committed before too
  pub less : (txid : ℕ) → done ≡ Err (stop.Follow txid)
      → StandLess tells t custom cut fates old new

-- a part has no cell that a table does not take
abbrev pub HasRows : {S : Type 0} → (S → CellMap → Type 0) → StatePart S → Type 0
HasRows tells at =
    (cells : CellMap) → tells at.over.store cells → (key : List ℕ)
    → IsBadRow at.over.kind key (cell_at cells key) → ⊥

-- All cells were brought to format 2, a run went over the parts, and they were read where no record
-- was left uncommitted.
pub record RunsOn {S E : Type 0} (told : (ℕ → ℕ → ℕ) → Type 0) (tells : S → CellMap → Type 0)
    (count : S → ℕ) (t : Topology) (custom : Custom) (cut : Cut) (ticks : ℕ)
    (result : Result RunEnd E) (fates : List Attempt) (old new : List (StatePart S))
    : Type 0 where
  pub rows : All (HasRows tells) old
  pub ran : List (StatePart S)
  pub done : Result (Unit {0}) Stop
  pub runs : Runs told tells count t custom cut ticks done fates old ran
  pub closes : Closes tells count t (ended done) ran new result
  pub plans : plans_of new ≡ plans_of ran
  pub read : AreRead tells count ran new
  pub quiet : (result ≡ Ok end.StoreFault → ⊥) → SameCounts count ran new

-- what is answered where not all cells were brought to format 2
abbrev pub StopsAs : {S E : Type 0} → (S → CellMap → Type 0) → (S → ℕ) → Result RunEnd E
    → List (StatePart S) → List (StatePart S) → Type 0
StopsAs tells count (Ok end.StoreFault) old new = OneRaised count old new
StopsAs tells count (Ok (end.BadCell key)) old new =
    IsBadRowAt tells old key × SameCounts count old new
StopsAs tells count (Ok ending) old new = ⊥
StopsAs tells count (Err e) old new = SameCounts count old new

-- So it ended, and no attempt was begun.
pub record StopsFirst {S E : Type 0} (tells : S → CellMap → Type 0) (count : S → ℕ)
    (result : Result RunEnd E) (fates : List Attempt) (old new : List (StatePart S))
    : Type 0 where
  pub none_begun : fates ≡ []
  pub kept : AreKept tells count old new
  pub stops : StopsAs tells count result old new

-- what a run comes to over parts whose cells are brought to format 2 first
abbrev pub Resumes : {S E : Type 0} → ((ℕ → ℕ → ℕ) → Type 0) → (S → CellMap → Type 0) → (S → ℕ)
    → Topology → Custom → Cut → ℕ → Result RunEnd E → List Attempt → List (StatePart S)
    → List (StatePart S) → Type 0
Resumes told tells count t custom cut ticks result fates old new =
    RunsOn told tells count t custom cut ticks result fates old new
    ⊎ StopsFirst tells count result fates old new
