-- Where a run goes on, and what it comes to from there.
use Rattle.std.specs.Prelude.{◌≡◌, ℕ, cond, List, [], ◌∷◌}
use Rattle.event_worlds.specs.attempt_fates.declared.fates.Attempt.{Attempt}
use Rattle.event_worlds.specs.attempt_fates.Fates.{is_committed}
use Rattle.event_worlds.specs.storm_values.declared.value.Value.{Value}
use Rattle.event_worlds.specs.topology_plan.Topology.{Topology}
use Rattle.storm_answers.specs.Reports.{IsEndText, IsTextOf}
use Rattle.storm_answers.specs.declared.early_end.EarlyEnd.{EarlyEnd}
use Rattle.storm_answers.specs.declared.early_end.EarlyEnd.TheVariants as early
use Rattle.storm_answers.specs.declared.status.Status.{Status}
use Rattle.storm_answers.specs.declared.status.Status.TheVariants as status
use Rattle.storm_answers.specs.run_report.Cells.{cells_of}
use Rattle.storm_answers.specs.run_report.Report.{ok}
use Rattle.storm_answers.specs.stored_runs.declared.ending.RunEnd.{RunEnd}
use Rattle.storm_answers.specs.stored_runs.declared.ending.RunEnd.TheVariants as end
use Rattle.storm_answers.specs.stored_runs.StoredRuns.{IsAll}
use Rattle.storm_answers.specs.steps.Ended.{status_of}
use Rattle.storm_answers.specs.steps.Stops.{IfTold}
use Rattle.storm_resume.specs.Keeping.{FailedOnce, HoldsStill, IsUnchanged, KeeperUse}
use Rattle.storm_resume.specs.Resume.{IsKeptLine, keep_fault_line}

-- the transaction of the last commit, or this one where there was none
abbrev pub last_txid : ℕ → List Attempt → ℕ
last_txid txid [] = txid
last_txid txid (a ∷ fates) = last_txid (cond (is_committed a.end) a.root.txid txid) fates

-- what a keeper comes to that gave no start: a fault, or what is no meta of these records
abbrev pub StartComes : Topology → List (List Value) → KeeperUse → Status → List ℕ → Type 0
StartComes plan records keeper status.Memory text = IsUnchanged keeper
StartComes plan records keeper status.KeepFault text =
    (text ≡ keep_fault_line) × HoldsStill keeper × FailedOnce keeper
StartComes plan records keeper status.Kept text =
    IsKeptLine plan records keeper text × IsUnchanged keeper
StartComes plan records keeper _ text = ⊥

-- the text of a run that ended so, after the batches up to a start
abbrev pub IsResumeText : Topology → ℕ → ℕ → List Attempt → RunEnd → List ℕ → Type 0
IsResumeText plan records batches fates (end.All tables) text =
    IsTextOf plan fates (cells_of tables) (ok records batches) text
IsResumeText plan records batches fates (end.Follow txid) text = text ≡ keep_fault_line
IsResumeText plan records batches fates ending text =
    IsEndText plan records fates ending text

-- the stop tells a run that did not commit all, by its status and its text
abbrev pub IsStopOfResume : Topology → ℕ → ℕ → List Attempt → RunEnd → EarlyEnd → Type 0
IsStopOfResume plan records batches fates ending stop =
    IfTold stop
    (λ s text.
    (IsAll ending → ⊥) × (s ≡ status_of ending)
    × IsResumeText plan records batches fates ending text)

-- a fault of the follower is told, whatever memory is left
abbrev pub IsNoFault : RunEnd → Type 0
IsNoFault (end.Follow txid) = ⊥
IsNoFault _ = Unit {0}

-- it is no want of memory
abbrev pub IsTold : EarlyEnd → Type 0
IsTold early.Memory = ⊥
IsTold (early.Told ending line) = Unit {0}
