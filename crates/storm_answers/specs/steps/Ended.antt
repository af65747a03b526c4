-- What is written of a run that ended.
use Rattle.std.specs.Prelude.{◌≡◌, ℕ, List}
use Rattle.event_worlds.specs.attempt_fates.declared.fates.Attempt.{Attempt}
use Rattle.storm_answers.specs.declared.status.Status.{Status}
use Rattle.storm_answers.specs.declared.status.Status.TheVariants as status
use Rattle.storm_answers.specs.declared.early_end.EarlyEnd.{EarlyEnd}
use Rattle.storm_answers.specs.Reports.{IsEndText}
use Rattle.storm_answers.specs.steps.Stops.{IfTold}
use Rattle.stored_runs.specs.declared.ending.RunEnd.{RunEnd}
use Rattle.stored_runs.specs.declared.ending.RunEnd.TheVariants as end
use Rattle.stored_runs.specs.StoredRuns.{IsAll}
use Rattle.event_worlds.specs.topology_plan.Topology.{Topology}

-- The status of a run that ended so.

abbrev pub status_of : RunEnd → Status
status_of (end.All tables) = status.Done
status_of (end.Exhausted txid) = status.Exhausted
status_of (end.Unfinished k) = status.Unfinished
status_of end.StoreFault = status.StoreFault
status_of (end.BadCell key) = status.BadCell
status_of (end.Follow txid) = status.KeepFault

-- no follower failed
abbrev pub IsUnfollowed : RunEnd → Type 0
IsUnfollowed (end.Follow txid) = ⊥
IsUnfollowed _ = Unit {0}

-- the stop tells a run that did not commit all, by its status and its text
abbrev pub IsStopOfEnd : Topology → ℕ → List Attempt → RunEnd → EarlyEnd → Type 0
IsStopOfEnd plan records fates ending stop =
    IfTold stop
    (λ s text.
    (IsAll ending → ⊥) × (s ≡ status_of ending)
    × IsEndText plan records fates ending text)

-- What a run over accepted files comes to that is no report, where `Ends` says what each end comes
-- to by its text, and `Short` what want of memory leaves.
abbrev pub WorkStops : (RunEnd → List ℕ → Type 0) → Type 0 → Status → List ℕ → Type 0
WorkStops Ends Short status.Memory text = Short
WorkStops Ends Short status.Exhausted text = (txid : ℕ) × Ends (end.Exhausted txid) text
WorkStops Ends Short status.Unfinished text = (k : ℕ) × Ends (end.Unfinished k) text
WorkStops Ends Short status.StoreFault text = Ends end.StoreFault text
WorkStops Ends Short status.BadCell text = (key : List ℕ) × Ends (end.BadCell key) text
WorkStops Ends Short _ text = ⊥

-- an end of a run by rounds
abbrev pub IsRoundsEnd : RunEnd → Type 0
IsRoundsEnd (end.Unfinished k) = ⊥
IsRoundsEnd _ = Unit {0}
