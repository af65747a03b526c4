-- What the steps of the bodies have done. No public clause cites these.
use Rattle.std.specs.Prelude.{◌≡◌, ℕ, zero, suc, ◌+◌, Bool, true, false, if◌then◌else◌, List, [], ◌∷◌, ◌++◌, drop, map}
use Rattle.state_tallies.specs.declared.tallies.KeyCount.{KeyCount}
use Rattle.state_tallies.specs.Tallies.{capped, count_of as counted}
use Rattle.tracked_trees.specs.Reached.{is_good}
use Rattle.tracked_trees.specs.Tries.{count_at, count_of}
use Rattle.tree_model.specs.bolt_ops.RowOp.{Custom}
use Rattle.tree_model.specs.counted_items.Weights.{weigh}
use Rattle.tree_model.specs.storm_values.declared.value.Value.{Value}
use Rattle.tree_model.specs.topology_plan.Topology.{Topology}
use Rattle.track_report.specs.declared.ending.RecordEnd.{RecordEnd}
use Rattle.track_runs.specs.Tracked.{end_of}

-- ---- the ends of records

abbrev pub acked_at : ℕ → RecordEnd
acked_at attempts = record { attempts = attempts; acked = true }

abbrev pub gave_up : ℕ → RecordEnd
gave_up attempts = record { attempts = attempts; acked = false }

-- the first of some ends, and that of no attempt more where there is none
abbrev pub next_end : ℕ → List RecordEnd → RecordEnd
next_end attempt [] = gave_up attempt
next_end attempt (end ∷ later) = end

-- the ends of records, of which some were acked at an attempt and the others ended later
abbrev pub merged : ℕ → List Bool → List RecordEnd → List RecordEnd
merged attempt [] later = []
merged attempt (true ∷ acked) later = acked_at attempt ∷ merged attempt acked later
merged attempt (false ∷ acked) later =
    next_end attempt later ∷ merged attempt acked (drop 1 later)

-- the records that were not acked
abbrev pub open_rows : List (List Value) → List Bool → List (List Value)
open_rows [] acked = []
open_rows (row ∷ rows) [] = []
open_rows (row ∷ rows) (true ∷ acked) = open_rows rows acked
open_rows (row ∷ rows) (false ∷ acked) = row ∷ open_rows rows acked

-- how a record ends that was tried so often and never acked, and is tried at most so often more
abbrev pub end_from : Topology → Custom → ℕ → ℕ → List Value → RecordEnd
end_from t custom before zero row = gave_up before
end_from t custom before (suc more) row =
    if is_good t custom (suc before) row then acked_at (suc before)
    else end_from t custom (suc before) more row

-- how many nodes of a state and key these tries reach
abbrev pub count_up : Topology → Custom → ℕ → List ℕ → ℕ → ℕ → List Value → ℕ
count_up t custom state key before zero row = 0
count_up t custom state key before (suc more) row =
    count_at t custom state key (suc before) row
    + (if is_good t custom (suc before) row then 0
    else count_up t custom state key (suc before) more row)

-- ---- counts

-- these counts were added, each up to 2^64 - 1
abbrev pub AddsCounts : List (List KeyCount) → List (List KeyCount) → (ℕ → List ℕ → ℕ) → Type 0
AddsCounts old new more =
    (state : ℕ) (key : List ℕ)
    → counted new state key ≡ capped (counted old state key + more state key)

-- ---- with the records that are to come

abbrev pub ends_with : Topology → Custom → List RecordEnd → List (List Value) → List RecordEnd
ends_with t custom ends rows = ends ++ map (end_of t custom t.attempts) rows

abbrev pub counts_with : Topology → Custom → List (List KeyCount) → List (List Value) → ℕ → List ℕ
    → ℕ
counts_with t custom tallies rows state key =
    capped (counted tallies state key + weigh (count_of t custom state key t.attempts) rows)
