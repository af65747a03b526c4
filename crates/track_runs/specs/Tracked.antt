-- How the tracking of records ends. This project's own.
use Rattle.std.specs.Prelude.{◌≡◌, ℕ, List, All, length, map}
use Rattle.state_tallies.specs.declared.tallies.KeyCount.{KeyCount}
use Rattle.state_tallies.specs.Tallies.{AreInOrder, count_of}
use Rattle.tracked_trees.specs.Tries.{is_acked, tally, tries_of}
use Rattle.tree_model.specs.bolt_ops.RowOp.{Custom}
use Rattle.tree_model.specs.storm_values.declared.value.Value.{Value}
use Rattle.tree_model.specs.topology_plan.Topology.{Topology}
use Rattle.track_report.specs.declared.ending.RecordEnd.{RecordEnd}
use Rattle.track_report.specs.Lines.{track_text}

-- how a record ends that is tried at most so often
abbrev pub end_of : Topology → Custom → ℕ → List Value → RecordEnd
end_of t custom most row =
    record { attempts = tries_of t custom most row; acked = is_acked t custom most row }

-- Each component has these counts of its keys, which stand in the order of their bytes. A key may
-- stand there with a count of 0.
pub record AreTallies (t : Topology) (counts : ℕ → List ℕ → ℕ)
    (tallies : List (List KeyCount)) : Type 0 where
  pub components : length tallies ≡ length t.components
  pub ordered : All AreInOrder tallies
  pub counted : (state : ℕ) (key : List ℕ) → count_of tallies state key ≡ counts state key

-- The text of a tracking of records: the ends of all of them, and how often each key of each state
-- is reached in all their tries. Neither workers nor ids have a part in it.
pub record IsTrackText (t : Topology) (custom : Custom) (records : List (List Value))
    (text : List ℕ) : Type 0 where
  pub tallies : List (List KeyCount)
  pub are_tallies : AreTallies t (λ state key. tally t custom state key t.attempts records) tallies
  pub printed : text ≡ track_text t (map (end_of t custom t.attempts) records) tallies
