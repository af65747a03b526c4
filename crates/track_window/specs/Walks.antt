-- What a walk through the topology has so far. This project's own.
use Rattle.std.specs.Prelude.{◌≡◌, ℕ, ◌+◌, List, [], ◌∷◌, ◌++◌, map, fold, All, length, ◌≤◌}
use Rattle.std.specs.List.{AllByRecursion, flat_map}
use Rattle.state_tallies.specs.Tallies.{capped, count_of}
use Rattle.tree_model.specs.bolt_ops.RowOp.{Custom}
use Rattle.tree_model.specs.storm_values.declared.value.Value.{Value}
use Rattle.tree_model.specs.topology_plan.declared.parts.Origin.TheVariants as origin
use Rattle.tree_model.specs.topology_plan.Topology.{Topology}
use Rattle.tree_model.specs.tuple_tickets.Edges.{xor_ids}
use Rattle.tree_model.specs.declared.messages.AckMsg.{AckMsg}
use Rattle.tree_model.specs.declared.messages.Tuple.{Tuple}
use Rattle.tree_model.specs.Trees.{kids}
use Rattle.tuple_account.specs.Accounts.{IsRun}
use Rattle.tuple_account.specs.Issued.{Begun, Run, children_of, edges_of, first_tuples, init_of, notes_of}
use Rattle.window_account.specs.Calls.{IsFit, call_of, noted, tallied_in}
use Rattle.window_account.specs.Noted.{root_at}
use Rattle.track_window.specs.declared.job.Job.{Job}
use Rattle.track_window.specs.declared.walk.Walk.{Walk}
use Rattle.track_window.specs.Acts.{call_of_act}
use Rattle.track_window.specs.Jobs.{IsRooted, tuples_in}

-- a message was noted, and its call is still to be made
pub record Told (m : AckMsg) (old new : Walk) : Type 0 where
  pub notes : new.notes.items ≡ noted old.notes.items m
  pub acts : map call_of_act new.acts.items ≡ map call_of_act old.acts.items ++ call_of m ∷ []
  pub jobs : new.jobs ≡ old.jobs
  pub tallies : new.tallies ≡ old.tallies

-- Tuples were executed: their children wait, and what was told is noted, still to be acked, and
-- tallied.
pub record Steps (t : Topology) (custom : Custom) (tuples : List Tuple) (old new : Walk)
    : Type 0 where
  pub runs : List Run
  pub of_tuples : map (λ (u : Run). u.tuple) runs ≡ tuples
  pub well : AllByRecursion (IsRun t custom) runs
  pub jobs : tuples_in new.jobs.items
      ≡ tuples_in old.jobs.items ++ flat_map (children_of t custom) runs
  pub fit : AllByRecursion (IsFit t) (flat_map (children_of t custom) runs)
  pub notes : new.notes.items ≡ fold noted old.notes.items (flat_map (notes_of t custom) runs)
  pub acts : map call_of_act new.acts.items
      ≡ map call_of_act old.acts.items ++ map call_of (flat_map (notes_of t custom) runs)
  pub tallies : (state : ℕ) (key : List ℕ) → capped (count_of new.tallies state key)
      ≡ capped (count_of old.tallies state key + tallied_in t state key tuples)
  pub components : length new.tallies ≡ length old.tallies

-- A record was begun: its first tuples wait, and its init is noted, but not yet called.
pub record Begins (t : Topology) (number attempt : ℕ) (row : List Value) (word : ℕ)
    (old new : Walk) : Type 0 where
  pub begun : Begun
  pub root : begun.root ≡ root_at attempt number
  pub rows : begun.rows ≡ row ∷ []
  pub enough : length begun.ids ≡ length (kids t origin.Spout (row ∷ []))
  pub jobs : tuples_in new.jobs.items ≡ tuples_in old.jobs.items ++ first_tuples t begun
  pub fit : AllByRecursion (IsFit t) (first_tuples t begun)
  pub notes : new.notes.items ≡ noted old.notes.items (init_of t begun)
  pub word_is : word ≡ xor_ids (edges_of (first_tuples t begun))
  pub tallies : new.tallies ≡ old.tallies
  pub acts : new.acts ≡ old.acts

-- a walk whose waiting tuples can be executed, noted and acked
pub record IsReady (t : Topology) (roots : ℕ) (walk : Walk) : Type 0 where
  pub fit : All (λ (job : Job). IsFit t job.tuple) walk.jobs.items
  pub rooted : All (λ (job : Job). IsRooted (length walk.notes.items) job.tuple) walk.jobs.items
  pub count : length walk.notes.items ≤ roots
  pub components : length walk.tallies ≡ length t.components
