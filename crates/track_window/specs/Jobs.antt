-- Tuples that are executed, and what came of them. This project's own.
use Rattle.std.specs.Prelude.{◌≡◌, ◌≤◌, ◌<◌, ℕ, List, [], map, All, length, Some, None}
use Rattle.tree_model.specs.bolt_ops.RowOp.{Custom}
use Rattle.tree_model.specs.storm_values.Rows.{IsRow}
use Rattle.tree_model.specs.topology_plan.declared.parts.Origin.TheVariants as origin
use Rattle.tree_model.specs.topology_plan.Topology.{Topology}
use Rattle.tree_model.specs.topology_plan.Wired.{width_of}
use Rattle.tree_model.specs.tuple_tickets.Trees.{goes, fails, mute}
use Rattle.tree_model.specs.declared.messages.Tuple.{Tuple}
use Rattle.tree_model.specs.Courses.{course_at}
use Rattle.tree_model.specs.Trees.{Node, kids, kids_of, write_of}
use Rattle.tuple_account.specs.Issued.{node_of}
use Rattle.track_window.specs.declared.job.Found.{Found}
use Rattle.track_window.specs.declared.job.Found.TheVariants as found
use Rattle.track_window.specs.declared.job.Job.{Job}

abbrev pub tuples_in : List Job → List Tuple
tuples_in jobs = map (λ (job : Job). job.tuple) jobs

-- what was found of a tuple is what an attempt at it comes to: rows within limits, which its
-- children are made of; the write of a state; a failure; or nothing
module _ (t : Topology) (custom : Custom) (tuple : Tuple) where
  abbrev pub IsFound : Found → Type 0
  IsFound found.Waits = ⊥
  IsFound found.NoMemory = Unit {0}
  IsFound (found.Rows rows) =
      (course_at t custom tuple.root.attempt (node_of tuple) ≡ goes)
      × (write_of t (node_of tuple) ≡ None)
      × (kids_of t custom (node_of tuple) ≡ kids t (origin.Component tuple.component) rows)
      × All (IsRow (width_of t (origin.Component tuple.component))) rows
  IsFound (found.Wrote write) =
      (course_at t custom tuple.root.attempt (node_of tuple) ≡ goes)
      × (write_of t (node_of tuple) ≡ Some write)
      × (kids_of t custom (node_of tuple) ≡ [])
  IsFound found.Failed = course_at t custom tuple.root.attempt (node_of tuple) ≡ fails
  IsFound found.Mute = course_at t custom tuple.root.attempt (node_of tuple) ≡ mute

-- what has to be so of a tuple and of what was found, whatever the operations: its root is that of
-- one of so many records, rows are within limits, and a write is the state's own
pub record IsRooted (count : ℕ) (tuple : Tuple) : Type 0 where
  pub least : 1 ≤ tuple.root.txid
  pub most : tuple.root.txid ≤ count

abbrev pub IsSafe : Topology → ℕ → Tuple → Found → Type 0
IsSafe t count tuple found.Waits = IsRooted count tuple
IsSafe t count tuple found.NoMemory = IsRooted count tuple
IsSafe t count tuple (found.Rows rows) =
    IsRooted count tuple
    × All (IsRow (width_of t (origin.Component tuple.component))) rows
IsSafe t count tuple (found.Wrote write) =
    IsRooted count tuple × (write.state < length t.components)
IsSafe t count tuple found.Failed = IsRooted count tuple
IsSafe t count tuple found.Mute = IsRooted count tuple

-- a job whose tuple was executed
abbrev pub IsExecuted : Topology → Custom → Job → Job → Type 0
IsExecuted t custom old new = (new.tuple ≡ old.tuple) × IsFound t custom old.tuple new.found
