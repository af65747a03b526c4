-- Tuples that are made of nodes, each with an id. This project's own.
use Rattle.std.specs.Prelude.{◌≡◌, ℕ, List, ◌++◌, length}
use Rattle.std.specs.List.{AllByRecursion}
use Rattle.tree_model.specs.storm_values.declared.value.Root.{Root}
use Rattle.tree_model.specs.storm_values.declared.value.Value.{Value}
use Rattle.tree_model.specs.topology_plan.Topology.{Topology}
use Rattle.tree_model.specs.tuple_tickets.declared.edge.Edge.{Edge}
use Rattle.tree_model.specs.Trees.{Node}
use Rattle.tuple_account.specs.Issued.{edges_of, tuples_from}
use Rattle.track_window.specs.declared.job.Job.{Job}
use Rattle.window_account.specs.Calls.{IsFitNode}
use Rattle.track_window.specs.Jobs.{tuples_in}

abbrev pub node : ℕ → List Value → Node
node component row = record { component = component; row = row }

-- tuples of these nodes were made below a path, behind those whose edges are there
pub record Makes (t : Topology) (root : Root) (path : List ℕ) (nodes : List Node)
    (old_edges : List Edge) (old_jobs : List Job) (new_edges : List Edge) (new_jobs : List Job)
    : Type 0 where
  pub ids : List ℕ
  pub enough : length ids ≡ length nodes
  pub edges : new_edges
      ≡ old_edges ++ edges_of (tuples_from root path (length old_edges) nodes ids)
  pub jobs : tuples_in new_jobs
      ≡ tuples_in old_jobs ++ tuples_from root path (length old_edges) nodes ids
  pub fit : AllByRecursion (IsFitNode t) nodes
