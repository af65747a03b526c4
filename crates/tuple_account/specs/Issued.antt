-- What a root issues when it begins, and a tuple when it is executed, with given ids.
use Rattle.std.specs.Prelude.{ℕ, suc, ◌-◌, ◌^◌, min, List, [], ◌∷◌, ◌++◌, map}
use Rattle.std.specs.Option.{option_to_list}
use Rattle.tree_model.specs.bolt_ops.RowOp.{Custom}
use Rattle.tree_model.specs.storm_values.declared.value.Root.{Root}
use Rattle.tree_model.specs.storm_values.declared.value.Value.{Value}
use Rattle.tree_model.specs.topology_plan.declared.parts.Origin.TheVariants as origin
use Rattle.tree_model.specs.topology_plan.Topology.{Topology}
use Rattle.tree_model.specs.tuple_tickets.declared.edge.Edge.{Edge}
use Rattle.tree_model.specs.tuple_tickets.Tickets.{made_by}
use Rattle.tree_model.specs.tuple_tickets.Trees.{Course, goes, fails, mute}
use Rattle.tree_model.specs.declared.messages.AckMsg.{AckMsg}
use Rattle.tree_model.specs.declared.messages.AckMsg.TheVariants as msg
use Rattle.tree_model.specs.declared.messages.Draw.{Draw}
use Rattle.tree_model.specs.declared.messages.Tuple.{Tuple}
use Rattle.tree_model.specs.Courses.{course_at}
use Rattle.tree_model.specs.Trees.{Node, kids, kids_of, write_of}

-- A root that was begun with these rows of the spout. The ids of its first tuples are words of the
-- source from the place `at` on.
pub record Begun : Type 0 where
  pub root : Root
  pub rows : List (List Value)
  pub ids : List ℕ
  pub source : ℕ
  pub at : ℕ

-- A tuple that a task executed. The ids of the tuples made are words of the task's source
-- from the place `at` on.
pub record Run : Type 0 where
  pub tuple : Tuple
  pub ids : List ℕ
  pub task : ℕ
  pub at : ℕ

-- a draw tells its place up to 2^64 - 1
abbrev pub draw_from : ℕ → ℕ → Draw
draw_from source at = record { source = source; first = min at (2 ^ 64 - 1) }

-- the node that a tuple has come to
abbrev pub node_of : Tuple → Node
node_of tuple = record { component = tuple.component; row = tuple.row }

-- tuples of nodes, with an id for each, at the places from j on below a path
abbrev pub tuples_from : Root → List ℕ → ℕ → List Node → List ℕ → List Tuple
tuples_from root path j [] ids = []
tuples_from root path j (node ∷ nodes) [] = []
tuples_from root path j (node ∷ nodes) (id ∷ ids) =
    record {
      root = root;
      edge = record { path = path ++ j ∷ []; id = id };
      component = node.component;
      row = node.row;
    } ∷ tuples_from root path (suc j) nodes ids

abbrev pub edges_of : List Tuple → List Edge
edges_of tuples = map (λ (tuple : Tuple). tuple.edge) tuples

-- ---- a root begins

abbrev pub first_tuples : Topology → Begun → List Tuple
first_tuples t b = tuples_from b.root [] 0 (kids t origin.Spout b.rows) b.ids

abbrev pub init_of : Topology → Begun → AckMsg
init_of t b =
    msg.Init (record
    { root = b.root; edges = edges_of (first_tuples t b); draw = draw_from b.source b.at })

-- ---- a tuple is executed

-- what the execution comes to at the attempt of its root
abbrev pub course_of_run : Topology → Custom → Run → Course
course_of_run t custom u = course_at t custom u.tuple.root.attempt (node_of u.tuple)

-- the tuples of its node's children, where the node goes on
abbrev pub children_of : Topology → Custom → Run → List Tuple
children_of t custom u =
    made_by (course_of_run t custom u)
    (tuples_from u.tuple.root u.tuple.edge.path 0 (kids_of t custom (node_of u.tuple)) u.ids)

-- done, with the node's writes, where it goes on; failed where it fails; and else nothing
abbrev pub notes_by : Topology → Custom → Run → Course → List AckMsg
notes_by t custom u goes = msg.Done (record {
  root = u.tuple.root;
  consumed = u.tuple.edge;
  produced = edges_of (children_of t custom u);
  draw = draw_from u.task u.at;
  writes = option_to_list (write_of t (node_of u.tuple));
}) ∷ []
notes_by t custom u fails =
    msg.Failed (record { root = u.tuple.root; path = u.tuple.edge.path }) ∷ []
notes_by t custom u mute = []

abbrev pub notes_of : Topology → Custom → Run → List AckMsg
notes_of t custom u = notes_by t custom u (course_of_run t custom u)
