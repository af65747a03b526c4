-- What an attempt at a node comes to, and how the trees of a topology grow.
use Rattle.std.specs.Prelude.{ℕ, List, slice_get}
use Rattle.std.specs.Option.{option_map_or}
use Rattle.bolt_ops.specs.RowOp.{Custom}
use Rattle.bolt_ops.specs.declared.operation.Outcome.{Outcome}
use Rattle.bolt_ops.specs.declared.operation.Outcome.TheVariants as outcome
use Rattle.storm_values.specs.declared.value.Root.{Root}
use Rattle.storm_values.specs.declared.value.Value.{Value}
use Rattle.topology_plan.specs.declared.parts.Body.{Body}
use Rattle.topology_plan.specs.declared.parts.Component.{Component}
use Rattle.topology_plan.specs.declared.parts.Origin.TheVariants as origin
use Rattle.topology_plan.specs.Topology.{Topology}
use Rattle.tuple_tickets.specs.Trees.{Course, goes, fails, mute, Growth}
use Rattle.tree_model.specs.Trees.{Node, exec_by, kids, kids_of}

-- a node goes on where its rows are answered
abbrev pub course_of : Outcome → Course
course_of (outcome.Rows rows) = goes
course_of outcome.Fail = fails
course_of outcome.Mute = mute

-- a state's node goes on at each attempt, with no children
abbrev pub course_by : Custom → Body → List Value → ℕ → Course
course_by custom body row attempt = course_of (exec_by custom body row attempt)

-- what an attempt at a node comes to; nothing comes of one without a component
abbrev pub course_at : Topology → Custom → ℕ → Node → Course
course_at t custom attempt node =
    option_map_or (λ (c : Component). course_by custom c.body node.row attempt)
    (slice_get t.components node.component) mute

-- how trees grow where each root has these rows of the spout
abbrev pub growth_of : Topology → Custom → (Root → List (List Value)) → Growth Node
growth_of t custom rows_of = record {
  firsts = λ root. kids t origin.Spout (rows_of root);
  kids = kids_of t custom;
  course = λ root node. course_at t custom root.attempt node;
}
