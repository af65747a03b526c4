-- The tree of tuples that grows from some rows of the spout, and what its state nodes write.
use Rattle.std.specs.Prelude.{ℕ, zero, suc, ◌%◌, ℤ, pos, List, [], ◌∷◌, length, map, filter, nat_lt, replicate, slice_get, Option, Some, None, IsSome, option_and_then}
use Rattle.std.specs.Option.{option_map_or}
use Rattle.std.specs.List.{flat_map, filter_map}
use Rattle.storm_values.specs.declared.value.Value.{Value}
use Rattle.storm_values.specs.declared.value.Value.TheVariants.{Int, Text}
use Rattle.storm_values.specs.Keys.{hash_of, text_of}
use Rattle.storm_values.specs.Rows.{values_in}
use Rattle.bolt_ops.specs.Operations.{out, exec_of}
use Rattle.bolt_ops.specs.declared.operation.Outcome.{Outcome}
use Rattle.bolt_ops.specs.declared.operation.Outcome.TheVariants as outcome
use Rattle.bolt_ops.specs.RowOp.{Custom}
use Rattle.topology_plan.specs.declared.parts.Body.{Body}
use Rattle.topology_plan.specs.declared.parts.Body.TheVariants.{Bolt, State}
use Rattle.topology_plan.specs.declared.parts.Component.{Component}
use Rattle.topology_plan.specs.declared.parts.Fold.{Fold}
use Rattle.topology_plan.specs.declared.parts.Fold.TheVariants.{Count, Sum, Last, Max}
use Rattle.topology_plan.specs.declared.parts.Fold.TheVariants as fold_of
use Rattle.topology_plan.specs.declared.parts.Origin.{Origin}
use Rattle.topology_plan.specs.declared.parts.Origin.TheVariants as origin
use Rattle.topology_plan.specs.declared.parts.StateSpec.{StateSpec}
use Rattle.topology_plan.specs.declared.parts.Sub.{Sub}
use Rattle.topology_plan.specs.Topology.{Topology, subs_of, copies_of}
use Rattle.tuple_tickets.specs.Trees.{descendant, node_in}
use Rattle.tree_model.specs.declared.write.Write.{Write}

-- A tuple that has come to a component.
pub record Node : Type 0 where
  pub component : ℕ
  pub row : List Value

-- the nodes that a row makes at the consumer of a subscription, one for each copy
abbrev pub copies_at : Topology → List Value → Sub → List Node
copies_at t row sub = replicate (copies_of t sub) (record { component = sub.to; row = row })

-- the nodes that a row of a source makes, subscription by subscription
abbrev pub kids_by : Topology → Origin → List Value → List Node
kids_by t from row = flat_map (copies_at t row) (subs_of t from)

-- the nodes that rows of a source make, row by row
abbrev pub kids : Topology → Origin → List (List Value) → List Node
kids t from rows = flat_map (kids_by t from) rows

-- the rows that a component makes of a row; a state makes none
abbrev pub rows_by : Custom → Body → List Value → List (List Value)
rows_by custom (Bolt op) row = out custom op row
rows_by custom (State spec) row = []

-- a row for each piece of a text that is a word
abbrev pub word_rows : List (List ℕ) → List (List Value)
word_rows pieces =
    map (λ word. Text word ∷ []) (filter (λ (piece : List ℕ). nat_lt 0 (length piece)) pieces)

-- the children of a node
abbrev pub kids_of : Topology → Custom → Node → List Node
kids_of t custom node =
    option_map_or
    (λ (c : Component).
    kids t (origin.Component node.component) (rows_by custom c.body node.row))
    (slice_get t.components node.component) []

-- the node at a path from a node
abbrev pub node_from : Topology → Custom → Node → List ℕ → Option Node
node_from t custom = descendant (kids_of t custom)

-- the node at a path in the tree of the spout's rows
abbrev pub node_at : Topology → Custom → List (List Value) → List ℕ → Option Node
node_at t custom rows = node_in (kids_of t custom) (kids t origin.Spout rows)

-- the tree of the spout's rows has this path
abbrev pub IsInTree : Topology → Custom → List (List Value) → List ℕ → Type 0
IsInTree t custom rows path = IsSome (node_at t custom rows path)

-- a node and what is below it, at most this many levels, in path order: a node right
-- before its children's trees
abbrev pub nodes_from : ℕ → Topology → Custom → Node → List Node
nodes_from zero t custom node = []
nodes_from (suc levels) t custom node =
    node ∷ flat_map (nodes_from levels t custom) (kids_of t custom node)

-- All nodes of the tree, in path order. A chain of subscriptions goes through each component at
-- most once, so that there are no more levels than components.
unfoldable pub nodes_of : Topology → Custom → List (List Value) → List Node
nodes_of t custom rows =
    flat_map (nodes_from (length t.components) t custom) (kids t origin.Spout rows)

-- how many nodes the tree has
abbrev pub node_count : Topology → Custom → List (List Value) → ℕ
node_count t custom rows = length (nodes_of t custom rows)

-- ---- a node at an attempt

-- what an attempt at a row comes to in a component; a state makes no rows, and
-- neither fails nor stays mute
abbrev pub exec_by : Custom → Body → List Value → ℕ → Outcome
exec_by custom (Bolt op) row attempt = exec_of custom op row attempt
exec_by custom (State spec) row attempt = outcome.Rows []

-- what an attempt at a node comes to; attempts are counted from 1
abbrev pub exec_at : Topology → Custom → ℕ → Node → Outcome
exec_at t custom attempt node =
    option_map_or (λ (c : Component). exec_by custom c.body node.row attempt)
    (slice_get t.components node.component) (outcome.Rows [])

-- ---- writes

-- the values of a state's key in a row
abbrev pub key_of : StateSpec → List Value → List Value
key_of spec row = values_in row spec.key

-- the number in a field, 0 where it is a text or not there
abbrev pub int_of : Option Value → ℤ
int_of None = pos 0
int_of (Some (Int number)) = number
int_of (Some (Text bytes)) = pos 0

-- 1 for a count, else the number in the field of the amount
abbrev pub amount_by : Fold → Option Value → ℤ
amount_by Count field = pos 1
amount_by Sum field = int_of field
amount_by Last field = int_of field
amount_by Max field = int_of field
amount_by fold_of.Custom field = int_of field

-- what a state with this many parts is to add for a row
abbrev pub write_by : ℕ → ℕ → Body → List Value → Option Write
write_by component parts (Bolt op) row = None
write_by component parts (State spec) row = Some (record {
  state = component;
  part = hash_of (key_of spec row) % parts;
  key = text_of (key_of spec row);
  amount = amount_by spec.fold (option_and_then (slice_get row) spec.amount);
})

-- the write of a node; a bolt's has none
abbrev pub write_of : Topology → Node → Option Write
write_of t node =
    option_and_then (λ (c : Component). write_by node.component c.tasks c.body node.row)
    (slice_get t.components node.component)

-- the writes of the tree's state nodes, in path order
abbrev pub writes : Topology → Custom → List (List Value) → List Write
writes t custom rows = filter_map (write_of t) (nodes_of t custom rows)
