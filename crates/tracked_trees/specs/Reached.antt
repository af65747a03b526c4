-- Which nodes of a record's tree an attempt reaches. Each record is a root of its own, and below a
-- node that fails or stays mute nothing is made. This project's own.
use Rattle.std.specs.Prelude.{ℕ, zero, suc, Bool, true, false, if◌then◌else◌, List, [], ◌∷◌, length}
use Rattle.std.specs.List.{flat_map, list_all}
use Rattle.tree_model.specs.bolt_ops.RowOp.{Custom}
use Rattle.tree_model.specs.storm_values.declared.value.Value.{Value}
use Rattle.tree_model.specs.topology_plan.declared.parts.Origin.TheVariants as origin
use Rattle.tree_model.specs.topology_plan.Topology.{Topology}
use Rattle.tree_model.specs.tuple_tickets.Trees.{Course, goes, fails, mute}
use Rattle.tree_model.specs.Courses.{course_at}
use Rattle.tree_model.specs.Trees.{Node, kids, kids_of}

abbrev pub is_goes : Course → Bool
is_goes goes = true
is_goes fails = false
is_goes mute = false

-- whether rows are what an attempt at a node comes to
abbrev pub goes_at : Topology → Custom → ℕ → Node → Bool
goes_at t custom attempt node = is_goes (course_at t custom attempt node)

-- the children that are made of a node at an attempt: none where it fails or stays mute
abbrev pub kids_at : Topology → Custom → ℕ → Node → List Node
kids_at t custom attempt node = if goes_at t custom attempt node then kids_of t custom node else []

-- a node and what is reached below it, at most this many levels, in path order
abbrev pub reached_from : ℕ → Topology → Custom → ℕ → Node → List Node
reached_from zero t custom attempt node = []
reached_from (suc levels) t custom attempt node =
    node ∷ flat_map (reached_from levels t custom attempt) (kids_at t custom attempt node)

-- The nodes of a record's tree that are reached at an attempt, in path order: those above which each
-- node comes to rows.
unfoldable pub reached : Topology → Custom → ℕ → List Value → List Node
reached t custom attempt row =
    flat_map (reached_from (length t.components) t custom attempt) (kids t origin.Spout (row ∷ []))

-- a record is good at an attempt where each node that is reached comes to rows
abbrev pub is_good : Topology → Custom → ℕ → List Value → Bool
is_good t custom attempt row =
    list_all (goes_at t custom attempt) (reached t custom attempt row)
