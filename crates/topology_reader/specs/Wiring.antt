-- Who feeds whom in what a topology file says, and which fields a source has. Components are the
-- bolts and then the states, each in file order. This project's own.
use Rattle.std.specs.Prelude.{◌≡◌, ◌<◌, ℕ, zero, suc, ◌==◌, ◌&&◌, ◌||◌, List, [], ◌∷◌, ◌++◌, length, map, position, Bool, true, false, if◌then◌else◌, Option, Some, None, option_map, slice_get, slice_index_or}
use Rattle.topology_reader.specs.Prelude.{list_any, filter_map, option_map_or, bytes_eq, Origin, GroupingPart, Input, Operation, shape, Leaves, option_to_list, BodyPart, Bolt, State, ComponentPart, FileParts, components_of, Feed, Rule, fed, feeds_at, value_of}
use Rattle.topology_plan.specs.declared.parts.Origin.TheVariants as origin
use Rattle.topology_form.specs.declared.parts.GroupingPart.TheVariants as said
use Rattle.topology_plan.specs.declared.function.Leaves.TheVariants as leaves

-- ---- names

-- the names of the bolts and then those of the states
abbrev pub component_names : FileParts → List (List ℕ)
component_names p = map (λ (part : ComponentPart). part.name) (components_of p)

-- the component of a number
abbrev pub component_at : FileParts → ℕ → Option ComponentPart
component_at p c = slice_get (components_of p) c

-- the name of a component number
abbrev pub name_at : FileParts → ℕ → List ℕ
name_at p c = option_map_or (λ (part : ComponentPart). part.name) (component_at p c) []

-- the source of a name: the spout, or a bolt by its number
abbrev pub source_of : FileParts → List ℕ → Option Origin
source_of p name =
    if bytes_eq p.spout.name name then Some origin.Spout
    else option_map origin.Component
    (position (λ (bolt : ComponentPart). bytes_eq bolt.name name) p.bolts)

-- ---- inputs

-- the inputs of each component
abbrev pub inputs_by_component : FileParts → List (List Input)
inputs_by_component p = map (λ (part : ComponentPart). part.inputs) (components_of p)

-- the inputs of a component number
abbrev pub inputs_at : FileParts → ℕ → List Input
inputs_at p c = slice_index_or (inputs_by_component p) c []

-- the sources of some inputs, in their order
abbrev pub sources_among : FileParts → List Input → List Origin
sources_among p inputs = filter_map (λ (input : Input). source_of p input.from) inputs

-- ---- the graph

-- how many copies of a tuple a consumer with these tasks gets
abbrev pub copies_said : GroupingPart → ℕ → ℕ
copies_said said.All tasks = tasks
copies_said _ tasks = 1

-- the subscription that an input is of a consumer with these tasks, where it names a source
abbrev pub feed_of : FileParts → ℕ → Input → Option Feed
feed_of p tasks input =
    option_map (λ from. record { from = from; copies = copies_said input.grouping tasks })
    (source_of p input.from)

-- the subscriptions of each component
abbrev pub graph_of : FileParts → List (List Feed)
graph_of p =
    map (λ (part : ComponentPart). filter_map (feed_of p part.tasks) part.inputs) (components_of p)

-- ---- paths

-- the source is the bolt of this number
abbrev pub is_component : ℕ → Origin → Bool
is_component c origin.Spout = false
is_component c (origin.Component d) = c == d

-- bolt a is a source of component b
abbrev pub feeds : FileParts → ℕ → ℕ → Bool
feeds p a b = list_any (is_component a) (sources_among p (inputs_at p b))

-- There is a path from bolt a to component b, of one subscription or more, on which the bolts in
-- between are among the first n. With all bolts it is any path.
abbrev pub reaches_over : ℕ → FileParts → ℕ → ℕ → Bool
reaches_over zero p a b = feeds p a b
reaches_over (suc n) p a b = reaches_over n p a b || (reaches_over n p a n && reaches_over n p n b)

-- there is a path from bolt a to component b
unfoldable pub reaches : FileParts → ℕ → ℕ → Bool
reaches p a b = reaches_over (length p.bolts) p a b

-- bolt a feeds the first of these bolts, each of them feeds the next, and the last feeds component
-- b
abbrev pub IsPathThrough : FileParts → ℕ → List ℕ → ℕ → Type 0
IsPathThrough p a [] b = feeds p a b ≡ true
IsPathThrough p a (next ∷ bolts) b =
    (next < length p.bolts) × (feeds p a next ≡ true) × IsPathThrough p next bolts b

-- there is a path from bolt a to component b, through some bolts or none
abbrev pub IsPath : FileParts → ℕ → ℕ → Type 0
IsPath p a b = (bolts : List ℕ) × IsPathThrough p a bolts b

-- ---- fields

-- the fields that an operation leaves of these
abbrev pub fields_left : Leaves → Operation → List (List ℕ) → List (List ℕ)
fields_left leaves.Same operation fields = fields
fields_left leaves.Read operation fields = operation.reads
fields_left leaves.Made operation fields = option_to_list operation.into
fields_left leaves.More operation fields = fields ++ option_to_list operation.into

-- the fields that a bolt's operation leaves; a state leaves none
abbrev pub fields_after : BodyPart → List (List ℕ) → List (List ℕ)
fields_after (Bolt operation) fields =
    fields_left (shape operation.function).leaves operation fields
fields_after (State state) fields = []

-- what the first of some sources has
abbrev pub first_of : List (Feed × List (List ℕ)) → List (List ℕ)
first_of [] = []
first_of (one ∷ others) = one.1

-- a component's fields are what its body leaves of those of its first source
abbrev pub fields_rule : FileParts → Rule (List (List ℕ))
fields_rule p = record {
  spout = p.spout.fields;
  nothing = [];
  over = λ c come.
      option_map_or (λ (part : ComponentPart). fields_after part.body (first_of come))
      (component_at p c) [];
}

-- the fields of a source, where there is no cycle
unfoldable pub fields_of : FileParts → Origin → List (List ℕ)
fields_of p from = value_of (fields_rule p) (graph_of p) from

-- the fields of what comes to a component
abbrev pub fields_to : FileParts → ℕ → List (List ℕ)
fields_to p c = first_of (fed (fields_of p) (feeds_at (graph_of p) c))

-- the body of a source that is a component
abbrev pub body_of : FileParts → Origin → Option BodyPart
body_of p origin.Spout = None
body_of p (origin.Component c) = option_map (λ (part : ComponentPart). part.body) (component_at p c)
