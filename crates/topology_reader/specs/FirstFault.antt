-- Which fault a topology file has first, and which plan it has where it has none. This project's
-- own.
use Rattle.std.specs.Prelude.{◌≡◌, ℕ, ◌+◌, pos, List, [], ◌∷◌, ◌++◌, length, map, Bool, true, false, not, nat_lt, if◌then◌else◌, Option, Some, None, option_map, option_and_then, is_none, codes}
use Rattle.topology_reader.specs.Prelude.{pointwise, find, range_fault, Data, json_of, most_topology_bytes, most_fields, TooLong, NotJson, form_fault, parts_said, Topology, list_any, range_with_len, option_map_or, option_to_list, bytes_eq, first_some, most_tasks_in_all, most_weight, GroupingPart, Input, shape, Leaves, BodyPart, Bolt, State, ComponentPart, FileParts, components_of, TopoFault, WrongKind, Twice, NoSource, Cycle, FieldsDiffer, NoField, NotExactlyOnce, Weight, Kind, Transactional, Opaque, tasks_in_all, weight_of, Feed, feeds_at, by_depth}
use Rattle.topology_form.specs.declared.parts.GroupingPart.TheVariants as said
use Rattle.topology_plan.specs.declared.function.Leaves.TheVariants as leaves
use Rattle.topology_reader.specs.Wiring.{component_names, name_at, source_of, graph_of, reaches, fields_of, fields_to, body_of, component_at}
use Rattle.topology_reader.specs.Planned.{plan_of}

-- the text is among these
abbrev pub is_among : List (List ℕ) → List ℕ → Bool
is_among texts text = list_any (bytes_eq text) texts

-- ---- names that stand twice

-- the first name that equals one before it
abbrev pub first_again : List (List ℕ) → List (List ℕ) → Option (List ℕ)
first_again before [] = None
first_again before (name ∷ names) =
    if is_among before name then Some name else first_again (name ∷ before) names

-- some names of which one stands twice
abbrev pub again_fault : List (List ℕ) → Option TopoFault
again_fault names = option_map Twice (first_again [] names)

-- the key that a grouping names
abbrev pub key_of : GroupingPart → List (List ℕ)
key_of (said.Fields key) = key
key_of _ = []

-- the names that are read, where an operation leaves these
abbrev pub read_left : Leaves → List (List ℕ) → List (List ℕ)
read_left leaves.Read names = names
read_left _ names = []

-- the names that an operation puts in the place of the fields
abbrev pub projected : BodyPart → List (List ℕ)
projected (Bolt operation) = read_left (shape operation.function).leaves operation.reads
projected (State state) = []

-- the key of a state
abbrev pub own_key : BodyPart → List (List ℕ)
own_key (State state) = state.key
own_key _ = []

-- a component names twice a field in its own key, a source, a field in the key of an input, or
-- among the projected
abbrev pub component_twice : ComponentPart → Option TopoFault
component_twice part =
    first_some
    (again_fault (own_key part.body)
    ∷ again_fault (map (λ (input : Input). input.from) part.inputs)
    ∷ first_some (map (λ (input : Input). again_fault (key_of input.grouping)) part.inputs)
    ∷ again_fault (projected part.body) ∷ [])

-- the first name that stands twice: among the spout and the components, in the spout's fields, in a
-- component
abbrev pub twice_fault : FileParts → Option TopoFault
twice_fault p =
    first_some
    (again_fault (p.spout.name ∷ component_names p) ∷ again_fault p.spout.fields
    ∷ first_some (map component_twice (components_of p)) ∷ [])

-- ---- sources

-- the first input of a component that names neither the spout nor a bolt
abbrev pub nameless_fault : FileParts → ComponentPart → Option TopoFault
nameless_fault p part =
    option_map (λ (input : Input). NoSource input.from)
    (find (λ (input : Input). is_none (source_of p input.from)) part.inputs)

-- the first input of all that names no source
abbrev pub source_fault : FileParts → Option TopoFault
source_fault p = first_some (map (nameless_fault p) (components_of p))

-- the first bolt that can be reached from itself
abbrev pub cycle_fault : FileParts → Option TopoFault
cycle_fault p =
    option_map (λ c. Cycle (name_at p c))
    (find (λ c. reaches p c c) (range_with_len 0 (length p.bolts)))

-- ---- fields

-- two of the sources have different fields
abbrev pub differ_fault : FileParts → ℕ → Option TopoFault
differ_fault p c =
    if list_any
    (λ (feed : Feed). not (pointwise bytes_eq (fields_of p feed.from) (fields_to p c)))
    (feeds_at (graph_of p) c) then Some (FieldsDiffer (name_at p c)) else None

-- the first of some names that is no field of what comes to the component
abbrev pub field_fault : FileParts → ℕ → List (List ℕ) → Option TopoFault
field_fault p c names =
    option_map (NoField (name_at p c)) (find (λ name. not (is_among (fields_to p c) name)) names)

-- the operation chooses the tasks of its rows
abbrev pub is_route : BodyPart → Bool
is_route (Bolt operation) = (shape operation.function).chooses
is_route (State state) = false

-- the source chooses the task by a route
abbrev pub chooses : FileParts → Input → Bool
chooses p input =
    option_map_or is_route (option_and_then (body_of p) (source_of p input.from)) false

-- a direct grouping of a source that does not choose
abbrev pub direct_fault : FileParts → Input → GroupingPart → Option TopoFault
direct_fault p input said.Direct =
    if chooses p input then None else Some (WrongKind (codes "grouping"))
direct_fault p input _ = None

-- first the names of the key, then the source of a direct grouping
abbrev pub input_fault : FileParts → ℕ → Input → Option TopoFault
input_fault p c input =
    first_some (field_fault p c (key_of input.grouping) ∷ direct_fault p input input.grouping ∷ [])

-- the fields that a bolt's operation reads, or a state's key and what it adds up or keeps
abbrev pub fields_read : BodyPart → List (List ℕ)
fields_read (Bolt operation) = operation.reads
fields_read (State state) = state.key ++ option_to_list state.amount

-- a field that is made beside these is there already, or there are `most_fields` without it
abbrev pub one_more_fault : List (List ℕ) → List ℕ → Option TopoFault
one_more_fault fields into =
    if is_among fields into then Some (Twice into)
    else range_fault (codes "fields") 1 most_fields (pos (length fields + 1))

-- the same of an operation that leaves these fields and makes this one
abbrev pub more_fault : Leaves → List (List ℕ) → Option (List ℕ) → Option TopoFault
more_fault leaves.More fields into = option_and_then (one_more_fault fields) into
more_fault _ fields into = None

-- the same of a body
abbrev pub added_fault : List (List ℕ) → BodyPart → Option TopoFault
added_fault fields (Bolt operation) =
    more_fault (shape operation.function).leaves fields operation.into
added_fault fields (State state) = None

-- the first fault of fields of a component: its sources, its inputs in order, what it reads, what
-- it adds
abbrev pub component_fault : FileParts → ℕ → Option TopoFault
component_fault p c =
    option_and_then
    (λ (part : ComponentPart).
    first_some
    (differ_fault p c ∷ first_some (map (input_fault p c) part.inputs)
    ∷ field_fault p c (fields_read part.body) ∷ added_fault (fields_to p c) part.body ∷ []))
    (component_at p c)

-- component by component, by depth, then in file order
abbrev pub fields_fault : FileParts → Option TopoFault
fields_fault p = first_some (map (component_fault p) (by_depth (graph_of p)))

-- ---- the whole

abbrev pub is_transactional : Kind → Bool
is_transactional Transactional = true
is_transactional Opaque = false

abbrev pub keeps_exact : BodyPart → Bool
keeps_exact (State state) = is_transactional state.kind
keeps_exact _ = false

-- an opaque spout, and the first transactional state
abbrev pub replay_fault : FileParts → Kind → Option TopoFault
replay_fault p Transactional = None
replay_fault p Opaque =
    option_map (λ (part : ComponentPart). NotExactlyOnce part.name)
    (find (λ (part : ComponentPart). keeps_exact part.body) p.states)

-- the tasks in all, and then a weight above the most
abbrev pub size_fault : ℕ → ℕ → Option TopoFault
size_fault tasks weight =
    first_some
    (range_fault (codes "tasks in all") 1 most_tasks_in_all (pos tasks)
    ∷ (if nat_lt most_weight weight then Some (Weight weight) else None) ∷ [])

-- the first fault of what a file says, in the order of the checks
unfoldable pub meaning_fault : FileParts → Option TopoFault
meaning_fault p =
    first_some
    (twice_fault p ∷ source_fault p ∷ cycle_fault p ∷ fields_fault p
    ∷ replay_fault p p.spout.kind ∷ size_fault (tasks_in_all (plan_of p)) (weight_of (plan_of p))
    ∷ [])

-- ---- the file

-- the first fault of a file: it is longer than the most bytes, or it is no JSON, or that of its
-- value, first of its form, then of what it says
unfoldable pub first_fault : List ℕ → Option TopoFault
first_fault bytes =
    if nat_lt most_topology_bytes (length bytes) then Some (TooLong (length bytes))
    else option_map_or
    (λ value. first_some (form_fault value ∷ meaning_fault (parts_said value) ∷ []))
    (json_of bytes) (Some NotJson)

-- the file has no fault, and its topology is t
abbrev pub IsFilePlan : List ℕ → Topology → Type 0
IsFilePlan bytes t =
    (first_fault bytes ≡ None) × (value : Data) × (json_of bytes ≡ Some value)
    × (t ≡ plan_of (parts_said value))
