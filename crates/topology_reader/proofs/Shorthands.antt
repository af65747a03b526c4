-- Short words for what the definitions say in full.
use Rattle.std.specs.Prelude.{◌≢◌, ℕ, zero, suc, List, [], ◌∷◌, length, map, Bool, false, if◌then◌else◌, Option, Some, None, option_map, AllPairs}
use Rattle.topology_reader.specs.Prelude.{IsThere, Data, NotJson, TopoFault, form_fault, parts_said, first_some, option_map_or, filter_map, bytes_eq, Origin, Input, ComponentPart, FileParts, components_of, Feed, values_of}
use Rattle.topology_reader.specs.Wiring.{source_of, inputs_at, sources_among, feed_of, graph_of, fields_rule}
use Rattle.topology_reader.specs.Planned.{is_origin, planned_grouping}
use Rattle.topology_reader.specs.Steps.{with_sub}
use Rattle.topology_plan.specs.declared.parts.{Sub.Sub}
use Rattle.topology_reader.specs.FirstFault.{meaning_fault}

-- how many components there are
abbrev pub component_count : FileParts → ℕ
component_count p = length (components_of p)

-- the names of the bolts, in file order
abbrev pub bolt_names : FileParts → List (List ℕ)
bolt_names p = map (λ (bolt : ComponentPart). bolt.name) p.bolts

-- the place of the first name that is this one
abbrev pub place_of : List (List ℕ) → List ℕ → Option ℕ
place_of [] name = None
place_of (first ∷ names) name =
    if bytes_eq first name then Some zero else option_map suc (place_of names name)

-- the sources of a component
abbrev pub sources_at : FileParts → ℕ → List Origin
sources_at p c = sources_among p (inputs_at p c)

-- the subscriptions of a component with these tasks and inputs
abbrev pub feeds_of : FileParts → ℕ → List Input → List Feed
feeds_of p tasks inputs = filter_map (feed_of p tasks) inputs

-- of each component its fields
abbrev pub field_table : FileParts → List (Option (List (List ℕ)))
field_table p = map Some (values_of (fields_rule p) (graph_of p))

-- the input is of this source
abbrev pub is_from : FileParts → Origin → Input → Bool
is_from p from input = option_map_or (is_origin from) (source_of p input.from) false

-- of a file's value first its form, then what it says
abbrev pub value_fault : Option Data → Option TopoFault
value_fault found = option_map_or (λ value. first_some (form_fault value ∷ meaning_fault (parts_said value) ∷ [])) found (Some NotJson)

-- no name stands twice
abbrev pub AreDistinct : List (List ℕ) → Type 0
AreDistinct names = AllPairs (λ a b. a ≢ b) names

-- the source is the spout or a bolt
abbrev pub IsSource : FileParts → Origin → Type 0
IsSource p from = IsThere (length p.bolts) from

-- tasks and parts of the components
abbrev pub tasks_by_component : FileParts → List ℕ
tasks_by_component p = map (λ (part : ComponentPart). part.tasks) (components_of p)

-- an input of a component, at its source
abbrev pub with_input : FileParts → ℕ → List (List Sub) → Input → List (List Sub)
with_input p to table input =
    option_map_or
    (λ from. with_sub table from (record { to = to; grouping = planned_grouping p from input.grouping }))
    (source_of p input.from) table
