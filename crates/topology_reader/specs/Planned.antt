-- The topology of what a file says. It means something where the file has no
-- fault. This project's own.
use Rattle.std.specs.Prelude.{ℕ, ◌==◌, List, map, filter, position, Bool, true, false, option_map, unwrap_or, sum_by, take, slice_get, if◌then◌else◌}
use Rattle.topology_reader.specs.Prelude.{enumerate_from, flat_map, option_map_or, bytes_eq, Origin, GroupingPart, Input, Operation, shape, BodyPart, Bolt, State, ComponentPart, FileParts, components_of, Topology}
use Rattle.topology_plan.specs.declared.parts.{Body.Body, Component.Component, Grouping.Grouping, Op.Op, Sub.Sub}
use Rattle.topology_plan.specs.declared.parts.Body.TheVariants as body
use Rattle.topology_plan.specs.declared.parts.Grouping.TheVariants as grouping
use Rattle.topology_plan.specs.declared.parts.Origin.TheVariants as origin
use Rattle.topology_form.specs.declared.parts.GroupingPart.TheVariants as said
use Rattle.topology_reader.specs.Wiring.{source_of, inputs_by_component, fields_of, fields_to, body_of}

-- ---- fields by their numbers

-- the place of a field's name among these, from 0
abbrev pub number_of : List (List ℕ) → List ℕ → ℕ
number_of fields name = unwrap_or (position (λ field. bytes_eq field name) fields) 0

-- the same of some names
abbrev pub numbers_of : List (List ℕ) → List (List ℕ) → List ℕ
numbers_of fields names = map (number_of fields) names

-- an operation with the numbers of its fields, which come with these names
abbrev pub planned_operation : List (List ℕ) → Operation → Op
planned_operation fields operation =
    record { reads = numbers_of fields operation.reads; function = operation.function }

-- the same of a body
abbrev pub planned_body : List (List ℕ) → BodyPart → Body
planned_body fields (Bolt operation) = body.Bolt (planned_operation fields operation)
planned_body fields (State state) = body.State (record {
  kind = state.kind;
  key = numbers_of fields state.key;
  amount = option_map (number_of fields) state.amount;
  fold = state.fold;
})

-- ---- subscriptions

-- the number of the field by which an operation chooses tasks
abbrev pub route_field : List (List ℕ) → BodyPart → ℕ
route_field fields (Bolt operation) =
    if (shape operation.function).chooses
    then option_map_or (number_of fields) (slice_get operation.reads 0) 0 else 0
route_field fields (State state) = 0

-- the grouping of a subscription to a source, in the numbers of the source's fields
abbrev pub planned_grouping : FileParts → Origin → GroupingPart → Grouping
planned_grouping p from said.Shuffle = grouping.Shuffle
planned_grouping p from (said.Fields key) = grouping.Fields (numbers_of (fields_of p from) key)
planned_grouping p from said.All = grouping.All
planned_grouping p from said.Global = grouping.Global
planned_grouping p from said.Direct =
    grouping.Direct (option_map_or (route_field (fields_of p from)) (body_of p from) 0)

-- the two sources are one
abbrev pub is_origin : Origin → Origin → Bool
is_origin origin.Spout origin.Spout = true
is_origin origin.Spout (origin.Component d) = false
is_origin (origin.Component c) origin.Spout = false
is_origin (origin.Component c) (origin.Component d) = c == d

-- the subscriptions of a component to a source
abbrev pub subs_of_component : FileParts → Origin → ℕ × List Input → List Sub
subs_of_component p from component =
    map (λ (input : Input).
    record { to = component.0; grouping = planned_grouping p from input.grouping })
    (filter (λ (input : Input). option_map_or (is_origin from) (source_of p input.from) false)
    component.1)

-- the subscriptions to a source, in the order of their consumers
abbrev pub planned_subs : FileParts → Origin → List Sub
planned_subs p from = flat_map (subs_of_component p from) (enumerate_from 0 (inputs_by_component p))

-- ---- components

-- tasks are numbered through the components
abbrev pub first_task_of : FileParts → ℕ → ℕ
first_task_of p c = sum_by (λ (part : ComponentPart). part.tasks) (take c (components_of p))

-- the component of a part and its number
abbrev pub planned_component : FileParts → ℕ × ComponentPart → Component
planned_component p numbered = record {
  name = (numbered.1).name;
  first_task = first_task_of p numbered.0;
  tasks = (numbered.1).tasks;
  fields = fields_of p (origin.Component numbered.0);
  body = planned_body (fields_to p numbered.0) (numbered.1).body;
}

-- the whole plan
unfoldable pub plan_of : FileParts → Topology
plan_of p = record {
  spout_fields = p.spout.fields;
  spout_kind = p.spout.kind;
  batch = p.spout.batch;
  partitions = p.spout.partitions;
  components = map (planned_component p) (enumerate_from 0 (components_of p));
  spout_subs = planned_subs p origin.Spout;
  component_subs =
      map (λ (numbered : ℕ × List Input). planned_subs p (origin.Component numbered.0))
      (enumerate_from 0 (inputs_by_component p));
  ackers = p.ackers;
  pending = p.pending;
  buckets = p.buckets;
  attempts = p.attempts;
}
