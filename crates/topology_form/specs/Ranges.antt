-- How large the numbers and the lists are of what a file says, and what its names are, where it has
-- no fault of form. This project's own.
use Rattle.std.specs.Prelude.{◌≡◌, ◌<◌, ◌≤◌, ℕ, List, ◌++◌, length, Bool, true, false, Option, None, IsSome, All}
use Rattle.topology_form.specs.Prelude.{most_fields, most_batch, most_partitions, most_tasks, most_bolt_inputs, most_state_inputs, most_bolts, most_states, most_ackers, most_pending, least_buckets, most_buckets, most_attempts, FileParts, IsName, Fold, Count, GroupingPart, Input, SpoutPart, BodyPart, Bolt, State, ComponentPart, Opaque}
use Rattle.topology_form.specs.declared.parts.GroupingPart.TheVariants as said
use Rattle.topology_form.specs.Operations.{IsOperationInRange}
use Rattle.topology_plan.specs.{Valid.IsBetween}

-- the spout's name, its fields, how many records a batch has, and the partitions of an opaque spout
pub record IsSpoutInRange (spout : SpoutPart) : Type 0 where
  pub name : IsName spout.name
  pub fields : IsBetween (length spout.fields) 1 most_fields
  pub field_names : All IsName spout.fields
  pub batch : IsBetween spout.batch 1 most_batch
  pub partitions : spout.partitions ≤ most_partitions
  pub partitioned : 0 < spout.partitions → spout.kind ≡ Opaque

-- the names of a key
abbrev pub IsGroupingInRange : GroupingPart → Type 0
IsGroupingInRange (said.Fields key) = IsBetween (length key) 1 most_fields
IsGroupingInRange _ = Unit {0}

-- a count has no amount, and every other fold has one
abbrev pub HasAmount : Fold → Option (List ℕ) → Type 0
HasAmount Count amount = amount ≡ None
HasAmount _ amount = IsSome amount

-- a bolt's operation and how many inputs it has; the same of a state, and its key and its amount
abbrev pub IsBodyInRange : BodyPart → List Input → Type 0
IsBodyInRange (Bolt operation) inputs =
    IsOperationInRange operation × IsBetween (length inputs) 1 most_bolt_inputs
IsBodyInRange (State state) inputs =
    HasAmount state.fold state.amount × IsBetween (length inputs) 1 most_state_inputs
    × IsBetween (length state.key) 1 most_fields
    × All (λ (input : Input). input.grouping ≡ said.Fields state.key) inputs

-- a component's name, tasks, inputs and body
pub record IsComponentInRange (part : ComponentPart) : Type 0 where
  pub name : IsName part.name
  pub tasks : IsBetween part.tasks 1 most_tasks
  pub groupings : All (λ (input : Input). IsGroupingInRange input.grouping) part.inputs
  pub body : IsBodyInRange part.body part.inputs

abbrev pub is_bolt : BodyPart → Bool
is_bolt (Bolt operation) = true
is_bolt (State state) = false

-- the bolts and then the states, each in file order
abbrev pub components_of : FileParts → List ComponentPart
components_of p = p.bolts ++ p.states

-- the spout, each component, how many they are, and the numbers of the whole file
pub record IsInRange (p : FileParts) : Type 0 where
  pub spout : IsSpoutInRange p.spout
  pub bolts : length p.bolts ≤ most_bolts
  pub are_bolts : All (λ (part : ComponentPart). is_bolt part.body ≡ true) p.bolts
  pub states : IsBetween (length p.states) 1 most_states
  pub are_states : All (λ (part : ComponentPart). is_bolt part.body ≡ false) p.states
  pub each : All IsComponentInRange (components_of p)
  pub ackers : IsBetween p.ackers 1 most_ackers
  pub pending : IsBetween p.pending 1 most_pending
  pub buckets : IsBetween p.buckets least_buckets most_buckets
  pub attempts : IsBetween p.attempts 1 most_attempts
