-- What a file says that has no fault, in its own names. Components are the bolts and then the
-- states, each in file order. This project's own.
use Rattle.std.specs.Prelude.{◌≡◌, ◌≢◌, ◌<◌, ◌≤◌, ℕ, List, ◌∷◌, length, All, AllPairs, Some, IfSome, sum_by, true, false}
use Rattle.topology_reader.specs.Prelude.{Opaque, Contains, most_fields, most_tasks_in_all, most_weight, Input, ComponentPart, FileParts, Origin, weight_of, IsThere, IsBetween, IsInRange, components_of, option_map_or}
use Rattle.topology_plan.specs.declared.parts.Origin.TheVariants as origin
use Rattle.topology_plan.specs.Texts.{IsName}
use Rattle.topology_form.specs.declared.parts.GroupingPart.TheVariants as said
use Rattle.topology_reader.specs.Wiring.{component_names, source_of, inputs_at, fields_after, fields_of, fields_to, body_of, component_at}
use Rattle.topology_reader.specs.Planned.{plan_of}
use Rattle.topology_reader.specs.FirstFault.{key_of, fields_read, is_route, keeps_exact}

-- ---- sources

-- a source has 1 to `most_fields` fields, which are names, none twice
pub record HasFields (p : FileParts) (from : Origin) : Type 0 where
  pub count : IsBetween (length (fields_of p from)) 1 most_fields
  pub named : All IsName (fields_of p from)
  pub distinct : AllPairs ◌≢◌ (fields_of p from)

-- ---- components

-- An input names a source that has these fields. The names of its key are among them, none twice,
-- and it is grouped direct where its source is a route alone.
pub record IsValidInput (p : FileParts) (fields : List (List ℕ)) (input : Input) : Type 0 where
  pub from : Origin
  pub named : source_of p input.from ≡ Some from
  pub source : IsThere (length p.bolts) from
  pub comes : fields_of p from ≡ fields
  pub key : AllPairs ◌≢◌ (key_of input.grouping)
  pub key_fields : All (Contains fields) (key_of input.grouping)
  pub direct : input.grouping ≡ said.Direct → option_map_or is_route (body_of p from) false ≡ true

-- the inputs of component c name different sources, all with the same fields, and what
-- it reads is among these
pub record IsValidComponent (p : FileParts) (c : ℕ) : Type 0 where
  pub distinct : AllPairs (λ (a b : Input). a.from ≢ b.from) (inputs_at p c)
  pub inputs : All (IsValidInput p (fields_to p c)) (inputs_at p c)
  pub reads : IfSome (component_at p c)
      (λ part. All (Contains (fields_to p c)) (fields_read part.body))

-- ---- the file

-- components can be numbered so that each has a greater number than each bolt whose rows it takes
pub record IsNumbered (p : FileParts) : Type 0 where
  pub number : ℕ → ℕ
  pub grows : (b c : ℕ)
      → All (λ (input : Input).
      source_of p input.from ≡ Some (origin.Component b) → number b < number c) (inputs_at p c)

-- names, sources, fields, kinds and numbers are such that the file has a plan
pub record IsValidFile (p : FileParts) : Type 0 where
  -- numbers, lengths of lists, and names by themselves
  pub range : IsInRange p
  pub names : AllPairs ◌≢◌ (p.spout.name ∷ component_names p)
  pub numbered : IsNumbered p
  pub spout_fields : fields_of p origin.Spout ≡ p.spout.fields
  -- a component's fields are what its body leaves of those that come to it
  pub component_fields : (c : ℕ)
      → IfSome (component_at p c)
      (λ part. fields_of p (origin.Component c) ≡ fields_after part.body (fields_to p c))
  pub fields : (from : Origin) → IsThere (length p.bolts) from → HasFields p from
  pub components : (c : ℕ) → c < length (components_of p) → IsValidComponent p c
  -- an opaque spout has no transactional state
  pub replays : p.spout.kind ≡ Opaque
      → All (λ (state : ComponentPart). keeps_exact state.body ≡ false) p.states
  -- tasks and parts of all components
  pub tasks : IsBetween (sum_by (λ (part : ComponentPart). part.tasks) (components_of p)) 1
      most_tasks_in_all
  pub weight : weight_of (plan_of p) ≤ most_weight
