-- Which parts the states of a topology have, and in which order. This project's own.
use Rattle.std.specs.Prelude.{◌≡◌, ◌+◌, ◌⊎◌, ℕ, zero, suc, List, [], ◌∷◌, map, Option, Some, option_map, slice_get, length}
use Rattle.std.specs.List.{flat_map, range_with_len}
use Rattle.std.specs.Option.{option_map_or}
use Rattle.tree_model.specs.topology_plan.declared.parts.Body.{Body}
use Rattle.tree_model.specs.topology_plan.declared.parts.Body.TheVariants.{Bolt, State}
use Rattle.tree_model.specs.topology_plan.declared.parts.Component.{Component}
use Rattle.tree_model.specs.topology_plan.declared.parts.Fold.{Fold}
use Rattle.tree_model.specs.topology_plan.declared.parts.Kind.{Kind}
use Rattle.tree_model.specs.topology_plan.Topology.{Topology}
use Rattle.state_parts.specs.declared.parts.StatePart.{StatePart}

-- a part by its state's component number and its own, and how its cells are kept and folded
pub record PartPlan : Type 0 where
  pub component : ℕ
  pub part : ℕ
  pub kind : Kind
  pub by : Fold

-- the part of a number of a state
abbrev pub part_by : ℕ → Kind → Fold → ℕ → PartPlan
part_by number kind by part = record {
  component = number;
  part = part;
  kind = kind;
  by = by;
}

-- the parts of a component in order: a state has so many, a bolt has none
abbrev pub parts_by : ℕ → ℕ → Body → List PartPlan
parts_by number tasks (Bolt op) = []
parts_by number tasks (State spec) =
    map (part_by number spec.kind spec.fold) (range_with_len 0 tasks)

-- the parts of the component of a number
abbrev pub parts_at : Topology → ℕ → List PartPlan
parts_at t number =
    option_map_or (λ (component : Component). parts_by number component.tasks component.body)
    (slice_get t.components number) []

-- the parts of the components with the first numbers, so many of them
abbrev pub parts_below : Topology → ℕ → List PartPlan
parts_below t count = flat_map (parts_at t) (range_with_len 0 count)

-- the parts of all states, in the order of the states and of the parts
abbrev pub planned_parts : Topology → List PartPlan
planned_parts t = parts_below t (length t.components)

-- ---- parts over stores

-- what a part over a store is planned as
abbrev pub plan_of : {S : Type 0} → StatePart S → PartPlan
plan_of at = record {
  component = at.component;
  part = at.part;
  kind = at.over.kind;
  by = at.over.by;
}

abbrev pub plans_of : {S : Type 0} → List (StatePart S) → List PartPlan
plans_of parts = map plan_of parts

-- the parts are those of the topology's states, in order
abbrev pub AreParts : {S : Type 0} → Topology → List (StatePart S) → Type 0
AreParts t parts = plans_of parts ≡ planned_parts t

-- ---- places

-- one of the parts has these numbers
abbrev pub IsOneOf : List PartPlan → ℕ → ℕ → Type 0
IsOneOf [] component part = ⊥
IsOneOf (x ∷ xs) component part =
    ((component ≡ x.component) × (part ≡ x.part)) ⊎ IsOneOf xs component part

-- no two parts have the same numbers
abbrev pub AreApart : List PartPlan → Type 0
AreApart [] = Unit {0}
AreApart (x ∷ xs) = (IsOneOf xs x.component x.part → ⊥) × AreApart xs

-- the place of a part by the places of the components' first parts
abbrev pub place_by : List ℕ → ℕ → ℕ → Option ℕ
place_by firsts component part = option_map (λ first. first + part) (slice_get firsts component)

-- each part stands at its place, where the first of these stands at n
abbrev pub AreIndexed : List ℕ → ℕ → List PartPlan → Type 0
AreIndexed firsts n [] = Unit {0}
AreIndexed firsts n (x ∷ xs) =
    (place_by firsts x.component x.part ≡ Some n) × AreIndexed firsts (n + 1) xs

-- the part of these numbers stands at this place, and no other part has them
abbrev pub IsFound : List PartPlan → ℕ → ℕ → ℕ → Type 0
IsFound [] component part place = ⊥
IsFound (x ∷ xs) component part zero =
    ((component ≡ x.component) × (part ≡ x.part)) × (IsOneOf xs component part → ⊥)
IsFound (x ∷ xs) component part (suc place) =
    (((component ≡ x.component) × (part ≡ x.part)) → ⊥) × IsFound xs component part place
