-- What the steps of the checks have done, which no public contract cites.
use Rattle.std.specs.Prelude.{bit_or, if◌then◌else◌, ◌≡◌, ◌<◌, ◌==◌, ℕ, ◌+◌, Bool, List, [], ◌∷◌, ◌++◌, length, map, fold, Option, slice_index, slice_index_or, slice_set, Vec}
use Rattle.std.specs.declared.alloc.Global.{Global}
use Rattle.std.specs.Borrow.{Bor}
use Rattle.std.specs.Int.{bit_at}
use Rattle.topology_reader.specs.Prelude.{option_map_or, bytes_eq, first_some, Origin, tasks_in_all, depth_of, weight_of, Input, FileParts, TopoFault}
use Rattle.indexmap.specs.IndexMap.{IndexMap, get_by}
use Rattle.topology_plan.specs.declared.parts.Origin.TheVariants as origin
use Rattle.topology_plan.specs.declared.parts.Sub.{Sub}
use Rattle.topology_plan.specs.declared.plan.Made.{Made}
use Rattle.topology_plan.specs.Inside.{topology_of}
use Rattle.topology_reader.specs.FirstFault.{twice_fault, source_fault, cycle_fault}
use Rattle.topology_reader.specs.Planned.{planned_grouping, plan_of}
use Rattle.topology_reader.specs.Wiring.{source_of, reaches_over}

-- ---- sources

-- the source that a map has of a name
abbrev pub source_in : {S : Type 0} → IndexMap (Bor (List ℕ)) Origin S → Bor (List ℕ) → Option Origin
source_in m name = get_by (λ (key : Bor (List ℕ)). bytes_eq name.now key.now) m

-- a map from a name to the source of that name
abbrev pub IsIndexOf : {S : Type 0} → FileParts → IndexMap (Bor (List ℕ)) Origin S → Type 0
IsIndexOf p m = (name : Bor (List ℕ)) → source_in m name ≡ source_of p name.now

-- the first fault of names: one that stands twice, one without a source, a cycle
abbrev pub names_fault : FileParts → Option TopoFault
names_fault p = first_some (twice_fault p ∷ source_fault p ∷ cycle_fault p ∷ [])

-- the set of the bits that are 1 has this number
abbrev pub has : ℕ → ℕ → Bool
has set a = bit_at set a == 1

-- the set of a bolt, where paths may go through bolt n too, whose set is through
abbrev pub led : ℕ → ℕ → ℕ → ℕ
led n through set = if has set n then bit_or set through else set

-- the set of bolt b holds the bolts with a path to b on which the bolts in between are among the
-- first n
pub record AreReached (n : ℕ) (p : FileParts) (sets : List ℕ) : Type 0 where
  pub counted : length sets ≡ length p.bolts
  pub held : (a b : ℕ) → b < length p.bolts → has (slice_index sets b) a ≡ reaches_over n p a b

-- ---- the plan

-- the lists behind vectors of subscriptions
abbrev pub items_by : List (Vec Sub Global) → List (List Sub)
items_by vectors = map (λ (subs : Vec Sub Global). subs.items) vectors

-- the place of a source in a table of subscriptions, where those of the spout come first
abbrev pub place_in : Origin → ℕ
place_in origin.Spout = 0
place_in (origin.Component c) = c + 1

-- one more at its source, if that is there
abbrev pub with_sub : List (List Sub) → Origin → Sub → List (List Sub)
with_sub table from sub =
    slice_set table (place_in from) (slice_index_or table (place_in from) [] ++ sub ∷ [])

-- all inputs of a component, each at its source
abbrev pub with_inputs : FileParts → List (List Sub) → ℕ × List Input → List (List Sub)
with_inputs p table component =
    fold (λ (rows : List (List Sub)) (input : Input).
    option_map_or
    (λ from. with_sub rows from
    (record { to = component.0; grouping = planned_grouping p from input.grouping }))
    (source_of p input.from) rows) table component.1

-- the topology of what a file says, with its numbers
pub record IsMade (p : FileParts) (made : Made) : Type 0 where
  pub topology : topology_of made ≡ plan_of p
  pub tasks : made.tasks ≡ tasks_in_all (plan_of p)
  pub depth : made.depth ≡ depth_of (plan_of p)
  pub weight : made.weight ≡ weight_of (plan_of p)
