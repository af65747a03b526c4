-- What a plan keeps beyond its numbers: whose rows come to whom, with which fields. Widths are
-- numbers of fields. This project's own.
use Rattle.std.specs.Prelude.{◌≡◌, ◌≢◌, ◌<◌, ℕ, ◌-◌, ◌≤◌, List, [], length, map, All, Option, None, IsSome, slice_get, IfSome, Some, sum, take, AllPairs, true}
use Rattle.std.specs.List.Sorted.{IsStrictlyIncreasing}
use Rattle.std.specs.Option.{option_map_or}
use Rattle.storm_values.specs.Limits.{most_fields, most_tasks, most_bolts, most_states}
use Rattle.topology_plan.specs.declared.parts.Body.{Body}
use Rattle.topology_plan.specs.declared.parts.Body.TheVariants.{Bolt, State}
use Rattle.topology_plan.specs.declared.parts.Component.{Component}
use Rattle.topology_plan.specs.declared.parts.Fold.{Fold}
use Rattle.topology_plan.specs.declared.parts.Fold.TheVariants.{Count, Sum, Last, Max}
use Rattle.topology_plan.specs.declared.parts.Fold.TheVariants as fold_of
use Rattle.topology_plan.specs.declared.parts.Grouping.{Grouping}
use Rattle.topology_plan.specs.declared.parts.Grouping.TheVariants as grouping
use Rattle.topology_plan.specs.declared.parts.Kind.TheVariants.{Opaque}
use Rattle.topology_plan.specs.declared.parts.Op.{Op}
use Rattle.topology_plan.specs.declared.parts.Origin.{Origin}
use Rattle.topology_plan.specs.declared.parts.Origin.TheVariants as origin
use Rattle.topology_plan.specs.declared.parts.StateSpec.{StateSpec}
use Rattle.topology_plan.specs.declared.parts.Sub.{Sub}
use Rattle.topology_plan.specs.Functions.{shape, first_field, AreRead, width_left, AreLeftOnce, IsFunctionInRange}
use Rattle.topology_plan.specs.Texts.{IsName}
use Rattle.topology_plan.specs.Topology.{Topology, subs_of, inputs_of}
use Rattle.topology_plan.specs.Valid.{IsBetween}

-- ---- fields

-- the fields of a source's rows
abbrev pub fields_of : Topology → Origin → List (List ℕ)
fields_of t origin.Spout = t.spout_fields
fields_of t (origin.Component c) =
    option_map_or (λ (component : Component). component.fields) (slice_get t.components c) []

-- how many there are
abbrev pub width_of : Topology → Origin → ℕ
width_of t from = length (fields_of t from)

-- the fields of the rows that come to a component: those of its first source, and so of each
abbrev pub fields_to : Topology → ℕ → List (List ℕ)
fields_to t c =
    option_map_or (λ (input : Origin × Sub). fields_of t input.0) (slice_get (inputs_of t c) 0) []

-- how many there are
abbrev pub width_to : Topology → ℕ → ℕ
width_to t c = length (fields_to t c)

-- how many fields an operation leaves of a row of n
abbrev pub width_after : Op → ℕ → ℕ
width_after op n = width_left (shape op.function).leaves (length op.reads) n

-- some fields of a row of n, each once
abbrev pub AreWithin : List ℕ → ℕ → Type 0
AreWithin fields n =
    IsBetween (length fields) 1 most_fields × All (λ field. field < n) fields
    × AllPairs (λ a b. a ≢ b) fields

-- the fields that an operation reads are there, and so many that it may read them, and its numbers
-- and its constant are within their limits
abbrev pub IsWithin : Op → ℕ → Type 0
IsWithin op n =
    AreRead op.function op.reads × All (λ field. field < n) op.reads
    × AreLeftOnce (shape op.function).leaves op.reads × IsFunctionInRange op.function

-- an amount is there for each fold but count
abbrev pub HasAmount : Fold → Option ℕ → ℕ → Type 0
HasAmount Count amount n = amount ≡ None
HasAmount Sum amount n = IsSome amount × IfSome amount (λ field. field < n)
HasAmount Last amount n = IsSome amount × IfSome amount (λ field. field < n)
HasAmount Max amount n = IsSome amount × IfSome amount (λ field. field < n)
HasAmount fold_of.Custom amount n = IsSome amount × IfSome amount (λ field. field < n)

-- ---- subscriptions

-- a direct grouping comes from an operation that chooses tasks alone, by the field that it reads
abbrev pub IsRouteOf : Body → ℕ → Type 0
IsRouteOf (Bolt op) field =
    ((shape op.function).chooses ≡ true) × (first_field op.reads ≡ field)
IsRouteOf (State spec) field = ⊥

-- a grouping fits its source: its key is among the source's fields, and where it is
-- direct, the source is a route
abbrev pub IsFrom : Topology → Origin → Grouping → Type 0
IsFrom t from grouping.Shuffle = Unit {0}
IsFrom t from (grouping.Fields key) = AreWithin key (width_of t from)
IsFrom t from grouping.All = Unit {0}
IsFrom t from grouping.Global = Unit {0}
IsFrom t origin.Spout (grouping.Direct field) = ⊥
IsFrom t (origin.Component c) (grouping.Direct field) =
    (component : Component) × (slice_get t.components c ≡ Some component)
    × IsRouteOf component.body field × (field < length component.fields)

-- each input of a state is grouped by the state's key
abbrev pub IsKeyed : StateSpec → Grouping → Type 0
IsKeyed spec by = by ≡ grouping.Fields spec.key

-- the consumer of a subscription to a source takes rows as wide as the source's
abbrev pub IsAsWide : Topology → Origin → Sub → Type 0
IsAsWide t from sub = width_to t sub.to ≡ width_of t from

-- ---- components

-- component c fits the n fields that come to it, and has the fields that its body leaves
abbrev pub IsFed : Topology → ℕ → ℕ → Body → List (List ℕ) → Type 0
IsFed t c n (Bolt op) fields =
    IsWithin op n × (length fields ≡ width_after op n) × IsBetween (length fields) 1 most_fields
IsFed t c n (State spec) fields =
    (fields ≡ []) × (subs_of t (origin.Component c) ≡ []) × AreWithin spec.key n
    × HasAmount spec.fold spec.amount n
    × All (λ input. IsKeyed spec (input.1).grouping) (inputs_of t c)

-- component c: the rows of all its sources, of which there is one at least, have the same fields
pub record IsComponent (t : Topology) (c : ℕ) (component : Component) : Type 0 where
  pub name : IsName component.name
  pub sources : All (λ input. fields_of t input.0 ≡ fields_to t c) (inputs_of t c)
  pub some_source : inputs_of t c ≢ []
  pub fed : IsFed t c (width_to t c) component.body component.fields
  pub fields : AllPairs (λ a b. a ≢ b) component.fields
  pub field_names : All IsName component.fields
  pub first_task : component.first_task
      ≡ sum (take c (map (λ (other : Component). other.tasks) t.components))
  pub tasks : IsBetween component.tasks 1 most_tasks

-- bolts have the numbers below this one, states those from there on
abbrev pub IsPlaced : ℕ → ℕ → Body → Type 0
IsPlaced bolts c (Bolt op) = c < bolts
IsPlaced bolts c (State spec) = bolts ≤ c

-- the components are at most 32 bolts, and then 1 to 8 states
pub record IsLaidOut (t : Topology) : Type 0 where
  pub bolts : ℕ
  pub few : bolts ≤ most_bolts
  pub states : IsBetween (length t.components - bolts) 1 most_states
  pub placed : (c : ℕ)
      → IfSome (slice_get t.components c) (λ component. IsPlaced bolts c component.body)

-- an opaque spout may have this body behind it: any bolt, and an opaque state
abbrev pub MayFollowOpaque : Body → Type 0
MayFollowOpaque (Bolt op) = Unit {0}
MayFollowOpaque (State spec) = spec.kind ≡ Opaque

-- names, subscriptions, groupings, fields and kinds fit together
pub record IsWired (t : Topology) : Type 0 where
  pub layout : IsLaidOut t
  pub spout_fields : AllPairs (λ a b. a ≢ b) t.spout_fields
  pub spout_field_names : All IsName t.spout_fields
  pub names : AllPairs (λ (a b : Component). a.name ≢ b.name) t.components
  -- a component takes a source at most once, and a source's subscriptions stand in the
  -- order of their consumers
  pub once : (from : Origin) → IsStrictlyIncreasing (map (λ (sub : Sub). sub.to) (subs_of t from))
  pub groupings : (from : Origin) → All (λ (sub : Sub). IsFrom t from sub.grouping) (subs_of t from)
  pub components : (c : ℕ) → IfSome (slice_get t.components c) (IsComponent t c)
  -- an opaque spout has no transactional state
  pub replays : t.spout_kind ≡ Opaque
      → All (λ (component : Component). MayFollowOpaque component.body) t.components
  -- only an opaque spout has partitions
  pub partitioned : 0 < t.partitions → t.spout_kind ≡ Opaque
