-- A graph of components, each with its subscriptions, what a component has by what its sources
-- have, and depths and weights by that. This project's own.
use Rattle.std.specs.Prelude.{◌≡◌, ℕ, zero, suc, ◌+◌, ◌*◌, ◌<◌, ◌==◌, List, [], map, filter, min, length, Option, Some, None, true, is_some, unwrap_or, slice_get, slice_index, slice_index_or}
use Rattle.std.specs.List.{range_with_len, flat_map}
use Rattle.topology_plan.specs.declared.parts.Origin.{Origin}
use Rattle.topology_plan.specs.declared.parts.Origin.TheVariants as origin
use Rattle.topology_plan.specs.Topology.{greatest, ended_sum, weight_end}
use Rattle.topology_graph.specs.declared.values.Feed.{Feed}

-- the subscriptions of a component
abbrev pub feeds_at : List (List Feed) → ℕ → List Feed
feeds_at graph c = slice_index_or graph c []

-- subscriptions, each with what its source has
abbrev pub fed : {V : Type 0} → (Origin → V) → List Feed → List (Feed × V)
fed {V} f feeds = map {B = Feed × V} (λ (feed : Feed). (feed, f feed.from)) feeds

-- What the spout has, what a component has that is too far from it, and what component c has by its
-- subscriptions, each with what its source has.
pub record Rule (V : Type 0) : Type 0 where
  pub spout : V
  pub nothing : V
  pub over : ℕ → List (Feed × V) → V

-- what a source has, over at most n steps
abbrev pub value_in : {V : Type 0} → ℕ → Rule V → List (List Feed) → Origin → V
value_in n rule graph origin.Spout = rule.spout
value_in zero rule graph (origin.Component c) = rule.nothing
value_in (suc n) rule graph (origin.Component c) =
    rule.over c (fed (value_in n rule graph) (feeds_at graph c))

-- what a source has; where there is no cycle, as many steps as there are
-- components reach everything
unfoldable pub value_of : {V : Type 0} → Rule V → List (List Feed) → Origin → V
value_of rule graph from = value_in (length graph) rule graph from

-- what each component has
abbrev pub values_of : {V : Type 0} → Rule V → List (List Feed) → List V
values_of rule graph =
    map (λ c. value_of rule graph (origin.Component c)) (range_with_len 0 (length graph))

-- the spout, or one of so many components
abbrev pub IsThere : ℕ → Origin → Type 0
IsThere count origin.Spout = Unit {0}
IsThere count (origin.Component c) = c < count

-- each source is there
abbrev pub IsClosed : List (List Feed) → Type 0
IsClosed graph =
    (c k : ℕ) (feed : Feed) → slice_get (feeds_at graph c) k ≡ Some feed → IsThere (length graph) feed.from

-- numbers of components that grow along each subscription, as there are where there is no cycle
pub record IsRanked (graph : List (List Feed)) (rank : ℕ → ℕ) : Type 0 where
  pub below : (c : ℕ) → c < length graph → rank c < length graph
  pub grows : (b c k : ℕ) (feed : Feed) → slice_get (feeds_at graph c) k ≡ Some feed
      → feed.from ≡ origin.Component b → rank b < rank c

-- ---- depths and weights

-- the depth of the spout is 0, that of a component 1 more than the greatest of its sources
abbrev pub depth_rule : Rule ℕ
depth_rule = record {
  spout = 0;
  nothing = 0;
  over = λ c fed. min (greatest (map (λ (one : Feed × ℕ). one.1) fed) + 1) weight_end;
}

-- how many tuples one tuple of the spout can make at most at a source
abbrev pub tuples_rule : Rule ℕ
tuples_rule = record {
  spout = 1;
  nothing = 0;
  over = λ c fed. ended_sum (map (λ (one : Feed × ℕ). min (one.1 * one.0.copies) weight_end) fed);
}

-- the components of a depth, by the depths of all
abbrev pub at_depth : List ℕ → ℕ → List ℕ
at_depth depths depth =
    filter (λ c. slice_index depths c == depth) (range_with_len 0 (length depths))

-- the components by their depth, and in the order of their numbers among equal depth
unfoldable pub by_depth : List (List Feed) → List ℕ
by_depth graph = flat_map (at_depth (values_of depth_rule graph)) (range_with_len 1 (length graph))

-- no more steps lead further, as where there is no cycle: a component is deeper by one
-- than its deepest source
abbrev pub IsSettled : List (List Feed) → Type 0
IsSettled graph = (c : ℕ) → c < length graph
    → value_of depth_rule graph (origin.Component c)
    ≡ greatest (map (λ (feed : Feed). value_of depth_rule graph feed.from) (feeds_at graph c)) + 1

-- ---- what is known on the way

-- what a source has by what is known
abbrev pub read : {V : Type 0} → V → V → List (Option V) → Origin → V
read spout nothing known origin.Spout = spout
read spout nothing known (origin.Component c) = unwrap_or (slice_index_or known c None) nothing

-- some subscriptions, each with what its source has by what is known
abbrev pub fed_by : {V : Type 0} → Rule V → List (Option V) → List Feed → List (Feed × V)
fed_by {V} rule known feeds = fed (read rule.spout rule.nothing known) feeds

-- what a source has is known
abbrev pub IsKnown : {V : Type 0} → List (Option V) → Origin → Type 0
IsKnown known origin.Spout = Unit {0}
IsKnown known (origin.Component c) = is_some (slice_index_or known c None) ≡ true

-- what is known is right
pub record AreRight {V : Type 0} (rule : Rule V) (graph : List (List Feed))
    (known : List (Option V)) : Type 0 where
  pub count : length known ≡ length graph
  pub each : (c : ℕ) (value : V) → slice_index_or known c None ≡ Some value
      → value ≡ value_of rule graph (origin.Component c)

-- a source was found, and what was known is known still
pub record IsFound {V : Type 0} (rule : Rule V) (graph : List (List Feed))
    (old new : List (Option V)) (from : Origin) : Type 0 where
  pub right : AreRight rule graph new
  pub kept : (other : Origin) → IsKnown old other → IsKnown new other
  pub known : IsKnown new from
