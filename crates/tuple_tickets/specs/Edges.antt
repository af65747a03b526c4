-- Edges: their order, how often they stand in a list, and the XOR of their ids.
use Rattle.std.specs.Prelude.{ℕ, bit_xor, Bool, ◌==◌, ◌&&◌, if◌then◌else◌, List, [], ◌∷◌}
use Rattle.std.specs.Ordering.{nat_cmp, then_cmp, on}
use Rattle.std.specs.declared.cmp.Ordering.{Ordering}
use Rattle.storm_values.specs.Order.{path_cmp}
use Rattle.counted_items.specs.Weights.{weigh}
use Rattle.tuple_tickets.specs.declared.edge.Edge.{Edge}
use Rattle.tuple_tickets.specs.Paths.{path_eq}

-- whether two edges are one
abbrev pub edge_eq : Edge → Edge → Bool
edge_eq a b = path_eq a.path b.path && (a.id == b.id)

-- by path, and then by id
abbrev pub edge_cmp : Edge → Edge → Ordering
edge_cmp = then_cmp (on (λ (e : Edge). e.path) path_cmp) (on (λ (e : Edge). e.id) nat_cmp)

-- the weight that is 1 at an edge
abbrev pub is_edge : Edge → Edge → ℕ
is_edge e x = if edge_eq x e then 1 else 0

-- how often an edge stands in a list
abbrev pub times : Edge → List Edge → ℕ
times e edges = weigh (is_edge e) edges

-- the XOR of the ids of a list's edges
abbrev pub xor_ids : List Edge → ℕ
xor_ids [] = 0
xor_ids (e ∷ edges) = bit_xor e.id (xor_ids edges)
