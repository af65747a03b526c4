-- Depths and numbers of tuples, and the order of the components.
use Rattle.std.proofs.Common.{◌≡◌, ℕ, zero, suc, ◌+◌, ◌*◌, ◌≤◌, List, [], ◌∷◌, ◌++◌, length, map, min, Option, Some, refl, ap, ◌∙◌, arith, unwrap_or}
use Rattle.std.proofs.lemmas.List.{append-nil}
use Rattle.std.proofs.lemmas.List.FromFn.{length-map-range_with_len}
use Rattle.std.proofs.lemmas.List.Concat.{flat_map-append}
use Rattle.std.specs.List.{range_with_len, flat_map}
use Rattle.topology_plan.specs.declared.parts.Origin.TheVariants as origin
use Rattle.topology_plan.specs.Topology.{ended_sum, weight_end}
use Rattle.topology_graph.specs.declared.values.Feed.{Feed}
use Rattle.topology_graph.specs.Graph.{value_of, values_of, depth_rule, tuples_rule, at_depth, by_depth, fed_by}

-- the depths of the sources, by what is known
abbrev pub depths_seen : List (Option ℕ) → List Feed → List ℕ
depths_seen known feeds = map (λ (one : Feed × ℕ). one.1) (fed_by depth_rule known feeds)

-- the tuples that come, by what is known
abbrev pub tuples_seen : List (Option ℕ) → List Feed → List ℕ
tuples_seen known feeds = map (λ (one : Feed × ℕ). min (one.1 * one.0.copies) weight_end) (fed_by tuples_rule known feeds)

pub ended_sum-most : (ns : List ℕ) → ended_sum ns ≤ weight_end
ended_sum-most [] = omega arith
ended_sum-most (n ∷ ns) = omega arith

pub ended_sum_start : (ns : List ℕ) → min (0 + ended_sum ns) weight_end ≡ ended_sum ns
ended_sum_start ns = omega (arith, ended_sum-most ns)

-- the numbers of a table in which all are known
pub numbers_read : (ns : List ℕ) → map (λ (number : Option ℕ). unwrap_or number 0) (map Some ns) ≡ ns
numbers_read [] = refl
numbers_read (n ∷ ns) = ap (λ ms. n ∷ ms) (numbers_read ns)

-- ---- the order

pub range_more : (a n : ℕ) → range_with_len a (n + 1) ≡ range_with_len a n ++ (n + a) ∷ []
range_more a zero = ap (λ m. m ∷ []) (omega arith)
range_more a (suc n) =
    let longer : suc n + 1 ≡ suc (n + 1) = omega arith in
    let last : n + (a + 1) ≡ suc n + a = omega arith in
    rw longer (ap (λ ns. a ∷ ns) (range_more (a + 1) n ∙ ap (λ m. range_with_len (a + 1) n ++ m ∷ []) last))

-- one depth more
pub at_depths_more : (depths : List ℕ) (n : ℕ) → flat_map (at_depth depths) (range_with_len 1 (n + 1)) ≡ flat_map (at_depth depths) (range_with_len 1 n) ++ at_depth depths (n + 1)
at_depths_more depths n =
    ap (flat_map (at_depth depths)) (range_more 1 n)
    ∙ flat_map-append (at_depth depths) (range_with_len 1 n) ((n + 1) ∷ [])
    ∙ ap (λ last. flat_map (at_depth depths) (range_with_len 1 n) ++ last) (append-nil (at_depth depths (n + 1)))

pub by_depth-numbers : (graph : List (List Feed)) (depths : List ℕ) → depths ≡ values_of depth_rule graph → flat_map (at_depth depths) (range_with_len 1 (length depths)) ≡ by_depth graph
unfolding by_depth
by_depth-numbers graph depths is =
    let count : length depths ≡ length graph = ap (λ (ns : List ℕ). length ns) is ∙ length-map-range_with_len (λ d. value_of depth_rule graph (origin.Component d)) 0 (length graph) in
    ap (λ n. flat_map (at_depth depths) (range_with_len 1 n)) count
    ∙ ap (λ ds. flat_map (at_depth ds) (range_with_len 1 (length graph))) is
