-- The graph of a file: without a cycle its depths are settled, and a component's fields are what its body leaves of those of its
-- first source.
use Rattle.std.proofs.Common.{◌≡◌, ℕ, zero, suc, ◌<◌, ◌^◌, List, [], ◌∷◌, length, map, Some, None, slice_index_or, unwrap_or, ⊎_elim, inl, refl, sym, ◌∙◌, ap, subst, arith}
use Rattle.topology_reader.proofs.Common.{option_map_or, Origin, ComponentPart, components_of, component_at, FileParts, IsInRange, Feed, fed, feeds_at, IsClosed, value_in, value_of, IsThere, IsSettled, cases_lt, get_or_past, get_or-map-range_with_len, length-map-range_with_len, map-map, range_with_len, slice_get_past, slice_get_within, settled_by_rank, value_settled, cycle_fault, field_table, IsSource, sources_at, graph_of, fields_to, fields_after, first_of, fields_rule, fields_of}
use Rattle.topology_graph.specs.Graph.{read}
use Rattle.topology_plan.specs.declared.parts.Origin.TheVariants as origin
use Rattle.topology_reader.proofs.Listed.{IsIn, in_place, to_map}
use Rattle.topology_reader.proofs.Numbered.{IsAt, count_parts}
use Rattle.topology_reader.proofs.Ranks.{rank, rank_grows, rank-le}
use Rattle.topology_reader.proofs.SourceLemmas.{source_there, feeds_from_source, length_graph, froms, froms_at}

-- ---- depths

-- the source of a subscription is a source of its component
pub feed_listed : (p : FileParts) (c : ℕ) (feed : Feed) → IsIn feed (feeds_at (graph_of p) c) → IsIn feed.from (sources_at p c)
feed_listed p c feed at = subst (IsIn feed.from) (froms_at p c) (to_map (λ (f : Feed). f.from) (feeds_at (graph_of p) c) feed at)

there_in_graph : (p : FileParts) (from : Origin) → IsSource p from → IsThere (length (graph_of p)) from
there_in_graph p origin.Spout there = tt
there_in_graph p (origin.Component c) there = omega (arith, there, length_graph p, count_parts p)

pub closed_graph : (p : FileParts) → IsClosed (graph_of p)
closed_graph p = λ c k feed at. there_in_graph p feed.from (source_there p c feed.from (feed_listed p c feed (in_place (feeds_at (graph_of p) c) k feed at)))

pub small_graph : (p : FileParts) → IsInRange p → length (graph_of p) < 2 ^ 32
small_graph p range = omega (arith, length_graph p, count_parts p, range.bolts, range.states.1)

pub settled_graph : (p : FileParts) → IsInRange p → cycle_fault p ≡ None → IsSettled (graph_of p)
settled_graph p range none =
    settled_by_rank (graph_of p) (rank p) (small_graph p range) (record {
      below = λ c within. omega (arith, rank-le p c, length_graph p, count_parts p, range.states.0);
      grows = λ b c k feed at is.
          let listed : IsIn (origin.Component b) (sources_at p c) = subst (λ from. IsIn from (sources_at p c)) is (feed_listed p c feed (in_place (feeds_at (graph_of p) c) k feed at)) in
          rank_grows p b c none (source_there p c (origin.Component b) listed) (feeds_from_source p c b listed);
    })

-- ---- fields

pub fields_of_spout : (p : FileParts) → fields_of p origin.Spout ≡ p.spout.fields
unfolding fields_of value_of
fields_of_spout p = refl

-- the fields of a component are what its body leaves of those that come to it
pub fields_of_part : (p : FileParts) (c : ℕ) (part : ComponentPart) → IsInRange p → cycle_fault p ≡ None → IsAt p c part → fields_of p (origin.Component c) ≡ fields_after part.body (fields_to p c)
unfolding fields_of
fields_of_part p c part range none is =
    value_settled (fields_rule p) (graph_of p) (closed_graph p) (settled_graph p range none) c (omega (arith, length_graph p, slice_get_within (components_of p) c part is))
    ∙ ap (λ there. option_map_or (λ (b : ComponentPart). fields_after b.body (fields_to p c)) there []) is

-- what is no component has no fields
fields_in_past : (n : ℕ) (p : FileParts) (c : ℕ) → component_at p c ≡ None → value_in n (fields_rule p) (graph_of p) (origin.Component c) ≡ []
fields_in_past zero p c none = refl
fields_in_past (suc n) p c none = ap (λ there. option_map_or (λ (b : ComponentPart). fields_after b.body (first_of (fed (value_in n (fields_rule p) (graph_of p)) (feeds_at (graph_of p) c)))) there []) none

fields_of-table : (p : FileParts) (c : ℕ) → unwrap_or (slice_index_or (field_table p) c None) [] ≡ fields_of p (origin.Component c)
unfolding fields_of value_of
fields_of-table p c =
    ap (λ known. unwrap_or (slice_index_or known c None) []) (map-map Some (λ d. value_of (fields_rule p) (graph_of p) (origin.Component d)) (range_with_len 0 (length (graph_of p))))
    ∙ ⊎_elim
    (λ within. ap (λ there. unwrap_or there []) (get_or-map-range_with_len (λ d. Some (value_of (fields_rule p) (graph_of p) (origin.Component d))) 0 (length (graph_of p)) c c None within (omega arith)))
    (λ past.
    ap (λ there. unwrap_or there []) (get_or_past (map (λ d. Some (value_of (fields_rule p) (graph_of p) (origin.Component d))) (range_with_len 0 (length (graph_of p)))) c None (omega (arith, length-map-range_with_len (λ d. Some (value_of (fields_rule p) (graph_of p) (origin.Component d))) 0 (length (graph_of p)))))
    ∙ sym (fields_in_past (length (graph_of p)) p c (slice_get_past (components_of p) c (omega (arith, length_graph p)))))
    (cases_lt c (length (graph_of p)))

-- what is known in the table is what each source has
pub fields_of-known : (p : FileParts) (from : Origin) → read p.spout.fields [] (field_table p) from ≡ fields_of p from
fields_of-known p origin.Spout = sym (fields_of_spout p)
fields_of-known p (origin.Component c) = fields_of-table p c

-- the first source has what comes
pub first_fed : (f : Origin → List (List ℕ)) (feeds : List Feed) (from : Origin) → IsIn from (froms feeds) → (first : Origin) × IsIn first (froms feeds) × (first_of (fed f feeds) ≡ f first)
first_fed f [] from at = elim at [ ]
first_fed f (feed ∷ feeds) from at = (feed.from, inl refl, refl)
