-- Fields by their numbers, and how many fields a source can have.
use Rattle.std.proofs.Common.{ℕ, zero, suc, ◌+◌, ◌≤◌, List, [], ◌∷◌, length, All, slice_get, Option, Some, None, option_to_list, arith, length-append}
use Rattle.topology_reader.proofs.Common.{IsInRange, IsBodyInRange, IsComponentInRange, IsBetween, IsOperationInRange, IsShape, AreSomeRead, shape_fits, Origin, Operation, shape, Leaves, BodyPart, Bolt, State, ComponentPart, components_of, Input, FileParts, option_map_or, feeds_at, fed, value_in, value_of, Feed, All-head, All-tail, fields_left, fields_after, fields_of, fields_rule, first_of, graph_of}
use Rattle.storm_values.specs.Limits.{most_fields, most_bolts, most_states}
use Rattle.topology_plan.specs.declared.function.Leaves.TheVariants as leaves
use Rattle.topology_plan.specs.declared.parts.Origin.TheVariants as origin
use Rattle.topology_reader.proofs.Numbered.{count_parts}
use Rattle.topology_reader.proofs.SourceLemmas.{length_graph}

-- ---- how many fields there are

few_made : (into : Option (List ℕ)) → length (option_to_list into) ≤ 1
few_made None = omega arith
few_made (Some into) = omega arith

few_left : (l : Leaves) (operation : Operation) (fields : List (List ℕ)) (least top most : ℕ) → AreSomeRead l least top → IsBetween (length operation.reads) least top → most_fields ≤ most → length fields ≤ most → length (fields_left l operation fields) ≤ most + 1
few_left leaves.Same operation fields least top most some count eight few = omega arith
few_left leaves.Read operation fields least top most some count eight few = omega (arith, some.1, count.1)
few_left leaves.Made operation fields least top most some count eight few = omega (arith, few_made operation.into)
few_left leaves.More operation fields least top most some count eight few = rw length-append (omega (arith, few_made operation.into))

few_after : (body : BodyPart) (inputs : List Input) (fields : List (List ℕ)) (most : ℕ) → IsBodyInRange body inputs → most_fields ≤ most → length fields ≤ most → length (fields_after body fields) ≤ most + 1
few_after (Bolt operation) inputs fields most range eight few =
    let s = shape operation.function in
    few_left s.leaves operation fields s.least s.most most (IsShape.read (shape_fits operation.function)) (IsOperationInRange.count range.0) eight few
few_after (State state) inputs fields most range eight few = omega arith

few_behind : (parts : List ComponentPart) (c : ℕ) (before : List (List ℕ)) (most : ℕ) → All IsComponentInRange parts → most_fields ≤ most → length before ≤ most → length (option_map_or (λ (part : ComponentPart). fields_after part.body before) (slice_get parts c) []) ≤ most + 1
few_behind [] c before most ranges eight few = omega arith
few_behind (part ∷ parts) zero before most ranges eight few =
    few_after part.body part.inputs before most (IsComponentInRange.body (All-head IsComponentInRange part parts ranges)) eight few
few_behind (part ∷ parts) (suc c) before most ranges eight few =
    few_behind parts c before most (All-tail IsComponentInRange part parts ranges) eight few

few_first : (fields : Origin → List (List ℕ)) (most : ℕ) → ((from : Origin) → length (fields from) ≤ most) → (feeds : List Feed) → length (first_of (fed fields feeds)) ≤ most
few_first fields most few [] = omega arith
few_first fields most few (feed ∷ feeds) = few feed.from

few_fields_in : (n : ℕ) (p : FileParts) → IsInRange p → (from : Origin) → length (value_in n (fields_rule p) (graph_of p) from) ≤ most_fields + n
few_fields_in n p range origin.Spout = omega (arith, range.spout.fields.1)
few_fields_in zero p range (origin.Component c) = omega arith
few_fields_in (suc n) p range (origin.Component c) =
    omega (arith, few_behind (components_of p) c (first_of (fed (value_in n (fields_rule p) (graph_of p)) (feeds_at (graph_of p) c))) (most_fields + n) range.each (omega arith) (few_first (value_in n (fields_rule p) (graph_of p)) (most_fields + n) (few_fields_in n p range) (feeds_at (graph_of p) c)))

pub few_fields_of : (p : FileParts) → IsInRange p → (from : Origin) → length (fields_of p from) ≤ most_fields + most_bolts + most_states
unfolding fields_of value_of
few_fields_of p range from = omega (arith, few_fields_in (length (graph_of p)) p range from, length_graph p, count_parts p, range.bolts, range.states.1)
