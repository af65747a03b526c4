-- The fields of the sources where a file has no fault: each source has one to eight fields, none twice, that its operation makes of the fields of its sources.
use Rattle.std.proofs.Common.{◌≡◌, ℕ, zero, suc, ◌+◌, ◌<◌, ◌≤◌, ◌==◌, pos, List, [], ◌∷◌, ◌++◌, length, map, slice_index, All, false, not, Option, Some, None, option_to_list, option_and_then, is_none, codes, inl, inr, refl, sym, ◌∙◌, ap, subst, arith}
use Rattle.topology_reader.proofs.Common.{most_fields, values_of, at_depth, get_or-map-range_with_len, length-map-range_with_len, range_with_len, list_any, bytes_eq, Origin, TopoFault, Twice, NoSource, NoField, FieldsDiffer, Input, Operation, shape, Leaves, HasInto, IsShape, AreSomeRead, shape_fits, false≢true, read_left, one_more_fault, more_fault, fields_left, BodyPart, Bolt, State, ComponentPart, components_of, FileParts, first_some, IsBetween, IsInRange, IsOperationInRange, IsBodyInRange, IsComponentInRange, feeds_at, value_in, value_of, Feed, pointwise, pointwise_decides, true≢false, cases_Bool, cond-true, cond-false, both_ways, eq-eqb, not-false, All-nil, All-cons, All-append, none-some, same_Some, slice_get_within, depth_at, by_depth, depth_rule, depth_at_within, is_among, range_fault, first_again, again_fault, key_of, own_key, projected, component_twice, twice_fault, nameless_fault, source_fault, cycle_fault, differ_fault, field_fault, direct_fault, input_fault, fields_read, added_fault, component_fault, fields_fault, component_names, name_at, source_of, inputs_at, sources_at, fields_after, fields_of, fields_to, graph_of, IsSource}
use Rattle.std.specs.List.{find}
use Rattle.std.proofs.lemmas.List.{length-append}
use Rattle.topology_plan.specs.declared.function.Leaves.TheVariants as leaves
use Rattle.topology_plan.specs.declared.parts.Origin.TheVariants as origin
use Rattle.topology_plan.specs.Texts.{IsName}
use Rattle.topology_reader.proofs.Ranks.{rank, rank_grows}
use Rattle.topology_reader.proofs.Listed.{IsIn, in_map, to_flat_map, to_filter, in_place, to_range, to_any, none_mapped, none_found, AreNone, none_each_map, none_each}
use Rattle.topology_reader.proofs.Distinct.{bytes_same, bytes_itself, among_in, AreApart, apart_push, not_among, apart_from_again}
use Rattle.topology_reader.proofs.Numbered.{IsAt, count_parts, part_there, inputs_at_part, inputs_are, range_at, is_bolt_at, the_operation}
use Rattle.topology_reader.proofs.ValidPlan.{HasNoFault, between_from_range}
use Rattle.topology_reader.proofs.SourceLemmas.{feeds_from_source, froms_at, in_inputs_at, length_graph, source_there, to_sources}
use Rattle.topology_reader.proofs.GraphLemmas.{fields_of_part, fields_of_spout, first_fed}

-- ---- the bolts before a component

abbrev pub IsRankBelow : FileParts → ℕ → Origin → Type 0
IsRankBelow p n origin.Spout = Unit {0}
IsRankBelow p n (origin.Component c) = rank p c < n

source_below : (p : FileParts) (n c : ℕ) (from : Origin) → cycle_fault p ≡ None → IsIn from (sources_at p c) → rank p c < suc n → IsRankBelow p n from
source_below p n c origin.Spout none at below = tt
source_below p n c (origin.Component b) none at below = omega (arith, rank_grows p b c none (source_there p c (origin.Component b) at) (feeds_from_source p c b at))

-- ---- the faults of one component

pub record HasNoFaultAt (p : FileParts) (c : ℕ) : Type 0 where
  pub same : (from : Origin) → IsIn from (sources_at p c) → fields_of p from ≡ fields_to p c
  pub keys : (input : Input) → IsIn input (inputs_at p c) → (name : List ℕ) → IsIn name (key_of input.grouping) → IsIn name (fields_to p c)
  pub direct : (input : Input) → IsIn input (inputs_at p c) → direct_fault p input input.grouping ≡ None
  pub reads : (part : ComponentPart) → IsAt p c part → (name : List ℕ) → IsIn name (fields_read part.body) → IsIn name (fields_to p c)
  pub added : (part : ComponentPart) → IsAt p c part → added_fault (fields_to p c) part.body ≡ None

same_from_none : (p : FileParts) (c : ℕ) → differ_fault p c ≡ None → (from : Origin) → IsIn from (sources_at p c) → fields_of p from ≡ fields_to p c
same_from_none p c none from at =
    let differs = λ (feed : Feed). not (pointwise bytes_eq (fields_of p feed.from) (fields_to p c)) in
    let feed = in_map (λ (feed : Feed). feed.from) (feeds_at (graph_of p) c) from (subst (IsIn from) (sym (froms_at p c)) at) in
    elim (cases_Bool (list_any differs (feeds_at (graph_of p) c))) [
      | inl some ↦ absurd (none-some (FieldsDiffer (name_at p c)) (sym none ∙ cond-true (list_any differs (feeds_at (graph_of p) c)) (Some (FieldsDiffer (name_at p c))) None some))
      | inr never ↦
          ap (fields_of p) (sym feed.2)
          ∙ (pointwise_decides (λ a b. (bytes_same a b, bytes_itself a b)) (fields_of p feed.0.from) (fields_to p c)).0
          (elim (cases_Bool (pointwise bytes_eq (fields_of p feed.0.from) (fields_to p c))) [
            | inl same ↦ same
            | inr other ↦ absurd (both_ways (list_any differs (feeds_at (graph_of p) c)) never (to_any differs (feeds_at (graph_of p) c) feed.0 feed.1 (ap not other)))
          ])
    ]

there_from_none : (p : FileParts) (c : ℕ) (names : List (List ℕ)) → field_fault p c names ≡ None → (name : List ℕ) → IsIn name names → IsIn name (fields_to p c)
there_from_none p c names none name at =
    let strange = λ (name : List ℕ). not (is_among (fields_to p c) name) in
    let known : not (is_among (fields_to p c) name) ≡ false = none_found strange names (none_mapped (NoField (name_at p c)) (find strange names) none) name at in
    among_in (fields_to p c) name (not-false (is_among (fields_to p c) name) known)

-- the faults of a component, none of which is told
abbrev pub faults_of : FileParts → ℕ → ComponentPart → List (Option TopoFault)
faults_of p c part = differ_fault p c ∷ first_some (map (input_fault p c) part.inputs) ∷ field_fault p c (fields_read part.body) ∷ added_fault (fields_to p c) part.body ∷ []

no_fault_from_none : (p : FileParts) (c : ℕ) (part : ComponentPart) → IsAt p c part → component_fault p c ≡ None → HasNoFaultAt p c
no_fault_from_none p c part is none =
    let each = none_each (faults_of p c part) (sym (ap (option_and_then (λ (part : ComponentPart). first_some (faults_of p c part))) is) ∙ none) in
    let input = λ (input : Input) (at : IsIn input (inputs_at p c)).
    none_each (field_fault p c (key_of input.grouping) ∷ direct_fault p input input.grouping ∷ []) (none_each_map (input_fault p c) part.inputs each.1.0 input (subst (IsIn input) (inputs_are p c part is) at))
    in
    let one = λ (other : ComponentPart) (at : IsAt p c other). same_Some part other (sym is ∙ at) in
    record {
      same = same_from_none p c each.0;
      keys = λ i at. there_from_none p c (key_of i.grouping) (input i at).0;
      direct = λ i at. (input i at).1.0;
      reads = λ other at name named. there_from_none p c (fields_read part.body) each.1.1.0 name (subst (λ (o : ComponentPart). IsIn name (fields_read o.body)) (sym (one other at)) named);
      added = λ other at. subst (λ (o : ComponentPart). added_fault (fields_to p c) o.body ≡ None) (one other at) each.1.1.1.0;
    }

-- ---- components by depth

some_depth : (n : ℕ) (graph : List (List Feed)) (c : ℕ) → 0 < n → 1 ≤ value_in n depth_rule graph (origin.Component c)
some_depth zero graph c above = absurd (omega arith)
some_depth (suc n) graph c above = omega arith

-- every component is among those by depth
in_by_depth : (graph : List (List Feed)) (c : ℕ) → c < length graph → IsIn c (by_depth graph)
unfolding by_depth value_of
in_by_depth graph c within =
    let depths = values_of depth_rule graph in
    let count : length depths ≡ length graph = length-map-range_with_len (λ d. value_of depth_rule graph (origin.Component d)) 0 (length graph) in
    let is : slice_index depths c ≡ depth_at graph (origin.Component c) = get_or-map-range_with_len (λ d. value_of depth_rule graph (origin.Component d)) 0 (length graph) c c 0 (omega arith) (omega arith) in
    to_flat_map (at_depth depths) (range_with_len 1 (length graph)) (depth_at graph (origin.Component c)) c
    (to_range 1 (length graph) (depth_at graph (origin.Component c)) (some_depth (length graph) graph c (omega arith)) (omega (arith, depth_at_within graph (origin.Component c))))
    (to_filter (λ d. slice_index depths d == depth_at graph (origin.Component c)) (range_with_len 0 (length depths)) c (to_range 0 (length depths) c (omega arith) (omega arith)) (eq-eqb (slice_index depths c) (depth_at graph (origin.Component c)) is))

pub no_fault_at : (p : FileParts) (c : ℕ) (part : ComponentPart) → IsAt p c part → fields_fault p ≡ None → HasNoFaultAt p c
no_fault_at p c part is none =
    no_fault_from_none p c part is (none_each_map (component_fault p) (by_depth (graph_of p)) none c (in_by_depth (graph_of p) c (omega (arith, length_graph p, slice_get_within (components_of p) c part is))))

-- ---- names that stand once

apart_from_none : (names : List (List ℕ)) → again_fault names ≡ None → AreApart names
apart_from_none names none = apart_from_again names (none_mapped Twice (first_again [] names) none)

-- what a component can name twice
abbrev pub twice_in : ComponentPart → List (Option TopoFault)
twice_in part =
    again_fault (own_key part.body) ∷ again_fault (map (λ (input : Input). input.from) part.inputs) ∷ first_some (map (λ (input : Input). again_fault (key_of input.grouping)) part.inputs) ∷ again_fault (projected part.body) ∷ []

module _ (p : FileParts) (none : twice_fault p ≡ None) where
  none_twice : AreNone (again_fault (p.spout.name ∷ component_names p) ∷ again_fault p.spout.fields ∷ first_some (map component_twice (components_of p)) ∷ [])
  none_twice = none_each (again_fault (p.spout.name ∷ component_names p) ∷ again_fault p.spout.fields ∷ first_some (map component_twice (components_of p)) ∷ []) none

  pub names_once : AreApart (p.spout.name ∷ component_names p)
  names_once = apart_from_none (p.spout.name ∷ component_names p) none_twice.0

  pub spout_once : AreApart p.spout.fields
  spout_once = apart_from_none p.spout.fields none_twice.1.0

  none_in : (part : ComponentPart) → IsIn part (components_of p) → AreNone (twice_in part)
  none_in part at = none_each (twice_in part) (none_each_map component_twice (components_of p) none_twice.1.1.0 part at)

  pub own_key_once : (part : ComponentPart) → IsIn part (components_of p) → AreApart (own_key part.body)
  own_key_once part at = apart_from_none (own_key part.body) (none_in part at).0

  pub froms_once : (part : ComponentPart) → IsIn part (components_of p) → AreApart (map (λ (input : Input). input.from) part.inputs)
  froms_once part at = apart_from_none (map (λ (input : Input). input.from) part.inputs) (none_in part at).1.0

  pub key_once : (part : ComponentPart) → IsIn part (components_of p) → (input : Input) → IsIn input part.inputs → AreApart (key_of input.grouping)
  key_once part at input listed = apart_from_none (key_of input.grouping) (none_each_map (λ (i : Input). again_fault (key_of i.grouping)) part.inputs (none_in part at).1.1.0 input listed)

  pub projected_once : (part : ComponentPart) → IsIn part (components_of p) → AreApart (projected part.body)
  projected_once part at = apart_from_none (projected part.body) (none_in part at).1.1.1.0

-- ---- one to most_fields names of fields, none twice

pub record AreFields (fields : List (List ℕ)) : Type 0 where
  pub count : IsBetween (length fields) 1 most_fields
  pub apart : AreApart fields
  pub named : All IsName fields

fields_with : (fields : List (List ℕ)) (into : List ℕ) → IsName into → one_more_fault fields into ≡ None → AreFields fields → AreFields (fields ++ into ∷ [])
fields_with fields into name none were =
    let counted = range_fault (codes "fields") 1 most_fields (pos (length fields + 1)) in
    elim (cases_Bool (is_among fields into)) [
      | inl again ↦ absurd (none-some (Twice into) (sym none ∙ cond-true (is_among fields into) (Some (Twice into)) counted again))
      | inr new ↦
          let count : IsBetween (length fields + 1) 1 most_fields = between_from_range (codes "fields") (length fields + 1) 1 most_fields (sym (cond-false (is_among fields into) (Some (Twice into)) counted new) ∙ none) in
          record {
            count = (omega (arith, length-append fields (into ∷ []), count.0), omega (arith, length-append fields (into ∷ []), count.1));
            apart = apart_push fields into were.apart (not_among fields into new);
            named = All-append IsName fields (into ∷ []) were.named (All-cons IsName into [] name (All-nil IsName));
          }
    ]

one_field : (into : Option (List ℕ)) → HasInto leaves.Made into → AreFields (option_to_list into)
one_field None is = absurd (false≢true is.0)
one_field (Some into) is = record { count = (omega arith, omega arith); apart = (λ at. elim at [ ], tt); named = All-cons IsName into [] is.1 (All-nil IsName) }

one_more_field : (fields : List (List ℕ)) (into : Option (List ℕ)) → HasInto leaves.More into → more_fault leaves.More fields into ≡ None → AreFields fields → AreFields (fields ++ option_to_list into)
one_more_field fields None is none were = absurd (false≢true is.0)
one_more_field fields (Some into) is none were = fields_with fields into is.1 none were

kept_by : (l : Leaves) (operation : Operation) (fields : List (List ℕ)) (least most : ℕ) → AreSomeRead l least most → IsBetween (length operation.reads) least most → All IsName operation.reads → HasInto l operation.into
    → AreApart (read_left l operation.reads) → more_fault l fields operation.into ≡ None → AreFields fields → AreFields (fields_left l operation fields)
kept_by leaves.Same operation fields least most some count names into apart none were = were
kept_by leaves.Read operation fields least most some count names into apart none were =
    record { count = (omega (arith, some.0, count.0), omega (arith, some.1, count.1)); apart = apart; named = names }
kept_by leaves.Made operation fields least most some count names into apart none were = one_field operation.into into
kept_by leaves.More operation fields least most some count names into apart none were = one_more_field fields operation.into into none were

fields_kept : (operation : Operation) (fields : List (List ℕ)) → IsOperationInRange operation → AreApart (projected (Bolt operation)) → added_fault fields (Bolt operation) ≡ None → AreFields fields → AreFields (fields_after (Bolt operation) fields)
fields_kept operation fields range apart none were =
    let s = shape operation.function in
    kept_by s.leaves operation fields s.least s.most (IsShape.read (shape_fits operation.function)) range.count range.reads range.into apart none were

-- the same of a component that is a bolt
bolt_fields : (p : FileParts) (c : ℕ) (part : ComponentPart) (operation : Operation) → part.body ≡ Bolt operation → IsComponentInRange part → AreApart (projected part.body) → added_fault (fields_to p c) part.body ≡ None → AreFields (fields_to p c) → AreFields (fields_after part.body (fields_to p c))
bolt_fields p c part operation is range apart none were =
    let limits : IsOperationInRange operation = (subst (λ (b : BodyPart). IsBodyInRange b part.inputs) is range.body).0 in
    rw is (fields_kept operation (fields_to p c) limits (subst (λ (b : BodyPart). AreApart (projected b)) is apart) (subst (λ (b : BodyPart). added_fault (fields_to p c) b ≡ None) is none) were)

-- ---- a source for each component

pub some_in : {X : Type 0} (xs : List X) → 1 ≤ length xs → (x : X) × IsIn x xs
some_in [] some = absurd (omega arith)
some_in (x ∷ xs) some = (x, inl refl)

some_value : {X : Type 0} (o : Option X) → is_none o ≡ false → (x : X) × (o ≡ Some x)
some_value None none = absurd (true≢false none)
some_value (Some x) none = (x, refl)

some_inputs : (body : BodyPart) (inputs : List Input) → IsBodyInRange body inputs → 1 ≤ length inputs
some_inputs (Bolt operation) inputs range = range.1.0
some_inputs (State state) inputs range = range.1.0

-- each input names a source
pub named_source : (p : FileParts) (part : ComponentPart) (input : Input) → source_fault p ≡ None → IsIn part (components_of p) → IsIn input part.inputs → (from : Origin) × (source_of p input.from ≡ Some from)
named_source p part input none at listed =
    let strange = λ (input : Input). is_none (source_of p input.from) in
    let all = none_mapped (λ (input : Input). NoSource input.from) (find strange part.inputs) (none_each_map (nameless_fault p) (components_of p) none part at) in
    some_value (source_of p input.from) (none_found strange part.inputs all input listed)

-- an input of a component, with its source
pub record HasSource (p : FileParts) (c : ℕ) (part : ComponentPart) : Type 0 where
  pub input : Input
  pub from : Origin
  pub listed : IsIn input part.inputs
  pub is : source_of p input.from ≡ Some from

pub some_source : (p : FileParts) (c : ℕ) (part : ComponentPart) → IsInRange p → source_fault p ≡ None → IsAt p c part → HasSource p c part
some_source p c part range none at =
    let input = some_in part.inputs (some_inputs part.body part.inputs (range_at p c part range at).body) in
    let from = named_source p part input.0 none (in_place (components_of p) c part at) input.1 in
    record { input = input.0; from = from.0; listed = input.1; is = from.1 }

module _ (p : FileParts) (range : IsInRange p) (faultless : HasNoFault p) where
  pub no_fault_here : (c : ℕ) (part : ComponentPart) → IsAt p c part → HasNoFaultAt p c
  no_fault_here c part is = no_fault_at p c part is faultless.fields

  first_source : (c : ℕ) (part : ComponentPart) → IsAt p c part → (first : Origin) × IsIn first (sources_at p c) × (fields_to p c ≡ fields_of p first)
  first_source c part is =
      let source = some_source p c part range faultless.sources is in
      let at : IsIn source.from (sources_at p c) = to_sources p c source.input source.from (in_inputs_at p c part.inputs source.input (inputs_at_part p c part is) source.listed) source.is in
      let first = first_fed (fields_of p) (feeds_at (graph_of p) c) source.from (subst (IsIn source.from) (sym (froms_at p c)) at) in
      (first.0, subst (IsIn first.0) (froms_at p c) first.1, first.2)

  -- from those of the sources on, as far as there are n bolts before it
  fields_before : (n : ℕ) (from : Origin) → IsRankBelow p n from → IsSource p from → AreFields (fields_of p from)
  fields_before n origin.Spout below there =
      subst AreFields (sym (fields_of_spout p)) (record { count = range.spout.fields; apart = spout_once p faultless.twice; named = range.spout.field_names })
  fields_before zero (origin.Component c) below there = absurd (omega arith)
  fields_before (suc n) (origin.Component c) below there =
      let part = part_there p c (omega (arith, count_parts p)) in
      let operation = the_operation part.0.body (is_bolt_at p c part.0 range part.1 there) in
      let first = first_source c part.0 part.1 in
      let come : AreFields (fields_to p c) = subst AreFields (sym first.2) (fields_before n first.0 (source_below p n c first.0 faultless.cycle first.1 below) (source_there p c first.0 first.1)) in
      subst AreFields (sym (fields_of_part p c part.0 range faultless.cycle part.1))
      (bolt_fields p c part.0 operation.0 operation.1 (range_at p c part.0 range part.1)
      (projected_once p faultless.twice part.0 (in_place (components_of p) c part.0 part.1))
      (HasNoFaultAt.added (no_fault_here c part.0 part.1) part.0 part.1) come)

  pub fields_of_source : (from : Origin) → IsSource p from → AreFields (fields_of p from)
  fields_of_source origin.Spout there = fields_before 0 origin.Spout tt there
  fields_of_source (origin.Component c) there = fields_before (suc (rank p c)) (origin.Component c) (omega arith) there
