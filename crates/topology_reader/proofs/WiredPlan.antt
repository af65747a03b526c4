-- The plan of a file without a fault is wired: its components take rows with the fields that they name.
use Rattle.std.proofs.Common.{◌≡◌, ◌≢◌, ℕ, ◌+◌, ◌<◌, ◌≤◌, ◌==◌, List, [], ◌∷◌, ◌++◌, length, map, filter, All, AllPairs, true, false, Option, Some, None, IsSome, IfSome, option_map, option_to_list, slice_get, sum, take, inl, inr, refl, sym, ◌∙◌, ap, subst, arith}
use Rattle.std.proofs.lemmas.List.{take-map}
use Rattle.std.proofs.lemmas.List.Sums.{sum-map}
use Rattle.topology_reader.proofs.Common.{enumerate_from, range_with_len, option_map_or, Origin, NotExactlyOnce, Input, Operation, shape, Leaves, IsBetween, HasInto, AreLeftOnce, width_left, fields_left, read_left, BodyPart, Bolt, State, ComponentPart, components_of, FileParts, Topology, subs_of, origins, inputs_of, IsInRange, SaysAmount, IsOperationInRange, IsBodyInRange, IsComponentInRange, is_bolt, eqb-true, eq-eqb, false≢true, length-map, map-id, map-map, All-nil, same_Some, Kind, Transactional, Opaque, Sub, plan_fields, plan_fields_to, IsFed, width_after, IsWithin, HasAmount, IsComponent, IsPlaced, IsLaidOut, MayFollowOpaque, IsWired, component_names, inputs_by_component, sources_at, fields_after, fields_of, fields_to, number_of, numbers_of, planned_operation, planned_body, planned_grouping, tasks_by_component, planned_component, plan_of, own_key, projected, fields_read, twice_fault, is_transactional, keeps_exact, replay_fault, meaning_fault, IsSource}
use Rattle.std.specs.List.{find}
use Rattle.std.proofs.lemmas.List.{length-append}
use Rattle.topology_form.specs.declared.parts.StatePart.{StatePart}
use Rattle.topology_plan.specs.declared.parts.Component.{Component}
use Rattle.topology_plan.specs.declared.parts.Fold.{Fold}
use Rattle.topology_plan.specs.declared.parts.Fold.TheVariants.{Count, Sum, Last, Max}
use Rattle.topology_plan.specs.declared.parts.Fold.TheVariants as fold_of
use Rattle.topology_plan.specs.declared.parts.Grouping.TheVariants as grouping
use Rattle.topology_plan.specs.declared.function.Leaves.TheVariants as leaves
use Rattle.topology_plan.specs.declared.parts.Origin.TheVariants as origin
use Rattle.topology_form.specs.declared.parts.GroupingPart.TheVariants as said
use Rattle.topology_plan.specs.Texts.{IsName}
use Rattle.topology_reader.proofs.Listed.{IsIn, All-from_in, All-at_in, in_map, to_map, in_flat_map, to_flat_map, in_filter, to_filter, in_append, in_enumerated, in_place, none_mapped, none_found, to_left, to_right, to_range}
use Rattle.topology_reader.proofs.Distinct.{AreApart, AllPairs-from_apart}
use Rattle.topology_reader.proofs.Numbered.{IsAt, count_parts, inputs_at_part, map_enumerated, range_at, bolt_below, state_past}
use Rattle.topology_reader.proofs.ValidPlan.{HasNoFault, no_fault, IsPlanned, planned_to_plan, planned_in_plan, length_components, planned_source, each_component}
use Rattle.topology_reader.proofs.SourceLemmas.{source_within, to_sources, in_inputs_at, source_there}
use Rattle.topology_reader.proofs.GraphLemmas.{fields_of_part}
use Rattle.topology_reader.proofs.Columns.{HasNoFaultAt, names_once, spout_once, own_key_once, projected_once, HasSource, some_source, AreFields, no_fault_here, fields_of_source}
use Rattle.topology_reader.proofs.SubFacts.{once_planned, number_within, numbers_there, numbers_once, numbers_within, fields_planned, groupings_planned}

-- ---- names and tasks

names_planned : (p : FileParts) → twice_fault p ≡ None → AllPairs (λ (a b : Component). a.name ≢ b.name) (plan_of p).components
unfolding plan_of
names_planned p none =
    let names : map (λ (c : Component). c.name) (plan_of p).components ≡ component_names p =
    map-map (λ (c : Component). c.name) (planned_component p) (enumerate_from 0 (components_of p))
    ∙ map_enumerated (λ numbered. (planned_component p numbered).name) (λ (part : ComponentPart). part.name) (λ c part. refl) 0 (components_of p)
    in
    let apart : AreApart (p.spout.name ∷ component_names p) = names_once p none in
    AllPairs-from_apart (λ (c : Component). c.name) (plan_of p).components (subst AreApart (sym names) apart.1)

pub tasks_planned : (p : FileParts) → map (λ (c : Component). c.tasks) (plan_of p).components ≡ tasks_by_component p
unfolding plan_of
tasks_planned p =
    map-map (λ (c : Component). c.tasks) (planned_component p) (enumerate_from 0 (components_of p))
    ∙ map_enumerated (λ numbered. (planned_component p numbered).tasks) (λ (part : ComponentPart). part.tasks) (λ c part. refl) 0 (components_of p)

-- ---- operations

left_once : (l : Leaves) (fields names : List (List ℕ)) → AreApart (read_left l names) → ((name : List ℕ) → IsIn name names → IsIn name fields) → AreLeftOnce l (numbers_of fields names)
left_once leaves.Same fields names apart there = tt
left_once leaves.Read fields names apart there = numbers_once fields names apart there
left_once leaves.Made fields names apart there = tt
left_once leaves.More fields names apart there = tt

operation_within : (fields : List (List ℕ)) (operation : Operation) → IsOperationInRange operation → AreApart (projected (Bolt operation)) → ((name : List ℕ) → IsIn name (fields_read (Bolt operation)) → IsIn name fields) → IsWithin (planned_operation fields operation) (length fields)
operation_within fields operation limits apart there =
    let count : IsBetween (length operation.reads) (shape operation.function).least (shape operation.function).most = limits.count in
    let same : length (numbers_of fields operation.reads) ≡ length operation.reads = length-map operation.reads (number_of fields) in (
      (omega (arith, same, count.0), omega (arith, same, count.1)),
      numbers_there fields operation.reads there,
      left_once (shape operation.function).leaves fields operation.reads apart there,
      limits.range,
    )

one_made : (into : Option (List ℕ)) → HasInto leaves.Made into → length (option_to_list into) ≡ 1
one_made None has = absurd (false≢true has.0)
one_made (Some into) has = refl

width_by : (l : Leaves) (fields : List (List ℕ)) (operation : Operation) → HasInto l operation.into → length (fields_left l operation fields) ≡ width_left l (length (numbers_of fields operation.reads)) (length fields)
width_by leaves.Same fields operation has = refl
width_by leaves.Read fields operation has = sym (length-map operation.reads (number_of fields))
width_by leaves.Made fields operation has = one_made operation.into has
width_by leaves.More fields operation has = length-append fields (option_to_list operation.into) ∙ ap (λ n. length fields + n) (one_made operation.into has)

width_kept : (fields : List (List ℕ)) (operation : Operation) → IsOperationInRange operation → length (fields_after (Bolt operation) fields) ≡ width_after (planned_operation fields operation) (length fields)
width_kept fields operation limits = width_by (shape operation.function).leaves fields operation limits.into

-- ---- amounts

some_amount : (fields : List (List ℕ)) (amount : Option (List ℕ)) → IsSome amount → ((name : List ℕ) → IsIn name (option_to_list amount) → IsIn name fields)
    → IsSome (option_map (number_of fields) amount) × IfSome (option_map (number_of fields) amount) (λ field. field < length fields)
some_amount fields None some there = absurd (false≢true some)
some_amount fields (Some name) some there = (refl, number_within fields name (there name (inl refl)))

amount_planned : (fields : List (List ℕ)) (fold : Fold) (amount : Option (List ℕ)) → SaysAmount fold amount → ((name : List ℕ) → IsIn name (option_to_list amount) → IsIn name fields)
    → HasAmount fold (option_map (number_of fields) amount) (length fields)
amount_planned fields Count amount said there = ap (option_map (number_of fields)) said
amount_planned fields Sum amount said there = some_amount fields amount said there
amount_planned fields Last amount said there = some_amount fields amount said there
amount_planned fields Max amount said there = some_amount fields amount said there
amount_planned fields fold_of.Custom amount said there = some_amount fields amount said there

-- ---- what comes to a component

input_planned : (p : FileParts) (c : ℕ) (input : Origin × Sub) → IsIn input (inputs_of (plan_of p) c) → IsPlanned p input.0 input.1 × (input.1.to ≡ c)
input_planned p c input at =
    let from = in_flat_map (λ from. map (λ sub. (from, sub)) (filter (λ (sub : Sub). sub.to == c) (subs_of (plan_of p) from))) (origins (plan_of p)) input at in
    let sub = in_map (λ (sub : Sub). (from.0, sub)) (filter (λ (sub : Sub). sub.to == c) (subs_of (plan_of p) from.0)) input from.2 in
    let kept = in_filter (λ (sub : Sub). sub.to == c) (subs_of (plan_of p) from.0) sub.0 sub.1 in
    subst (λ (i : Origin × Sub). IsPlanned p i.0 i.1 × (i.1.to ≡ c)) sub.2 (planned_in_plan p from.0 sub.0 kept.0, eqb-true sub.0.to c kept.1)

origin_there : (p : FileParts) (from : Origin) → IsSource p from → IsIn from (origins (plan_of p))
origin_there p origin.Spout there = inl refl
origin_there p (origin.Component c) there =
    inr (to_map origin.Component (range_with_len 0 (length (plan_of p).components)) c (to_range 0 (length (plan_of p).components) c (omega arith) (omega (arith, length_components p, count_parts p))))

source_comes : (p : FileParts) (c : ℕ) (part : ComponentPart) → IsAt p c part → HasSource p c part → inputs_of (plan_of p) c ≢ []
source_comes p c part is source none =
    let sub : Sub = record { to = c; grouping = planned_grouping p source.from source.input.grouping } in
    let inputs = inputs_at_part p c part is in
    let listed : IsIn source.from (sources_at p c) = to_sources p c source.input source.from (in_inputs_at p c part.inputs source.input inputs source.listed) source.is in
    let there : IsSource p source.from = source_there p c source.from listed in
    let taken : IsIn sub (subs_of (plan_of p) source.from) = planned_to_plan p source.from c part.inputs source.input inputs source.listed source.is in
    let at : IsIn (source.from, sub) (inputs_of (plan_of p) c) =
    to_flat_map (λ from. map (λ sub. (from, sub)) (filter (λ (sub : Sub). sub.to == c) (subs_of (plan_of p) from))) (origins (plan_of p)) source.from (source.from, sub)
    (origin_there p source.from there)
    (to_map (λ (sub : Sub). (source.from, sub)) (filter (λ (sub : Sub). sub.to == c) (subs_of (plan_of p) source.from)) sub
    (to_filter (λ (sub : Sub). sub.to == c) (subs_of (plan_of p) source.from) sub taken (eq-eqb c c refl)))
    in
    absurd (subst (IsIn (source.from, sub)) none at)

none_in : {X : Type 0} (xs : List X) → ((x : X) → IsIn x xs → ⊥) → xs ≡ []
none_in [] none = refl
none_in (x ∷ xs) none = absurd (none x (inl refl))

-- no component takes the rows of a state
no_subs_of_state : (p : FileParts) (c : ℕ) → length p.bolts ≤ c → subs_of (plan_of p) (origin.Component c) ≡ []
no_subs_of_state p c past =
    none_in (subs_of (plan_of p) (origin.Component c))
    (λ sub at.
    let planned = planned_in_plan p (origin.Component c) sub at in
    let bolt : c < length p.bolts = source_within p planned.input.from c planned.source in
    absurd (omega arith))

of_first : (t : Topology) (fields : List (List ℕ)) (inputs : List (Origin × Sub)) → inputs ≢ [] → ((input : Origin × Sub) → IsIn input inputs → plan_fields t input.0 ≡ fields)
    → option_map_or (λ (input : Origin × Sub). plan_fields t input.0) (slice_get inputs 0) [] ≡ fields
of_first t fields [] some same = absurd (some refl)
of_first t fields (input ∷ inputs) some same = same input (inl refl)

-- ---- the components

module _ (p : FileParts) (range : IsInRange p) (faultless : HasNoFault p) where
  -- the rows of each source have the fields that come to the component
  fields_same : (c : ℕ) (part : ComponentPart) → IsAt p c part → (input : Origin × Sub) → IsIn input (inputs_of (plan_of p) c) → plan_fields (plan_of p) input.0 ≡ fields_to p c
  fields_same c part is input at =
      let planned = input_planned p c input at in
      let source : IsIn input.0 (sources_at p c) = subst (λ k. IsIn input.0 (sources_at p k)) planned.1 (planned_source p input.0 input.1 planned.0) in
      fields_planned p input.0 (source_there p c input.0 source) ∙ HasNoFaultAt.same (no_fault_here p range faultless c part is) input.0 source

  some_comes : (c : ℕ) (part : ComponentPart) → IsAt p c part → inputs_of (plan_of p) c ≢ []
  some_comes c part is = source_comes p c part is (some_source p c part range faultless.sources is)

  fields_come : (c : ℕ) (part : ComponentPart) → IsAt p c part → plan_fields_to (plan_of p) c ≡ fields_to p c
  fields_come c part is = of_first (plan_of p) (fields_to p c) (inputs_of (plan_of p) c) (some_comes c part is) (fields_same c part is)

  -- the inputs of a state are grouped by its key
  keyed : (c : ℕ) (part : ComponentPart) (state : StatePart) → IsAt p c part → part.body ≡ State state → All (λ input. (input.1).grouping ≡ grouping.Fields (numbers_of (fields_to p c) state.key)) (inputs_of (plan_of p) c)
  keyed c part state is body =
      All-from_in (λ input. (input.1).grouping ≡ grouping.Fields (numbers_of (fields_to p c) state.key)) (inputs_of (plan_of p) c)
      (λ input listed.
      let planned = input_planned p c input listed in
      let source : IsIn input.0 (sources_at p c) = subst (λ k. IsIn input.0 (sources_at p k)) planned.1 (planned_source p input.0 input.1 planned.0) in
      let limits : IsBodyInRange (State state) part.inputs = subst (λ (b : BodyPart). IsBodyInRange b part.inputs) body (IsComponentInRange.body (range_at p c part range is)) in
      let inputs : planned.0.inputs ≡ part.inputs =
      same_Some planned.0.inputs part.inputs (sym (subst (λ k. slice_get (inputs_by_component p) k ≡ Some planned.0.inputs) planned.1 planned.0.consumer) ∙ inputs_at_part p c part is)
      in
      let said : planned.0.input.grouping ≡ said.Fields state.key = All-at_in (λ (input : Input). input.grouping ≡ said.Fields state.key) part.inputs limits.3 planned.0.input (subst (IsIn planned.0.input) inputs planned.0.listed) in
      planned.0.grouping
      ∙ ap (planned_grouping p input.0) said
      ∙ ap (λ fields. grouping.Fields (numbers_of fields state.key)) (HasNoFaultAt.same (no_fault_here p range faultless c part is) input.0 source))

  -- the fields of a bolt, and the none of a state
  fields_fed : (c : ℕ) (part : ComponentPart) (body : BodyPart) → IsAt p c part → part.body ≡ body
      → IsFed (plan_of p) c (length (fields_to p c)) (planned_body (fields_to p c) body) (fields_of p (origin.Component c))
      × (AreApart (fields_of p (origin.Component c)) × All IsName (fields_of p (origin.Component c)))
  fields_fed c part (Bolt operation) is body =
      let fields : AreFields (fields_of p (origin.Component c)) = fields_of_source p range faultless (origin.Component c) (bolt_below p c part range is (ap is_bolt body)) in
      let limits : IsBodyInRange (Bolt operation) part.inputs = subst (λ (b : BodyPart). IsBodyInRange b part.inputs) body (IsComponentInRange.body (range_at p c part range is)) in
      let left : fields_of p (origin.Component c) ≡ fields_after (Bolt operation) (fields_to p c) = fields_of_part p c part range faultless.cycle is ∙ ap (λ b. fields_after b (fields_to p c)) body in (
        (
          operation_within (fields_to p c) operation limits.0 (subst (λ (b : BodyPart). AreApart (projected b)) body (projected_once p faultless.twice part (in_place (components_of p) c part is)))
              (λ name at. HasNoFaultAt.reads (no_fault_here p range faultless c part is) part is name
              (subst (λ (b : BodyPart). IsIn name (fields_read b)) (sym body) at)),
          ap (λ (names : List (List ℕ)). length names) left ∙ width_kept (fields_to p c) operation limits.0,
          fields.count,
        ),
        (fields.apart, fields.named),
      )
  fields_fed c part (State state) is body =
      let none : fields_of p (origin.Component c) ≡ [] = fields_of_part p c part range faultless.cycle is ∙ ap (λ b. fields_after b (fields_to p c)) body in
      let limits : IsBodyInRange (State state) part.inputs = subst (λ (b : BodyPart). IsBodyInRange b part.inputs) body (IsComponentInRange.body (range_at p c part range is)) in
      let reads : (name : List ℕ) → IsIn name (state.key ++ option_to_list state.amount) → IsIn name (fields_to p c) =
      λ name read. HasNoFaultAt.reads (no_fault_here p range faultless c part is) part is name (subst (λ (b : BodyPart). IsIn name (fields_read b)) (sym body) read)
      in (
        (
          none,
          no_subs_of_state p c (state_past p c part range is (ap is_bolt body)),
          numbers_within (fields_to p c) state.key limits.2 (subst (λ (b : BodyPart). AreApart (own_key b)) body (own_key_once p faultless.twice part (in_place (components_of p) c part is))) (λ name read. reads name (to_left state.key (option_to_list state.amount) name read)),
          amount_planned (fields_to p c) state.fold state.amount limits.0 (λ name read. reads name (to_right state.key (option_to_list state.amount) name read)),
          keyed c part state is body,
        ),
        (subst AreApart (sym none) tt, subst (All IsName) (sym none) (All-nil IsName)),
      )

  part_planned : (c : ℕ) (part : ComponentPart) → IsAt p c part → IsComponent (plan_of p) c (planned_component p (c, part))
  part_planned c part is =
      let limits : IsComponentInRange part = range_at p c part range is in
      let fed = fields_fed c part part.body is refl in
      record {
        name = limits.name;
        sources = All-from_in (λ input. plan_fields (plan_of p) input.0 ≡ plan_fields_to (plan_of p) c) (inputs_of (plan_of p) c) (λ input at. fields_same c part is input at ∙ sym (fields_come c part is));
        some_source = some_comes c part is;
        fed = subst (λ n. IsFed (plan_of p) c n (planned_body (fields_to p c) part.body) (fields_of p (origin.Component c))) (ap (λ (fields : List (List ℕ)). length fields) (sym (fields_come c part is))) fed.0;
        fields = AllPairs-from_apart (λ (name : List ℕ). name) (fields_of p (origin.Component c)) (subst AreApart (sym (map-id (fields_of p (origin.Component c)))) fed.1.0);
        field_names = fed.1.1;
        first_task = sym (sum-map (λ (one : ComponentPart). one.tasks) (take c (components_of p))) ∙ ap sum (sym (take-map (λ (one : ComponentPart). one.tasks) c (components_of p))) ∙ ap (λ tasks. sum (take c tasks)) (sym (tasks_planned p));
        tasks = limits.tasks;
      }

  component_planned : (c : ℕ) → IfSome (slice_get (plan_of p).components c) (IsComponent (plan_of p) c)
  component_planned = each_component p (IsComponent (plan_of p)) part_planned

-- ---- bolts and then states

placed_body : (bolts c : ℕ) (fields : List (List ℕ)) (body : BodyPart) → (is_bolt body ≡ true → c < bolts) → (is_bolt body ≡ false → bolts ≤ c) → IsPlaced bolts c (planned_body fields body)
placed_body bolts c fields (Bolt operation) below past = below refl
placed_body bolts c fields (State state) below past = past refl

layout_planned : (p : FileParts) → IsInRange p → IsLaidOut (plan_of p)
layout_planned p range = record {
  bolts = length p.bolts;
  few = range.bolts;
  states = (omega (arith, length_components p, count_parts p, range.states.0), omega (arith, length_components p, count_parts p, range.states.1));
  placed =
      each_component p (λ c (component : Component). IsPlaced (length p.bolts) c component.body)
      (λ c part is. placed_body (length p.bolts) c (fields_to p c) part.body (bolt_below p c part range is) (state_past p c part range is));
}

-- ---- the spout's kind

opaque_kind : (kind : Kind) → is_transactional kind ≡ false → kind ≡ Opaque
opaque_kind Transactional other = absurd (false≢true (sym other))
opaque_kind Opaque other = refl

may_follow : (fields : List (List ℕ)) (body : BodyPart) → keeps_exact body ≡ false → MayFollowOpaque (planned_body fields body)
may_follow fields (Bolt operation) other = tt
may_follow fields (State state) other = opaque_kind state.kind other

none_exact : (body : BodyPart) → is_bolt body ≡ true → keeps_exact body ≡ false
none_exact (Bolt operation) is = refl
none_exact (State state) is = absurd (false≢true is)

-- no state is transactional under an opaque spout
pub replays_said : (p : FileParts) → replay_fault p p.spout.kind ≡ None → p.spout.kind ≡ Opaque → (part : ComponentPart) → IsIn part p.states → keeps_exact part.body ≡ false
replays_said p none opaque part at =
    let exact = λ (part : ComponentPart). keeps_exact part.body in
    none_found exact p.states (none_mapped (λ (part : ComponentPart). NotExactlyOnce part.name) (find exact p.states) (subst (λ kind. replay_fault p kind ≡ None) opaque none)) part at

replays_planned : (p : FileParts) → IsInRange p → replay_fault p p.spout.kind ≡ None → (plan_of p).spout_kind ≡ Opaque → All (λ (component : Component). MayFollowOpaque component.body) (plan_of p).components
unfolding plan_of
replays_planned p range none opaque =
    All-from_in (λ (component : Component). MayFollowOpaque component.body) (map (planned_component p) (enumerate_from 0 (components_of p)))
    (λ component at.
    let made = in_map (planned_component p) (enumerate_from 0 (components_of p)) component at in
    let place = in_enumerated 0 (components_of p) made.0 made.1 in
    let part : ComponentPart = made.0.1 in
    let other : keeps_exact part.body ≡ false =
    elim (in_append p.bolts p.states part (in_place (components_of p) place.0 part place.2)) [
      | inl bolt ↦ none_exact part.body (All-at_in (λ (part : ComponentPart). is_bolt part.body ≡ true) p.bolts range.are_bolts part bolt)
      | inr state ↦ replays_said p none opaque part state
    ]
    in
    subst (λ (made : Component). MayFollowOpaque made.body) made.2 (may_follow (fields_to p made.0.0) part.body other))

pub wired_plan : (p : FileParts) → IsInRange p → meaning_fault p ≡ None → IsWired (plan_of p)
unfolding plan_of
wired_plan p range none =
    let faultless : HasNoFault p = no_fault p none in
    record {
      layout = layout_planned p range;
      spout_fields = AllPairs-from_apart (λ (name : List ℕ). name) p.spout.fields (subst AreApart (sym (map-id p.spout.fields)) (spout_once p faultless.twice));
      spout_field_names = range.spout.field_names;
      names = names_planned p faultless.twice;
      once = λ from. once_planned p from faultless.twice;
      groupings = groupings_planned p range faultless;
      components = component_planned p range faultless;
      replays = replays_planned p range faultless.replay;
      partitioned = range.spout.partitioned;
    }
