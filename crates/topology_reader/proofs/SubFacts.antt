-- The subscriptions of the plan of a file without a fault: at most one of a component to a source, with a grouping by fields that are there.
use Rattle.std.proofs.Common.{◌≡◌, ◌≢◌, ℕ, ◌+◌, ◌<◌, ◌≤◌, List, [], ◌∷◌, ◌++◌, length, map, filter, All, AllPairs, Bool, true, false, Option, Some, None, option_map, option_and_then, slice_get, unwrap_or, codes, ◌⊎◌, inl, inr, refl, sym, ◌∙◌, ap, subst, arith}
use Rattle.topology_reader.proofs.Common.{most_fields, enumerate_from, flat_map, option_map_or, Origin, WrongKind, GroupingPart, Input, Operation, shape, Leaves, IsShape, IsChoice, shape_fits, first_field, IsOperationInRange, IsBodyInRange, fields_left, BodyPart, Bolt, State, ComponentPart, components_of, FileParts, IsBetween, IsInRange, IsGroupingInRange, IsComponentInRange, cases_Bool, cases_lt, cond-true, cond-false, false≢true, false_from_ne_true, length-map, map-id, none-some, same_Some, slice_get_within, Sub, subs_of, plan_fields, width_of, AreWithin, IsRouteOf, IsFrom, source_of, inputs_by_component, inputs_at, sources_at, fields_after, fields_of, fields_to, body_of, number_of, numbers_of, planned_body, route_field, planned_grouping, is_from, subs_of_component, planned_subs, planned_component, plan_of, key_of, is_route, chooses, direct_fault, fields_read, twice_fault, IsSource}
use Rattle.std.specs.List.Sorted.{IsStrictlyIncreasing}
use Rattle.topology_plan.specs.declared.parts.Component.{Component}
use Rattle.topology_plan.specs.declared.function.Leaves.TheVariants as leaves
use Rattle.topology_plan.specs.declared.parts.Origin.TheVariants as origin
use Rattle.topology_form.specs.declared.parts.GroupingPart.TheVariants as said
use Rattle.topology_reader.proofs.Listed.{IsIn, All-from_in, All-at_in, in_map, to_map, in_place}
use Rattle.topology_reader.proofs.Distinct.{place_named, place_within, place_there, AreApart, AllPairs-from_apart, IsRising, rising_above, increasing_from_rising}
use Rattle.topology_reader.proofs.Places.{place_of-names}
use Rattle.topology_reader.proofs.Numbered.{count_parts, part_there, planned_at, range_at}
use Rattle.topology_reader.proofs.ValidPlan.{HasNoFault, is_source, IsPlanned, planned_in_plan, subs_of_plan, no_subs_past, planned_source}
use Rattle.topology_reader.proofs.SourceLemmas.{length_inputs, in_inputs_at, source_there, IsNamed, source_named, of_inputs}
use Rattle.topology_reader.proofs.GraphLemmas.{fields_of_spout, fields_of_part}
use Rattle.topology_reader.proofs.Columns.{HasNoFaultAt, froms_once, key_once, no_fault_here}

-- ---- one name of a source

one_name : (p : FileParts) (from : Origin) (a b : List ℕ) → IsNamed p from a → IsNamed p from b → a ≡ b
one_name p origin.Spout a b first second = sym first ∙ second
one_name p (origin.Component c) a b first second = same_Some a b (sym first ∙ second)

-- ---- at most one subscription of a component to a source

pub none_kept : {X : Type 0} (test : X → Bool) (xs : List X) → ((x : X) → IsIn x xs → test x ≡ false) → filter test xs ≡ []
none_kept test [] each = refl
none_kept test (x ∷ xs) each = cond-false (test x) (x ∷ filter test xs) (filter test xs) (each x (inl refl)) ∙ none_kept test xs (λ y at. each y (inr at))

one_kept : (p : FileParts) (from : Origin) (inputs : List Input) → AreApart (map (λ (input : Input). input.from) inputs)
    → (filter (is_from p from) inputs ≡ []) ⊎ ((input : Input) × (filter (is_from p from) inputs ≡ input ∷ []))
one_kept p from [] apart = inl refl
one_kept p from (input ∷ inputs) apart =
    elim (cases_Bool (is_from p from input)) [
      | inl here ↦
          let others : filter (is_from p from) inputs ≡ [] =
          none_kept (is_from p from) inputs
          (λ other at. false_from_ne_true (is_from p from other)
          (λ again.
          let same : other.from ≡ input.from = one_name p from other.from input.from (source_named p other.from from (is_source from (source_of p other.from) again)) (source_named p input.from from (is_source from (source_of p input.from) here)) in
          apart.0 (subst (λ name. IsIn name (map (λ (i : Input). i.from) inputs)) same (to_map (λ (i : Input). i.from) inputs other at))))
          in
          inr (input, cond-true (is_from p from input) (input ∷ filter (is_from p from) inputs) (filter (is_from p from) inputs) here ∙ ap (λ rest. input ∷ rest) others)
      | inr gone ↦
          let same = cond-false (is_from p from input) (input ∷ filter (is_from p from) inputs) (filter (is_from p from) inputs) gone in
          elim (one_kept p from inputs apart.1) [
            | inl none ↦ inl (same ∙ none)
            | inr one ↦ inr (one.0, same ∙ one.1)
          ]
    ]

rising_subs : (p : FileParts) (from : Origin) (n : ℕ) (all : List (List Input)) → ((inputs : List Input) → IsIn inputs all → AreApart (map (λ (input : Input). input.from) inputs))
    → IsRising n (map (λ (sub : Sub). sub.to) (flat_map (subs_of_component p from) (enumerate_from n all)))
rising_subs p from n [] apart = tt
rising_subs p from n (inputs ∷ all) apart =
    let later = flat_map (subs_of_component p from) (enumerate_from (n + 1) all) in
    let rest : IsRising (n + 1) (map (λ (sub : Sub). sub.to) later) = rising_subs p from (n + 1) all (λ others at. apart others (inr at)) in
    let made = λ (kept : List Input). map (λ (sub : Sub). sub.to) (map (λ (input : Input). record { to = n; grouping = planned_grouping p from input.grouping }) kept ++ later) in
    elim (one_kept p from inputs (apart inputs (inl refl))) [
      | inl none ↦ subst (λ kept. IsRising n (made kept)) (sym none) (rising_above n (n + 1) (map (λ (sub : Sub). sub.to) later) (omega arith) rest)
      | inr one ↦ subst (λ kept. IsRising n (made kept)) (sym one.1) (omega arith, rest)
    ]

pub inputs_apart : (p : FileParts) (inputs : List Input) → twice_fault p ≡ None → IsIn inputs (inputs_by_component p) → AreApart (map (λ (input : Input). input.from) inputs)
inputs_apart p inputs none = of_inputs p (λ (is : List Input). AreApart (map (λ (input : Input). input.from) is)) (froms_once p none) inputs

once_from : (p : FileParts) (from : Origin) → twice_fault p ≡ None → IsStrictlyIncreasing (map (λ (sub : Sub). sub.to) (planned_subs p from))
once_from p from none =
    increasing_from_rising 0 (map (λ (sub : Sub). sub.to) (planned_subs p from)) (rising_subs p from 0 (inputs_by_component p) (λ inputs at. inputs_apart p inputs none at))

pub once_planned : (p : FileParts) (from : Origin) → twice_fault p ≡ None → IsStrictlyIncreasing (map (λ (sub : Sub). sub.to) (subs_of (plan_of p) from))
unfolding plan_of
once_planned p origin.Spout none = once_from p origin.Spout none
once_planned p (origin.Component c) none =
    elim (cases_lt c (length (inputs_by_component p))) [
      | inl within ↦ subst (λ (subs : List Sub). IsStrictlyIncreasing (map (λ (sub : Sub). sub.to) subs)) (sym (subs_of_plan p c within)) (once_from p (origin.Component c) none)
      | inr past ↦ subst (λ (subs : List Sub). IsStrictlyIncreasing (map (λ (sub : Sub). sub.to) subs)) (sym (no_subs_past p c past)) (λ k within. absurd (omega arith))
    ]

-- ---- fields by their numbers

pub number_within : (fields : List (List ℕ)) (name : List ℕ) → IsIn name fields → number_of fields name < length fields
number_within fields name at =
    let place = place_there fields name at in
    subst (λ there. unwrap_or there 0 < length fields) (sym (place_of-names fields name ∙ place.1)) (place_within fields name place.0 place.1)

one_number : (fields : List (List ℕ)) (a b : List ℕ) → IsIn a fields → IsIn b fields → number_of fields a ≡ number_of fields b → a ≡ b
one_number fields a b first second same =
    let here = place_there fields a first in
    let there = place_there fields b second in
    let one : here.0 ≡ there.0 = sym (ap (λ place. unwrap_or place 0) (place_of-names fields a ∙ here.1)) ∙ (same ∙ ap (λ place. unwrap_or place 0) (place_of-names fields b ∙ there.1)) in
    same_Some a b (sym (place_named fields a here.0 here.1) ∙ (ap (slice_get fields) one ∙ place_named fields b there.0 there.1))

numbers_apart : (fields names : List (List ℕ)) → AreApart names → ((name : List ℕ) → IsIn name names → IsIn name fields) → AreApart (numbers_of fields names)
numbers_apart fields [] apart there = tt
numbers_apart fields (name ∷ names) apart there = (
  λ at.
      let other = in_map (number_of fields) names (number_of fields name) at in
      apart.0 (subst (λ n. IsIn n names) (one_number fields other.0 name (there other.0 (inr other.1)) (there name (inl refl)) other.2) other.1),
  numbers_apart fields names apart.1 (λ n at. there n (inr at)),
)

pub numbers_there : (fields names : List (List ℕ)) → ((name : List ℕ) → IsIn name names → IsIn name fields) → All (λ field. field < length fields) (numbers_of fields names)
numbers_there fields names there =
    All-from_in (λ field. field < length fields) (numbers_of fields names)
    (λ field at.
    let name = in_map (number_of fields) names field at in
    subst (λ n. n < length fields) name.2 (number_within fields name.0 (there name.0 name.1)))

pub numbers_once : (fields names : List (List ℕ)) → AreApart names → ((name : List ℕ) → IsIn name names → IsIn name fields) → AllPairs (λ a b. a ≢ b) (numbers_of fields names)
numbers_once fields names apart there =
    AllPairs-from_apart (λ (n : ℕ). n) (numbers_of fields names) (subst AreApart (sym (map-id (numbers_of fields names))) (numbers_apart fields names apart there))

pub numbers_within : (fields names : List (List ℕ)) → IsBetween (length names) 1 most_fields → AreApart names → ((name : List ℕ) → IsIn name names → IsIn name fields) → AreWithin (numbers_of fields names) (length fields)
numbers_within fields names count apart there = (
  (omega (arith, length-map names (number_of fields), count.0), omega (arith, length-map names (number_of fields), count.1)),
  numbers_there fields names there,
  numbers_once fields names apart there,
)

-- ---- fields of the plan

pub fields_planned : (p : FileParts) (from : Origin) → IsSource p from → plan_fields (plan_of p) from ≡ fields_of p from
unfolding plan_of
fields_planned p origin.Spout there = sym (fields_of_spout p)
fields_planned p (origin.Component c) there =
    let part = part_there p c (omega (arith, count_parts p)) in
    ap (λ (component : Option Component). option_map_or (λ (c : Component). c.fields) component []) (planned_at p c part.0 part.1)

width_planned : (p : FileParts) (from : Origin) → IsSource p from → width_of (plan_of p) from ≡ length (fields_of p from)
width_planned p from there = ap (λ (fields : List (List ℕ)). length fields) (fields_planned p from there)

-- ---- routes

choice_is : (chooses : Bool) (least : ℕ) (l : Leaves) → chooses ≡ true → IsChoice chooses least l → (1 ≤ least) × (l ≡ leaves.Same)
choice_is true least l is choice = choice
choice_is false least l is choice = absurd (false≢true is)

-- an operation that chooses tasks reads a field and leaves those that came
chosen : (operation : Operation) → (shape operation.function).chooses ≡ true → (1 ≤ (shape operation.function).least) × ((shape operation.function).leaves ≡ leaves.Same)
chosen operation route =
    let s = shape operation.function in choice_is s.chooses s.least s.leaves route (IsShape.choice (shape_fits operation.function))

first_number : (fields names : List (List ℕ)) → first_field (numbers_of fields names) ≡ option_map_or (number_of fields) (slice_get names 0) 0
first_number fields [] = refl
first_number fields (name ∷ names) = refl

some_first : (names : List (List ℕ)) → 1 ≤ length names → (name : List ℕ) × IsIn name names × (slice_get names 0 ≡ Some name)
some_first [] some = absurd (omega arith)
some_first (name ∷ names) some = (name, inl refl, refl)

route_is : (fields : List (List ℕ)) (operation : Operation) → (shape operation.function).chooses ≡ true → route_field fields (Bolt operation) ≡ option_map_or (number_of fields) (slice_get operation.reads 0) 0
route_is fields operation route = cond-true (shape operation.function).chooses (option_map_or (number_of fields) (slice_get operation.reads 0) 0) 0 route

route_of : (fields : List (List ℕ)) (body : BodyPart) → is_route body ≡ true → IsRouteOf (planned_body fields body) (route_field fields body)
route_of fields (Bolt operation) route = (route, first_number fields operation.reads ∙ sym (route_is fields operation route))
route_of fields (State state) route = absurd (false≢true route)

route_keeps : (fields : List (List ℕ)) (body : BodyPart) → is_route body ≡ true → fields_after body fields ≡ fields
route_keeps fields (Bolt operation) route = ap (λ (l : Leaves). fields_left l operation fields) (chosen operation route).1
route_keeps fields (State state) route = absurd (false≢true route)

route_within : (fields : List (List ℕ)) (body : BodyPart) (inputs : List Input) → IsBodyInRange body inputs → is_route body ≡ true → ((name : List ℕ) → IsIn name (fields_read body) → IsIn name fields) → route_field fields body < length fields
route_within fields (Bolt operation) inputs limits route there =
    let count : IsBetween (length operation.reads) (shape operation.function).least (shape operation.function).most = IsOperationInRange.count limits.0 in
    let first = some_first operation.reads (omega (arith, (chosen operation route).0, count.0)) in
    let field : route_field fields (Bolt operation) ≡ number_of fields first.0 = route_is fields operation route ∙ ap (λ there. option_map_or (number_of fields) there 0) first.2 in
    subst (λ n. n < length fields) (sym field) (number_within fields first.0 (there first.0 first.1))
route_within fields (State state) inputs limits route there = absurd (false≢true route)

pub chosen_by_route : (p : FileParts) (input : Input) (from : Origin) → source_of p input.from ≡ Some from → direct_fault p input said.Direct ≡ None → option_map_or is_route (body_of p from) false ≡ true
chosen_by_route p input from source none =
    elim (cases_Bool (chooses p input)) [
      | inl chosen ↦ subst (λ there. option_map_or is_route (option_and_then (body_of p) there) false ≡ true) source chosen
      | inr other ↦ absurd (none-some (WrongKind (codes "grouping")) (sym none ∙ cond-false (chooses p input) None (Some (WrongKind (codes "grouping"))) other))
    ]

-- ---- groupings

said_in_range : (p : FileParts) (inputs : List Input) (input : Input) → IsInRange p → IsIn inputs (inputs_by_component p) → IsIn input inputs → IsGroupingInRange input.grouping
said_in_range p inputs input range at =
    of_inputs p (λ (is : List Input). (input : Input) → IsIn input is → IsGroupingInRange input.grouping)
    (λ part at. All-at_in (λ (input : Input). IsGroupingInRange input.grouping) part.inputs (IsComponentInRange.groupings (All-at_in IsComponentInRange (components_of p) range.each part at))) inputs at input

-- no name stands twice in a key
pub key_apart : (p : FileParts) (inputs : List Input) (input : Input) → twice_fault p ≡ None → IsIn inputs (inputs_by_component p) → IsIn input inputs → AreApart (key_of input.grouping)
key_apart p inputs input none at = of_inputs p (λ (is : List Input). (input : Input) → IsIn input is → AreApart (key_of input.grouping)) (key_once p none) inputs at input

module _ (p : FileParts) (range : IsInRange p) (faultless : HasNoFault p) where
  -- a direct grouping comes from a route
  direct_planned : (c : ℕ) → c < length p.bolts → option_map_or is_route (body_of p (origin.Component c)) false ≡ true → IsFrom (plan_of p) (origin.Component c) (planned_grouping p (origin.Component c) said.Direct)
  direct_planned c within chosen =
      let part = part_there p c (omega (arith, count_parts p)) in
      let here : HasNoFaultAt p c = no_fault_here p range faultless c part.0 part.1 in
      let route : is_route part.0.body ≡ true = subst (λ (there : Option ComponentPart). option_map_or is_route (option_map (λ (b : ComponentPart). b.body) there) false ≡ true) part.1 chosen in
      let fields : fields_of p (origin.Component c) ≡ fields_to p c = fields_of_part p c part.0 range faultless.cycle part.1 ∙ route_keeps (fields_to p c) part.0.body route in
      let field : option_map_or (route_field (fields_of p (origin.Component c))) (body_of p (origin.Component c)) 0 ≡ route_field (fields_to p c) part.0.body =
      ap (λ (there : Option ComponentPart). option_map_or (route_field (fields_of p (origin.Component c))) (option_map (λ (b : ComponentPart). b.body) there) 0) part.1
      ∙ ap (λ names. route_field names part.0.body) fields
      in (
        planned_component p (c, part.0),
        planned_at p c part.0 part.1,
        subst (IsRouteOf (planned_body (fields_to p c) part.0.body)) (sym field) (route_of (fields_to p c) part.0.body route),
        subst (λ n. n < length (fields_of p (origin.Component c))) (sym field)
            (subst (λ (names : List (List ℕ)). route_field (fields_to p c) part.0.body < length names) (sym fields) (route_within (fields_to p c) part.0.body part.0.inputs (IsComponentInRange.body (range_at p c part.0 range part.1)) route (here.reads part.0 part.1))),
      )

  said_planned : (from : Origin) (by : GroupingPart) → IsSource p from → IsGroupingInRange by → AreApart (key_of by) → ((name : List ℕ) → IsIn name (key_of by) → IsIn name (fields_of p from))
      → (by ≡ said.Direct → option_map_or is_route (body_of p from) false ≡ true) → IsFrom (plan_of p) from (planned_grouping p from by)
  said_planned from said.Shuffle there limits apart keys direct = tt
  said_planned from (said.Fields key) there limits apart keys direct =
      subst (AreWithin (numbers_of (fields_of p from) key)) (sym (width_planned p from there)) (numbers_within (fields_of p from) key limits apart keys)
  said_planned from said.All there limits apart keys direct = tt
  said_planned from said.Global there limits apart keys direct = tt
  said_planned origin.Spout said.Direct there limits apart keys direct = absurd (false≢true (direct refl))
  said_planned (origin.Component c) said.Direct there limits apart keys direct = direct_planned c there (direct refl)

  pub grouping_planned : (from : Origin) (sub : Sub) → IsPlanned p from sub → IsFrom (plan_of p) from sub.grouping
  grouping_planned from sub planned =
      let part = part_there p sub.to (omega (arith, slice_get_within (inputs_by_component p) sub.to planned.inputs planned.consumer, length_inputs p)) in
      let here : HasNoFaultAt p sub.to = no_fault_here p range faultless sub.to part.0 part.1 in
      let listed : IsIn planned.input (inputs_at p sub.to) = in_inputs_at p sub.to planned.inputs planned.input planned.consumer planned.listed in
      let source : IsIn from (sources_at p sub.to) = planned_source p from sub planned in
      let same : fields_of p from ≡ fields_to p sub.to = here.same from source in
      subst (IsFrom (plan_of p) from) (sym planned.grouping)
      (said_planned from planned.input.grouping (source_there p sub.to from source)
      (said_in_range p planned.inputs planned.input range (in_place (inputs_by_component p) sub.to planned.inputs planned.consumer) planned.listed)
      (key_apart p planned.inputs planned.input faultless.twice (in_place (inputs_by_component p) sub.to planned.inputs planned.consumer) planned.listed)
      (λ name at. subst (IsIn name) (sym same) (here.keys planned.input listed name at))
      (λ direct. chosen_by_route p planned.input from planned.source (subst (λ (by : GroupingPart). direct_fault p planned.input by ≡ None) direct (here.direct planned.input listed))))

  pub groupings_planned : (from : Origin) → All (λ (sub : Sub). IsFrom (plan_of p) from sub.grouping) (subs_of (plan_of p) from)
  groupings_planned from =
      All-from_in (λ (sub : Sub). IsFrom (plan_of p) from sub.grouping) (subs_of (plan_of p) from)
      (λ sub at. grouping_planned from sub (planned_in_plan p from sub at))
