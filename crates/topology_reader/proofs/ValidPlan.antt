-- A file without a fault has a valid plan.
use Rattle.std.proofs.Common.{if◌then◌else◌, ◌≡◌, ℕ, ◌<◌, ◌≤◌, ◌&&◌, pos, List, [], ◌∷◌, length, map, filter, All, true, false, nat_lt, int_le, Option, Some, None, slice_get, codes, zero-add, inl, inr, refl, sym, ◌∙◌, ap, subst, arith, IfSome}
use Rattle.topology_reader.proofs.Common.{most_tasks_in_all, most_weight, enumerate_from, option_map_or, Origin, OutOfRange, Weight, Input, FileParts, ComponentPart, components_of, component_count, tasks_in_all, subs_of, IsBetween, IsValid, IsTarget, IsRanked, IsInRange, cases_Bool, cases_lt, cond-true, cond-false, and_parts, ltb-false, eqb-true, eq-eqb, false≢true, leb-true, length-map, get_or-map, get_or_past, length-enumerate_from, get_or-enumerate_from, none-some, slice_get_within, slice_get_past, Sub, range_fault, twice_fault, source_fault, cycle_fault, fields_fault, replay_fault, meaning_fault, size_fault, source_of, inputs_by_component, sources_at, is_origin, is_from, planned_grouping, subs_of_component, planned_subs, planned_component, plan_of}
use Rattle.topology_plan.specs.Topology.{weight_of}
use Rattle.topology_plan.specs.declared.parts.Origin.TheVariants as origin
use Rattle.topology_reader.proofs.Ranks.{rank, rank_grows}
use Rattle.topology_reader.proofs.Listed.{IsIn, All-from_in, in_map, to_map, in_flat_map, to_flat_map, in_filter, to_filter, in_enumerated, to_enumerated, none_each}
use Rattle.topology_reader.proofs.SourceLemmas.{feeds_from_source, in_inputs_at, length_inputs, source_within, to_sources}
use Rattle.topology_reader.proofs.Numbered.{IsAt, count_parts, part_there, planned_at}
use Rattle.topology_plan.specs.declared.parts.Component.{Component}

-- ---- each fault is none

-- where no fault is told, there is none of each kind
pub record HasNoFault (p : FileParts) : Type 0 where
  pub twice : twice_fault p ≡ None
  pub sources : source_fault p ≡ None
  pub cycle : cycle_fault p ≡ None
  pub fields : fields_fault p ≡ None
  pub replay : replay_fault p p.spout.kind ≡ None
  pub tasks : range_fault (codes "tasks in all") 1 most_tasks_in_all (pos (tasks_in_all (plan_of p))) ≡ None
  pub weight : (if nat_lt most_weight (weight_of (plan_of p)) then Some (Weight (weight_of (plan_of p))) else None) ≡ None

pub no_fault : (p : FileParts) → meaning_fault p ≡ None → HasNoFault p
unfolding meaning_fault
no_fault p none =
    let tasks = range_fault (codes "tasks in all") 1 most_tasks_in_all (pos (tasks_in_all (plan_of p))) in
    let each = none_each (twice_fault p ∷ source_fault p ∷ cycle_fault p ∷ fields_fault p ∷ replay_fault p p.spout.kind ∷ size_fault (tasks_in_all (plan_of p)) (weight_of (plan_of p)) ∷ []) none in
    let size = none_each (tasks ∷ (if nat_lt most_weight (weight_of (plan_of p)) then Some (Weight (weight_of (plan_of p))) else None) ∷ []) each.1.1.1.1.1.0 in
    record { twice = each.0; sources = each.1.0; cycle = each.1.1.0; fields = each.1.1.1.0; replay = each.1.1.1.1.0; tasks = size.0; weight = size.1.0 }

-- ---- numbers

pub between_from_range : (name : List ℕ) (n least most : ℕ) → range_fault name least most (pos n) ≡ None → IsBetween n least most
between_from_range name n least most none =
    elim (cases_Bool (int_le (pos least) (pos n) && int_le (pos n) (pos most))) [
      | inl within ↦
          let both : (int_le (pos least) (pos n) ≡ true) × (int_le (pos n) (pos most) ≡ true) = and_parts (int_le (pos least) (pos n)) (int_le (pos n) (pos most)) within in
          (leb-true least n both.0, leb-true n most both.1)
      | inr without ↦ absurd (none-some (OutOfRange name (pos n) least most) (sym none ∙ cond-false (int_le (pos least) (pos n) && int_le (pos n) (pos most)) None (Some (OutOfRange name (pos n) least most)) without))
    ]

most_from_weight : (weight : ℕ) → (if nat_lt most_weight weight then Some (Weight weight) else None) ≡ None → weight ≤ most_weight
most_from_weight weight none =
    elim (cases_Bool (nat_lt most_weight weight)) [
      | inl more ↦ absurd (none-some (Weight weight) (sym none ∙ cond-true (nat_lt most_weight weight) (Some (Weight weight)) None more))
      | inr fits ↦ ltb-false most_weight weight fits
    ]

-- ---- sources

pub is_origin_same : (a b : Origin) → is_origin a b ≡ true → a ≡ b
is_origin_same origin.Spout origin.Spout same = refl
is_origin_same origin.Spout (origin.Component d) same = absurd (false≢true same)
is_origin_same (origin.Component c) origin.Spout same = absurd (false≢true same)
is_origin_same (origin.Component c) (origin.Component d) same = ap origin.Component (eqb-true c d same)

pub is_origin_itself : (a : Origin) → is_origin a a ≡ true
is_origin_itself origin.Spout = refl
is_origin_itself (origin.Component c) = eq-eqb c c refl

pub is_source : (from : Origin) (o : Option Origin) → option_map_or (is_origin from) o false ≡ true → o ≡ Some from
is_source from None is = absurd (false≢true is)
is_source from (Some other) is = ap Some (sym (is_origin_same from other is))

-- ---- subscriptions

-- where a subscription to a source comes from: an input of its consumer
pub record IsPlanned (p : FileParts) (from : Origin) (sub : Sub) : Type 0 where
  pub inputs : List Input
  pub input : Input
  pub consumer : slice_get (inputs_by_component p) sub.to ≡ Some inputs
  pub listed : IsIn input inputs
  pub source : source_of p input.from ≡ Some from
  pub grouping : sub.grouping ≡ planned_grouping p from input.grouping

pub planned_in : (p : FileParts) (from : Origin) (sub : Sub) → IsIn sub (planned_subs p from) → IsPlanned p from sub
planned_in p from sub at =
    let component = in_flat_map (subs_of_component p from) (enumerate_from 0 (inputs_by_component p)) sub at in
    let place = in_enumerated 0 (inputs_by_component p) component.0 component.1 in
    let made = in_map (λ (input : Input). record { to = component.0.0; grouping = planned_grouping p from input.grouping }) (filter (is_from p from) component.0.1) sub component.2 in
    let kept = in_filter (is_from p from) component.0.1 made.0 made.1 in
    record {
      inputs = component.0.1;
      input = made.0;
      consumer = subst (λ c. slice_get (inputs_by_component p) c ≡ Some component.0.1) (let same : place.0 ≡ component.0.0 = omega (arith, place.1) in same ∙ ap (λ (s : Sub). s.to) made.2) place.2;
      listed = kept.0;
      source = is_source from (source_of p made.0.from) kept.1;
      grouping = sym (ap (λ (s : Sub). s.grouping) made.2);
    }

pub subs_of_plan : (p : FileParts) (c : ℕ) → c < length (inputs_by_component p) → subs_of (plan_of p) (origin.Component c) ≡ planned_subs p (origin.Component c)
unfolding plan_of
subs_of_plan p c within =
    let there : c < length (enumerate_from 0 (inputs_by_component p)) = omega (arith, length-enumerate_from 0 (inputs_by_component p)) in
    get_or-map (λ (numbered : ℕ × List Input). planned_subs p (origin.Component numbered.0)) (enumerate_from 0 (inputs_by_component p)) c (0, []) [] there
    ∙ rw (get_or-enumerate_from 0 (inputs_by_component p) c (0, []) within, zero-add)

pub no_subs_past : (p : FileParts) (c : ℕ) → length (inputs_by_component p) ≤ c → subs_of (plan_of p) (origin.Component c) ≡ []
unfolding plan_of
no_subs_past p c past =
    get_or_past (map (λ (numbered : ℕ × List Input). planned_subs p (origin.Component numbered.0)) (enumerate_from 0 (inputs_by_component p))) c []
    (omega (arith, length-map (enumerate_from 0 (inputs_by_component p)) (λ (numbered : ℕ × List Input). planned_subs p (origin.Component numbered.0)), length-enumerate_from 0 (inputs_by_component p)))

pub planned_in_plan : (p : FileParts) (from : Origin) (sub : Sub) → IsIn sub (subs_of (plan_of p) from) → IsPlanned p from sub
unfolding plan_of
planned_in_plan p origin.Spout sub at = planned_in p origin.Spout sub at
planned_in_plan p (origin.Component c) sub at =
    elim (cases_lt c (length (inputs_by_component p))) [
      | inl within ↦ planned_in p (origin.Component c) sub (subst (IsIn sub) (subs_of_plan p c within) at)
      | inr past ↦ absurd (subst (IsIn sub) (no_subs_past p c past) at)
    ]

-- the other way: an input makes a subscription to its source
planned_from : (p : FileParts) (from : Origin) (c : ℕ) (inputs : List Input) (input : Input) → slice_get (inputs_by_component p) c ≡ Some inputs → IsIn input inputs → source_of p input.from ≡ Some from
    → IsIn (record { to = c; grouping = planned_grouping p from input.grouping }) (planned_subs p from)
planned_from p from c inputs input consumer listed is =
    let test : is_from p from input ≡ true = subst (λ (there : Option Origin). option_map_or (is_origin from) there false ≡ true) (sym is) (is_origin_itself from) in
    to_flat_map (subs_of_component p from) (enumerate_from 0 (inputs_by_component p)) (c, inputs) (record { to = c; grouping = planned_grouping p from input.grouping })
    (subst (λ k. IsIn (k, inputs) (enumerate_from 0 (inputs_by_component p))) (zero-add c) (to_enumerated 0 (inputs_by_component p) c inputs consumer))
    (to_map (λ (i : Input). record { to = c; grouping = planned_grouping p from i.grouping }) (filter (is_from p from) inputs) input (to_filter (is_from p from) inputs input listed test))

pub planned_to_plan : (p : FileParts) (from : Origin) (c : ℕ) (inputs : List Input) (input : Input) → slice_get (inputs_by_component p) c ≡ Some inputs → IsIn input inputs → source_of p input.from ≡ Some from
    → IsIn (record { to = c; grouping = planned_grouping p from input.grouping }) (subs_of (plan_of p) from)
unfolding plan_of
planned_to_plan p origin.Spout c inputs input consumer listed is = planned_from p origin.Spout c inputs input consumer listed is
planned_to_plan p (origin.Component b) c inputs input consumer listed is =
    let within : b < length (inputs_by_component p) = omega (arith, source_within p input.from b is, length_inputs p, count_parts p) in
    subst (IsIn (record { to = c; grouping = planned_grouping p (origin.Component b) input.grouping })) (sym (subs_of_plan p b within)) (planned_from p (origin.Component b) c inputs input consumer listed is)

-- the source of a subscription is a source of its consumer
pub planned_source : (p : FileParts) (from : Origin) (sub : Sub) → IsPlanned p from sub → IsIn from (sources_at p sub.to)
planned_source p from sub planned = to_sources p sub.to planned.input from (in_inputs_at p sub.to planned.inputs planned.input planned.consumer planned.listed) planned.source

-- ---- the components

pub length_components : (p : FileParts) → length (plan_of p).components ≡ component_count p
unfolding plan_of
length_components p = length-map (enumerate_from 0 (components_of p)) (planned_component p) ∙ length-enumerate_from 0 (components_of p)

-- what holds of what is planned of each part holds of every component
pub each_component : (p : FileParts) (P : ℕ → Component → Type 0) → ((c : ℕ) (part : ComponentPart) → IsAt p c part → P c (planned_component p (c, part))) → (c : ℕ) → IfSome (slice_get (plan_of p).components c) (P c)
each_component p P of_part c =
    elim (cases_lt c (component_count p)) [
      | inl within ↦ let part = part_there p c within in subst (λ there. IfSome there (P c)) (sym (planned_at p c part.0 part.1)) (of_part c part.0 part.1)
      | inr past ↦
          let none : slice_get (plan_of p).components c ≡ None = slice_get_past (plan_of p).components c (omega (arith, length_components p)) in
          subst (λ there. IfSome there (P c)) (sym none) tt
    ]

length_sources : (p : FileParts) → length (plan_of p).component_subs ≡ length (plan_of p).components
unfolding plan_of
length_sources p =
    length-map (enumerate_from 0 (inputs_by_component p)) (λ (numbered : ℕ × List Input). planned_subs p (origin.Component numbered.0))
    ∙ length-enumerate_from 0 (inputs_by_component p) ∙ length_inputs p ∙ sym (length_components p)

-- ---- what a plan keeps

targets_planned : (p : FileParts) (from : Origin) → All (IsTarget (plan_of p)) (subs_of (plan_of p) from)
targets_planned p from =
    All-from_in (IsTarget (plan_of p)) (subs_of (plan_of p) from)
    (λ sub at.
    let planned = planned_in_plan p from sub at in
    let within : sub.to < length (inputs_by_component p) = slice_get_within (inputs_by_component p) sub.to planned.inputs planned.consumer in
    omega (arith, length_inputs p, length_components p))

ranked_planned : (p : FileParts) → cycle_fault p ≡ None → IsRanked (plan_of p)
ranked_planned p none = record {
  rank = rank p;
  grows = λ c.
      All-from_in (λ (sub : Sub). rank p c < rank p sub.to) (subs_of (plan_of p) (origin.Component c))
      (λ sub at.
      let planned = planned_in_plan p (origin.Component c) sub at in
      rank_grows p c sub.to none (source_within p planned.input.from c planned.source) (feeds_from_source p sub.to c (planned_source p (origin.Component c) sub planned)));
}

pub valid_plan : (p : FileParts) → IsInRange p → meaning_fault p ≡ None → IsValid (plan_of p)
unfolding plan_of
valid_plan p range none =
    let faultless : HasNoFault p = no_fault p none in
    record {
      spout_fields = range.spout.fields;
      batch = range.spout.batch;
      partitions = range.spout.partitions;
      ackers = range.ackers;
      pending = range.pending;
      buckets = range.buckets;
      attempts = range.attempts;
      components = (omega (arith, length_components p, count_parts p, range.states.0), omega (arith, length_components p, count_parts p, range.states.1, range.bolts));
      tasks = between_from_range (codes "tasks in all") (tasks_in_all (plan_of p)) 1 most_tasks_in_all faultless.tasks;
      sources = length_sources p;
      targets = targets_planned p;
      ranked = ranked_planned p faultless.cycle;
      weight = most_from_weight (weight_of (plan_of p)) faultless.weight;
    }
