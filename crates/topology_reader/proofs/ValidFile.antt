-- What a file without a fault says is valid.
use Rattle.std.proofs.Common.{◌≡◌, ◌≢◌, ℕ, zero, suc, ◌<◌, List, [], ◌∷◌, All, AllPairs, false, Some, None, IfSome, sum, sum_by, inl, inr, sym, ◌∙◌, ap, subst, arith}
use Rattle.topology_reader.proofs.Common.{Contains, Origin, tasks_in_all, IsValid, GroupingPart, Input, ComponentPart, components_of, component_at, FileParts, IsInRange, cases_lt, map-id, sum-map, slice_get_past, component_names, component_count, source_of, inputs_at, fields_after, fields_of, fields_to, sources_at, plan_of, key_of, fields_read, direct_fault, keeps_exact, meaning_fault, AreDistinct, IsSource, HasFields, IsValidInput, IsValidComponent, IsNumbered, IsValidFile}
use Rattle.topology_plan.specs.declared.parts.Component.{Component}
use Rattle.topology_plan.specs.declared.parts.Origin.TheVariants as origin
use Rattle.topology_reader.proofs.Ranks.{rank, rank_grows}
use Rattle.topology_reader.proofs.Listed.{IsIn, All-from_in, in_place}
use Rattle.topology_reader.proofs.Distinct.{AreApart, AllPairs-from_apart}
use Rattle.topology_reader.proofs.Numbered.{IsAt, part_there, inputs_are}
use Rattle.topology_reader.proofs.ValidPlan.{HasNoFault, no_fault, valid_plan}
use Rattle.topology_reader.proofs.SourceLemmas.{source_within, to_sources, feeds_from_source, source_there}
use Rattle.topology_reader.proofs.GraphLemmas.{fields_of_spout, fields_of_part}
use Rattle.topology_reader.proofs.Columns.{HasNoFaultAt, names_once, froms_once, key_once, named_source, AreFields, no_fault_here, fields_of_source}
use Rattle.topology_reader.proofs.SubFacts.{chosen_by_route}
use Rattle.topology_reader.proofs.WiredPlan.{tasks_planned, replays_said}

-- ---- lists

pub contains_from_in : {X : Type 0} (xs : List X) (x : X) → IsIn x xs → Contains xs x
contains_from_in [] x at = elim at [ ]
contains_from_in (y ∷ ys) x at =
    elim at [
      | inl same ↦ (zero, omega arith, same)
      | inr later ↦ let found = contains_from_in ys x later in (suc found.0, omega (arith, found.1), found.2)
    ]

distinct_from_apart : (names : List (List ℕ)) → AreApart names → AreDistinct names
distinct_from_apart names apart = AllPairs-from_apart (λ (name : List ℕ). name) names (subst AreApart (sym (map-id names)) apart)

module _ (p : FileParts) (range : IsInRange p) (faultless : HasNoFault p) where
  fields_there : (from : Origin) → IsSource p from → HasFields p from
  fields_there from there =
      let fields : AreFields (fields_of p from) = fields_of_source p range faultless from there in
      record { count = fields.count; named = fields.named; distinct = distinct_from_apart (fields_of p from) fields.apart }

  -- ---- components

  valid_input : (c : ℕ) (part : ComponentPart) (input : Input) → IsAt p c part → IsIn input part.inputs → IsValidInput p (fields_to p c) input
  valid_input c part input is listed =
      let here : HasNoFaultAt p c = no_fault_here p range faultless c part is in
      let at : IsIn input (inputs_at p c) = subst (IsIn input) (sym (inputs_are p c part is)) listed in
      let from = named_source p part input faultless.sources (in_place (components_of p) c part is) listed in
      let source : IsIn from.0 (sources_at p c) = to_sources p c input from.0 at from.1 in
      let there : IsSource p from.0 = source_there p c from.0 source in
      record {
        from = from.0;
        named = from.1;
        source = there;
        comes = here.same from.0 source;
        key = distinct_from_apart (key_of input.grouping) (key_once p faultless.twice part (in_place (components_of p) c part is) input listed);
        key_fields = All-from_in (Contains (fields_to p c)) (key_of input.grouping) (λ name named. contains_from_in (fields_to p c) name (here.keys input at name named));
        direct = λ direct. chosen_by_route p input from.0 from.1 (subst (λ (by : GroupingPart). direct_fault p input by ≡ None) direct (here.direct input at));
      }

  valid_component : (c : ℕ) → c < component_count p → IsValidComponent p c
  valid_component c counted =
      let part = part_there p c counted in
      let here : HasNoFaultAt p c = no_fault_here p range faultless c part.0 part.1 in
      let same : inputs_at p c ≡ part.0.inputs = inputs_are p c part.0 part.1 in
      record {
        distinct =
            subst (AllPairs (λ (a b : Input). a.from ≢ b.from)) (sym same)
            (AllPairs-from_apart (λ (input : Input). input.from) part.0.inputs (froms_once p faultless.twice part.0 (in_place (components_of p) c part.0 part.1)));
        inputs =
            subst (All (IsValidInput p (fields_to p c))) (sym same)
            (All-from_in (IsValidInput p (fields_to p c)) part.0.inputs (λ input listed. valid_input c part.0 input part.1 listed));
        reads =
            subst (λ there. IfSome there (λ (part : ComponentPart). All (Contains (fields_to p c)) (fields_read part.body))) (sym part.1)
            (All-from_in (Contains (fields_to p c)) (fields_read part.0.body) (λ name at. contains_from_in (fields_to p c) name (here.reads part.0 part.1 name at)));
      }

  -- ---- the file

  numbered : IsNumbered p
  numbered = record {
    number = rank p;
    grows = λ b c.
        All-from_in (λ (input : Input). source_of p input.from ≡ Some (origin.Component b) → rank p b < rank p c) (inputs_at p c)
        (λ input at is. rank_grows p b c faultless.cycle (source_within p input.from b is) (feeds_from_source p c b (to_sources p c input (origin.Component b) at is)));
  }

  fields_made : (c : ℕ) → IfSome (component_at p c) (λ part. fields_of p (origin.Component c) ≡ fields_after part.body (fields_to p c))
  fields_made c =
      let made = λ (part : ComponentPart). fields_of p (origin.Component c) ≡ fields_after part.body (fields_to p c) in
      elim (cases_lt c (component_count p)) [
        | inl within ↦ let part = part_there p c within in subst (λ there. IfSome there made) (sym part.1) (fields_of_part p c part.0 range faultless.cycle part.1)
        | inr past ↦ subst (λ there. IfSome there made) (sym (slice_get_past (components_of p) c past)) tt
      ]

pub sum_of_tasks : (p : FileParts) → sum_by (λ (part : ComponentPart). part.tasks) (components_of p) ≡ tasks_in_all (plan_of p)
sum_of_tasks p = sym (sum-map (λ (part : ComponentPart). part.tasks) (components_of p)) ∙ ap sum (sym (tasks_planned p)) ∙ sum-map (λ (c : Component). c.tasks) (plan_of p).components

pub valid_file : (p : FileParts) → IsInRange p → meaning_fault p ≡ None → IsValidFile p
valid_file p range none =
    let faultless : HasNoFault p = no_fault p none in
    let plan : IsValid (plan_of p) = valid_plan p range none in
    record {
      range = range;
      names = distinct_from_apart (p.spout.name ∷ component_names p) (names_once p faultless.twice);
      numbered = numbered p range faultless;
      spout_fields = fields_of_spout p;
      component_fields = fields_made p range faultless;
      fields = fields_there p range faultless;
      components = valid_component p range faultless;
      replays = λ opaque. All-from_in (λ (state : ComponentPart). keeps_exact state.body ≡ false) p.states (replays_said p faultless.replay opaque);
      tasks = rw (sum_of_tasks p) plan.tasks;
      weight = plan.weight;
    }
