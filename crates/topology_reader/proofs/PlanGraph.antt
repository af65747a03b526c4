-- The depth and the weight of the plan are those of the file's graph: what is gathered from the subscriptions to a component is
-- the same source by source as input by input.
use Rattle.std.proofs.Common.{◌≡◌, ◌≢◌, ℕ, zero, suc, ◌+◌, ◌*◌, ◌<◌, ◌≤◌, ◌^◌, ◌==◌, true, false, List, [], ◌∷◌, ◌++◌, length, map, filter, min, max, Option, Some, None, option_map, slice_index_or, inl, inr, refl, sym, ◌∙◌, ap, arith, append_assoc}
use Rattle.topology_reader.proofs.Common.{cons_option, enumerate_from, flat_map, range_with_len, option_map_or, Origin, ComponentPart, components_of, component_count, FileParts, GroupingPart, Input, Feed, fed, feeds_at, value_in, value_of, cases_eq, cases_lt, cond-true, cond-false, eqb-true, eq-eqb, false_from_ne_true, append-nil, map-append, get_or_past, filter-append, get_or_from_slice_get, map-map, Sub, tasks_of, copies_by, copies_of, origins, inputs_of, subs_of, greatest, depth_within, plan_depth, weight_end, ended_sum, tuples_within, plan_weight, depth_rule, tuples_rule, depth_in_within, greatest_within, source_of, inputs_by_component, inputs_at, copies_said, feeds_of, graph_of, is_origin, is_from, planned_grouping, subs_of_component, planned_subs, plan_of}
use Rattle.topology_graph.specs.Graph.{values_of}
use Rattle.topology_plan.specs.declared.parts.Component.{Component}
use Rattle.topology_plan.specs.declared.parts.Origin.TheVariants as origin
use Rattle.topology_form.specs.declared.parts.GroupingPart.TheVariants as said
use Rattle.topology_reader.proofs.Listed.{IsIn, in_map, in_flat_map, in_enumerated, in_range}
use Rattle.topology_reader.proofs.Numbered.{count_parts, part_there, place_mapped, inputs_are, planned_at}
use Rattle.topology_reader.proofs.PartLemmas.{map_same}
use Rattle.topology_reader.proofs.SubFacts.{none_kept}
use Rattle.topology_reader.proofs.SourceLemmas.{source_within, length_inputs, length_graph}
use Rattle.topology_reader.proofs.ValidPlan.{subs_of_plan, length_components}

-- ---- a number that is gathered from others, in whatever order

record IsGathered (gather : List ℕ → ℕ) (more : ℕ → ℕ → ℕ) : Type 0 where
  one : (n : ℕ) (ns : List ℕ) → gather (n ∷ ns) ≡ more n (gather ns)
  swap : (a b n : ℕ) → more a (more b n) ≡ more b (more a n)

greatest_gathered : IsGathered greatest max
greatest_gathered = record { one = λ n ns. refl; swap = λ a b n. omega arith }

sum_gathered : IsGathered ended_sum (λ n sum. min (n + sum) weight_end)
sum_gathered = record { one = λ n ns. refl; swap = λ a b n. omega arith }

-- what the inputs from a source are counted as
abbrev of_source : FileParts → (Origin → Input → ℕ) → List Input → Origin → List ℕ
of_source p f inputs from = map (f from) (filter (is_from p from) inputs)

abbrev components : ℕ → ℕ → List Origin
components first n = map origin.Component (range_with_len first n)

module _ (p : FileParts) (f : Origin → Input → ℕ) (input : Input) (inputs : List Input) where
  passed : (from : Origin) → is_from p from input ≡ false → of_source p f (input ∷ inputs) from ≡ of_source p f inputs from
  passed from other = ap (map (f from)) (cond-false (is_from p from input) (input ∷ filter (is_from p from) inputs) (filter (is_from p from) inputs) other)

  taken : (from : Origin) → is_from p from input ≡ true → of_source p f (input ∷ inputs) from ≡ f from input ∷ of_source p f inputs from
  taken from own = ap (map (f from)) (cond-true (is_from p from input) (input ∷ filter (is_from p from) inputs) (filter (is_from p from) inputs) own)

  passed_all : (first n : ℕ) → ((c : ℕ) → first ≤ c → is_from p (origin.Component c) input ≡ false)
      → flat_map (of_source p f (input ∷ inputs)) (components first n) ≡ flat_map (of_source p f inputs) (components first n)
  passed_all first zero others = refl
  passed_all first (suc n) others =
      ap (λ ns. ns ++ flat_map (of_source p f (input ∷ inputs)) (components (first + 1) n)) (passed (origin.Component first) (others first (omega arith)))
      ∙ ap (λ ns. of_source p f inputs (origin.Component first) ++ ns) (passed_all (first + 1) n (λ c above. others c (omega arith)))

  other_source : (b c : ℕ) → source_of p input.from ≡ Some (origin.Component b) → c ≢ b → is_from p (origin.Component c) input ≡ false
  other_source b c source differs =
      ap (λ there. option_map_or (is_origin (origin.Component c)) there false) source
      ∙ false_from_ne_true (c == b) (λ same. differs (eqb-true c b same))

nothing : (p : FileParts) (f : Origin → Input → ℕ) (froms : List Origin) → flat_map (of_source p f []) froms ≡ []
nothing p f [] = refl
nothing p f (from ∷ froms) = nothing p f froms

module _ (gather : List ℕ → ℕ) (more : ℕ → ℕ → ℕ) (gathers : IsGathered gather more) where
  pulled : (ns : List ℕ) (n : ℕ) (ms : List ℕ) → gather (ns ++ n ∷ ms) ≡ more n (gather (ns ++ ms))
  pulled [] n ms = gathers.one n ms
  pulled (k ∷ ns) n ms =
      gathers.one k (ns ++ n ∷ ms) ∙ ap (more k) (pulled ns n ms) ∙ gathers.swap k n (gather (ns ++ ms)) ∙ ap (more n) (sym (gathers.one k (ns ++ ms)))

  -- an input from one of these components
  taken_one : (p : FileParts) (f : Origin → Input → ℕ) (input : Input) (inputs : List Input) (b : ℕ) → source_of p input.from ≡ Some (origin.Component b) → (first n : ℕ) (ns : List ℕ) → first ≤ b → b < first + n
      → gather (ns ++ flat_map (of_source p f (input ∷ inputs)) (components first n)) ≡ more (f (origin.Component b) input) (gather (ns ++ flat_map (of_source p f inputs) (components first n)))
  taken_one p f input inputs b source first zero ns low high = absurd (omega arith)
  taken_one p f input inputs b source first (suc n) ns low high =
      let here : List ℕ = of_source p f inputs (origin.Component first) in
      let rest = λ (all : List Input). flat_map (of_source p f all) (components (first + 1) n) in
      elim (cases_eq first b) [
        | inl same ↦
            ap (λ ms. gather (ns ++ (ms ++ rest (input ∷ inputs)))) (taken p f input inputs (origin.Component first) (ap (λ there. option_map_or (is_origin (origin.Component first)) there false) source ∙ eq-eqb first b same))
            ∙ ap (λ ms. gather (ns ++ f (origin.Component first) input ∷ (of_source p f inputs (origin.Component first) ++ ms))) (passed_all p f input inputs (first + 1) n (λ c above. other_source p f input inputs b c source (λ equal. omega arith)))
            ∙ pulled ns (f (origin.Component first) input) (of_source p f inputs (origin.Component first) ++ rest inputs)
            ∙ ap (λ c. more (f (origin.Component c) input) (gather (ns ++ (of_source p f inputs (origin.Component first) ++ rest inputs)))) same
        | inr differs ↦
            ap (λ ms. gather (ns ++ (ms ++ rest (input ∷ inputs)))) (passed p f input inputs (origin.Component first) (other_source p f input inputs b first source differs))
            ∙ ap gather (sym (append_assoc ns (of_source p f inputs (origin.Component first)) (rest (input ∷ inputs))))
            ∙ taken_one p f input inputs b source (first + 1) n (ns ++ of_source p f inputs (origin.Component first)) (omega arith) (omega arith)
            ∙ ap (λ ms. more (f (origin.Component b) input) (gather ms)) (append_assoc ns (of_source p f inputs (origin.Component first)) (rest inputs))
      ]

  -- source by source it is gathered as input by input
  module _ (p : FileParts) (count tasks : ℕ) (f : Origin → Input → ℕ) (g : Feed → ℕ) (within : length p.bolts ≤ count) (same : (from : Origin) (input : Input) → f from input ≡ g (record { from = from; copies = copies_said input.grouping tasks })) where
    one_input : (input : Input) (inputs : List Input) (source : Option Origin) → source_of p input.from ≡ source
        → gather (flat_map (of_source p f inputs) (origin.Spout ∷ components 0 count)) ≡ gather (map g (feeds_of p tasks inputs))
        → gather (flat_map (of_source p f (input ∷ inputs)) (origin.Spout ∷ components 0 count))
        ≡ gather (map g (cons_option (option_map (λ from. record { from = from; copies = copies_said input.grouping tasks }) source) (feeds_of p tasks inputs)))
    one_input input inputs None source before =
        let other = λ (from : Origin). ap (λ there. option_map_or (is_origin from) there false) source in
        ap (λ ns. gather (ns ++ flat_map (of_source p f (input ∷ inputs)) (components 0 count))) (passed p f input inputs origin.Spout (other origin.Spout))
        ∙ ap (λ ns. gather (of_source p f inputs origin.Spout ++ ns)) (passed_all p f input inputs 0 count (λ c above. other (origin.Component c)))
        ∙ before
    one_input input inputs (Some origin.Spout) source before =
        let test = λ (from : Origin). ap (λ there. option_map_or (is_origin from) there false) source in
        ap (λ ns. gather (ns ++ flat_map (of_source p f (input ∷ inputs)) (components 0 count))) (taken p f input inputs origin.Spout (test origin.Spout))
        ∙ ap (λ ns. gather (f origin.Spout input ∷ (of_source p f inputs origin.Spout ++ ns))) (passed_all p f input inputs 0 count (λ c above. test (origin.Component c)))
        ∙ gathers.one (f origin.Spout input) (of_source p f inputs origin.Spout ++ flat_map (of_source p f inputs) (components 0 count))
        ∙ ap (more (f origin.Spout input)) before
        ∙ ap (λ n. more n (gather (map g (feeds_of p tasks inputs)))) (same origin.Spout input)
        ∙ sym (gathers.one (g (record { from = origin.Spout; copies = copies_said input.grouping tasks })) (map g (feeds_of p tasks inputs)))
    one_input input inputs (Some (origin.Component b)) source before =
        ap (λ ns. gather (ns ++ flat_map (of_source p f (input ∷ inputs)) (components 0 count))) (passed p f input inputs origin.Spout (ap (λ there. option_map_or (is_origin origin.Spout) there false) source))
        ∙ taken_one p f input inputs b source 0 count (of_source p f inputs origin.Spout) (omega arith) (omega (arith, source_within p input.from b source))
        ∙ ap (more (f (origin.Component b) input)) before
        ∙ ap (λ n. more n (gather (map g (feeds_of p tasks inputs)))) (same (origin.Component b) input)
        ∙ sym (gathers.one (g (record { from = origin.Component b; copies = copies_said input.grouping tasks })) (map g (feeds_of p tasks inputs)))

    by_inputs : (inputs : List Input) → gather (flat_map (of_source p f inputs) (origin.Spout ∷ components 0 count)) ≡ gather (map g (feeds_of p tasks inputs))
    by_inputs [] = ap gather (nothing p f (origin.Spout ∷ components 0 count))
    by_inputs (input ∷ inputs) = one_input input inputs (source_of p input.from) refl (by_inputs inputs)

-- ---- the subscriptions of the plan to a component

abbrev sub_of : FileParts → ℕ → Origin → Input → Sub
sub_of p c from input = record { to = c; grouping = planned_grouping p from input.grouping }

module _ (p : FileParts) (c : ℕ) (from : Origin) (f : Sub → ℕ) where
  all_kept : (n : ℕ) (inputs : List Input) → n ≡ c → map f (filter (λ (sub : Sub). sub.to == c) (map (sub_of p n from) inputs)) ≡ map (λ input. f (sub_of p c from input)) inputs
  all_kept n [] same = refl
  all_kept n (input ∷ inputs) same =
      ap (map f) (cond-true (n == c) (sub_of p n from input ∷ filter (λ (sub : Sub). sub.to == c) (map (sub_of p n from) inputs)) (filter (λ (sub : Sub). sub.to == c) (map (sub_of p n from) inputs)) (eq-eqb n c same))
      ∙ ap (λ m. f (sub_of p m from input) ∷ map f (filter (λ (sub : Sub). sub.to == c) (map (sub_of p n from) inputs))) same
      ∙ ap (λ ns. f (sub_of p c from input) ∷ ns) (all_kept n inputs same)

  no_sub : (n : ℕ) (rows : List (List Input)) → c < n → filter (λ (sub : Sub). sub.to == c) (flat_map (subs_of_component p from) (enumerate_from n rows)) ≡ []
  no_sub n rows above =
      none_kept (λ (sub : Sub). sub.to == c) (flat_map (subs_of_component p from) (enumerate_from n rows))
      (λ sub at.
      let row = in_flat_map (subs_of_component p from) (enumerate_from n rows) sub at in
      let place = in_enumerated n rows row.0 row.1 in
      let made = in_map (sub_of p row.0.0 from) (filter (is_from p from) row.0.1) sub row.2 in
      false_from_ne_true (sub.to == c) (λ same. let to : row.0.0 ≡ sub.to = ap (λ (s : Sub). s.to) made.2 in omega (arith, place.1, eqb-true sub.to c same)))

  one_row : (n k : ℕ) (rows : List (List Input)) → c ≡ n + k
      → map f (filter (λ (sub : Sub). sub.to == c) (flat_map (subs_of_component p from) (enumerate_from n rows))) ≡ map (λ input. f (sub_of p c from input)) (filter (is_from p from) (slice_index_or rows k []))
  one_row n k [] place = refl
  one_row n zero (inputs ∷ rows) place =
      let here : List Sub = map (sub_of p n from) (filter (is_from p from) inputs) in
      ap (map f) (filter-append (λ (sub : Sub). sub.to == c) (map (sub_of p n from) (filter (is_from p from) inputs)) (flat_map (subs_of_component p from) (enumerate_from (n + 1) rows)))
      ∙ ap (λ subs. map f (filter (λ (sub : Sub). sub.to == c) (map (sub_of p n from) (filter (is_from p from) inputs)) ++ subs)) (no_sub (n + 1) rows (omega arith))
      ∙ ap (map f) (append-nil (filter (λ (sub : Sub). sub.to == c) (map (sub_of p n from) (filter (is_from p from) inputs))))
      ∙ all_kept n (filter (is_from p from) inputs) (omega arith)
  one_row n (suc k) (inputs ∷ rows) place =
      ap (map f) (filter-append (λ (sub : Sub). sub.to == c) (map (sub_of p n from) (filter (is_from p from) inputs)) (flat_map (subs_of_component p from) (enumerate_from (n + 1) rows)))
      ∙ ap (λ subs. map f (subs ++ filter (λ (sub : Sub). sub.to == c) (flat_map (subs_of_component p from) (enumerate_from (n + 1) rows))))
      (none_kept (λ (sub : Sub). sub.to == c) (map (sub_of p n from) (filter (is_from p from) inputs))
      (λ sub at.
      let made = in_map (sub_of p n from) (filter (is_from p from) inputs) sub at in
      false_from_ne_true (sub.to == c) (λ same. let to : n ≡ sub.to = ap (λ (s : Sub). s.to) made.2 in omega (arith, eqb-true sub.to c same))))
      ∙ one_row (n + 1) k rows (omega arith)

subs_in_plan : (p : FileParts) (from : Origin) → IsIn from (origins (plan_of p)) → subs_of (plan_of p) from ≡ planned_subs p from
unfolding plan_of
subs_in_plan p origin.Spout at = refl
subs_in_plan p (origin.Component c) at =
    elim at [
      | inl wrong ↦ absurd (cc)
      | inr later ↦
          let found = in_map origin.Component (range_with_len 0 (length (plan_of p).components)) (origin.Component c) later in
          let bounds = in_range 0 (length (plan_of p).components) found.0 found.1 in
          let same : found.0 ≡ c = (let is : origin.Component found.0 ≡ origin.Component c = found.2 in cc) in
          subs_of_plan p c (omega (arith, bounds.1, length_components p, length_inputs p))
    ]

mapped : {X : Type 0} (h : X → ℕ) (k : Origin → List X) (g : Origin → List ℕ) (froms : List Origin) → ((from : Origin) → IsIn from froms → map h (k from) ≡ g from) → map h (flat_map k froms) ≡ flat_map g froms
mapped h k g [] same = refl
mapped h k g (from ∷ froms) same =
    map-append h (k from) (flat_map k froms)
    ∙ ap (λ ns. ns ++ map h (flat_map k froms)) (same from (inl refl))
    ∙ ap (λ ns. g from ++ ns) (mapped h k g froms (λ other at. same other (inr at)))

inputs_planned : (p : FileParts) (c : ℕ) (f : Origin → Sub → ℕ) → map (λ (input : Origin × Sub). f input.0 input.1) (inputs_of (plan_of p) c) ≡ flat_map (of_source p (λ from input. f from (sub_of p c from input)) (inputs_at p c)) (origins (plan_of p))
inputs_planned p c f =
    let to_c = λ (sub : Sub). sub.to == c in
    mapped (λ (input : Origin × Sub). f input.0 input.1) (λ from. map (λ sub. (from, sub)) (filter to_c (subs_of (plan_of p) from))) (of_source p (λ from input. f from (sub_of p c from input)) (inputs_at p c)) (origins (plan_of p))
    (λ from at.
    map-map {B = Origin × Sub} (λ input. f input.0 input.1) (λ (sub : Sub). (from, sub)) (filter to_c (subs_of (plan_of p) from))
    ∙ ap (λ subs. map (f from) (filter to_c subs)) (subs_in_plan p from at)
    ∙ one_row p c from (f from) 0 c (inputs_by_component p) (omega arith))

-- ---- the subscriptions of the graph to a component

feeds_planned : (p : FileParts) (c : ℕ) → feeds_at (graph_of p) c ≡ feeds_of p (tasks_of (plan_of p) c) (inputs_at p c)
feeds_planned p c =
    let feeds = λ (part : ComponentPart). feeds_of p part.tasks part.inputs in
    elim (cases_lt c (component_count p)) [
      | inl within ↦
          let part = part_there p c within in
          get_or_from_slice_get (graph_of p) c (feeds part.0) [] (place_mapped feeds (components_of p) c part.0 part.1)
          ∙ ap (λ there. feeds_of p (option_map_or (λ (component : Component). component.tasks) there 0) part.0.inputs) (sym (planned_at p c part.0 part.1))
          ∙ ap (feeds_of p (tasks_of (plan_of p) c)) (sym (inputs_are p c part.0 part.1))
      | inr past ↦
          get_or_past (graph_of p) c [] (omega (arith, length_graph p))
          ∙ ap (feeds_of p (tasks_of (plan_of p) c)) (sym (get_or_past (inputs_by_component p) c [] (omega (arith, length_inputs p))))
    ]

gathered : (gather : List ℕ → ℕ) (more : ℕ → ℕ → ℕ) → IsGathered gather more → (p : FileParts) (c : ℕ) (f : Origin → Sub → ℕ) (g : Feed → ℕ)
    → ((from : Origin) (input : Input) → f from (sub_of p c from input) ≡ g (record { from = from; copies = copies_said input.grouping (tasks_of (plan_of p) c) }))
    → gather (map g (feeds_at (graph_of p) c)) ≡ gather (map (λ (input : Origin × Sub). f input.0 input.1) (inputs_of (plan_of p) c))
gathered gather more gathers p c f g same =
    ap (λ feeds. gather (map g feeds)) (feeds_planned p c)
    ∙ sym (by_inputs gather more gathers p (length (plan_of p).components) (tasks_of (plan_of p) c) (λ from input. f from (sub_of p c from input)) g (omega (arith, length_components p, count_parts p)) same (inputs_at p c))
    ∙ ap gather (sym (inputs_planned p c f))

-- ---- depth

length_planned : (p : FileParts) → length (graph_of p) ≡ length (plan_of p).components
length_planned p = omega (arith, length_graph p, length_components p)

fed_by_sources : (g : Feed → ℕ → ℕ) (f : Origin → ℕ) (feeds : List Feed) → map (λ (one : Feed × ℕ). g one.0 one.1) (fed f feeds) ≡ map (λ (feed : Feed). g feed (f feed.from)) feeds
fed_by_sources g f feeds = map-map {B = Feed × ℕ} (λ one. g one.0 one.1) (λ (feed : Feed). (feed, f feed.from)) feeds

depth_in_plan : (n : ℕ) (p : FileParts) (from : Origin) → n < 2 ^ 32 → value_in n depth_rule (graph_of p) from ≡ depth_within n (plan_of p) from
depth_in_plan n p origin.Spout small = refl
depth_in_plan zero p (origin.Component c) small = refl
depth_in_plan (suc n) p (origin.Component c) small =
    let feeds = feeds_at (graph_of p) c in
    let seen = fed_by_sources (λ feed depth. depth) (value_in n depth_rule (graph_of p)) (feeds_at (graph_of p) c)
    ∙ map_same (λ (feed : Feed). value_in n depth_rule (graph_of p) feed.from) (λ (feed : Feed). depth_within n (plan_of p) feed.from) (λ feed. depth_in_plan n p feed.from (omega arith)) (feeds_at (graph_of p) c) in
    let all = ap greatest seen ∙ gathered greatest max greatest_gathered p c (λ from sub. depth_within n (plan_of p) from) (λ feed. depth_within n (plan_of p) feed.from) (λ from input. refl) in
    let most = depth_in_within (suc n) (graph_of p) (origin.Component c) in
    omega (arith, all, most)

pub depth_planned : (p : FileParts) → length (graph_of p) < 2 ^ 32 → greatest (values_of depth_rule (graph_of p)) ≡ plan_depth (plan_of p)
unfolding value_of plan_depth
depth_planned p small =
    let above : (n : ℕ) → n ≡ max 0 n = λ n. omega arith in
    ap greatest (map_same (λ c. value_in (length (graph_of p)) depth_rule (graph_of p) (origin.Component c)) (λ c. depth_within (length (graph_of p)) (plan_of p) (origin.Component c)) (λ c. depth_in_plan (length (graph_of p)) p (origin.Component c) small) (range_with_len 0 (length (graph_of p))))
    ∙ ap (λ n. greatest (map (λ c. depth_within n (plan_of p) (origin.Component c)) (range_with_len 0 n))) (length_planned p)
    ∙ ap greatest (sym (map-map (depth_within (length (plan_of p).components) (plan_of p)) origin.Component (range_with_len 0 (length (plan_of p).components))))
    ∙ above (greatest (map (depth_within (length (plan_of p).components) (plan_of p)) (components 0 (length (plan_of p).components))))

pub depth_small : (p : FileParts) → greatest (values_of depth_rule (graph_of p)) ≤ length (graph_of p)
unfolding value_of
depth_small p =
    greatest_within (λ c. value_in (length (graph_of p)) depth_rule (graph_of p) (origin.Component c)) (range_with_len 0 (length (graph_of p))) (length (graph_of p))
    (λ c. depth_in_within (length (graph_of p)) (graph_of p) (origin.Component c))

-- ---- weight

copies_planned : (p : FileParts) (from : Origin) (by : GroupingPart) (tasks : ℕ) → copies_by (planned_grouping p from by) tasks ≡ copies_said by tasks
copies_planned p from said.Shuffle tasks = refl
copies_planned p from (said.Fields key) tasks = refl
copies_planned p from said.All tasks = refl
copies_planned p from said.Global tasks = refl
copies_planned p from said.Direct tasks = refl

tuples_in_plan : (n : ℕ) (p : FileParts) (from : Origin) → value_in n tuples_rule (graph_of p) from ≡ tuples_within n (plan_of p) from
tuples_in_plan n p origin.Spout = refl
tuples_in_plan zero p (origin.Component c) = refl
tuples_in_plan (suc n) p (origin.Component c) =
    ap ended_sum
    (fed_by_sources (λ feed tuples. min (tuples * feed.copies) weight_end) (value_in n tuples_rule (graph_of p)) (feeds_at (graph_of p) c)
    ∙ map_same (λ (feed : Feed). min (value_in n tuples_rule (graph_of p) feed.from * feed.copies) weight_end) (λ (feed : Feed). min (tuples_within n (plan_of p) feed.from * feed.copies) weight_end)
    (λ feed. ap (λ tuples. min (tuples * feed.copies) weight_end) (tuples_in_plan n p feed.from)) (feeds_at (graph_of p) c))
    ∙ gathered ended_sum (λ n sum. min (n + sum) weight_end) sum_gathered p c (λ from sub. min (tuples_within n (plan_of p) from * copies_of (plan_of p) sub) weight_end) (λ feed. min (tuples_within n (plan_of p) feed.from * feed.copies) weight_end)
    (λ from input. ap (λ copies. min (tuples_within n (plan_of p) from * copies) weight_end) (copies_planned p from input.grouping (tasks_of (plan_of p) c)))

pub weight_planned : (p : FileParts) → ended_sum (values_of tuples_rule (graph_of p)) ≡ plan_weight (plan_of p)
unfolding value_of plan_weight
weight_planned p =
    ap ended_sum (map_same (λ c. value_in (length (graph_of p)) tuples_rule (graph_of p) (origin.Component c)) (λ c. tuples_within (length (graph_of p)) (plan_of p) (origin.Component c)) (λ c. tuples_in_plan (length (graph_of p)) p (origin.Component c)) (range_with_len 0 (length (graph_of p))))
    ∙ ap (λ n. ended_sum (map (λ c. tuples_within n (plan_of p) (origin.Component c)) (range_with_len 0 n))) (length_planned p)
