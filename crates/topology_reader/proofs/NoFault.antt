-- A file that says what is valid has no fault in what it says.
use Rattle.std.proofs.Common.{if◌then◌else◌, ◌≡◌, ◌≢◌, ◌↔◌, ℕ, zero, suc, ◌+◌, ◌<◌, ◌≤◌, ◌==◌, ◌&&◌, ◌∷◌, List, [], ◌++◌, pos, length, map, slice_index, All, AllPairs, true, false, not, nat_lt, int_le, Option, Some, None, IfSome, option_map, option_to_list, option_and_then, slice_get, is_none, codes, inl, inr, refl, sym, ◌∙◌, ap, subst, arith}
use Rattle.topology_reader.proofs.Common.{most_fields, most_tasks_in_all, most_weight, values_of, value_of, at_depth, depth_rule, length-map-range_with_len, Contains, list_any, range_with_len, option_map_or, bytes_eq, first_some, Origin, tasks_in_all, IsBetween, WrongKind, OutOfRange, Twice, NoSource, FieldsDiffer, NoField, NotExactlyOnce, Weight, GroupingPart, Input, Operation, shape, Leaves, fields_left, read_left, more_fault, BodyPart, Bolt, State, ComponentPart, components_of, FileParts, IsInRange, IsBodyInRange, IsComponentInRange, is_bolt, feeds_at, Feed, pointwise, pointwise_decides, cond-true, cond-false, false≢true, false_from_ne_true, and_from, eqb-true, le-leb, le-ltb, map-id, same_Some, slice_get_within, Kind, Transactional, Opaque, by_depth, is_among, range_fault, first_again, again_fault, key_of, own_key, projected, component_twice, twice_fault, nameless_fault, source_fault, cycle_fault, differ_fault, field_fault, is_route, chooses, direct_fault, input_fault, fields_read, added_fault, component_fault, fields_fault, keeps_exact, replay_fault, meaning_fault, size_fault, component_names, component_count, name_at, source_of, inputs_at, sources_at, is_component, feeds, fields_after, fields_of, fields_to, body_of, graph_of, plan_of, IsPathThrough, AreDistinct, HasFields, IsValidInput, IsValidComponent, IsValidFile, list_any_none}
use Rattle.topology_plan.specs.Topology.{weight_of}
use Rattle.std.proofs.lemmas.List.{length-append}
use Rattle.topology_plan.specs.declared.function.Leaves.TheVariants as leaves
use Rattle.topology_plan.specs.declared.parts.Origin.TheVariants as origin
use Rattle.topology_form.specs.declared.parts.GroupingPart.TheVariants as said
use Rattle.topology_reader.proofs.Listed.{IsIn, All-from_in, All-at_in, in_map, in_flat_map, in_filter, in_range, in_any, find_none, none_first, none_first_map}
use Rattle.topology_reader.proofs.Distinct.{bytes_same, bytes_itself, among_in, in_among, AreApart}
use Rattle.topology_reader.proofs.Numbered.{IsAt, part_there, inputs_are, range_at, bolt_below}
use Rattle.topology_reader.proofs.SourceLemmas.{in_sources, length_graph}
use Rattle.topology_reader.proofs.Columns.{twice_in, faults_of, some_in}
use Rattle.topology_reader.proofs.ValidFile.{contains_from_in, sum_of_tasks, valid_file}
use Rattle.topology_reader.proofs.CyclePaths.{no_cycle_by_paths}
use Rattle.topology_reader.proofs.GraphLemmas.{feed_listed}

-- ---- lists

in_from_contains : {X : Type 0} (xs : List X) (x : X) → Contains xs x → IsIn x xs
in_from_contains [] x (k, within, is) = absurd (omega arith)
in_from_contains (y ∷ ys) x (zero, within, is) = inl is
in_from_contains (y ∷ ys) x (suc k, within, is) = inr (in_from_contains ys x (k, omega arith, is))

place_in : {X : Type 0} (xs : List X) (x : X) → IsIn x xs → (k : ℕ) × (slice_get xs k ≡ Some x)
place_in [] x at = elim at [ ]
place_in (y ∷ ys) x at =
    elim at [
      | inl same ↦ (zero, ap Some same)
      | inr later ↦ let found = place_in ys x later in (suc found.0, found.1)
    ]

-- ---- names that stand once

apart_from_pairs : {X Y : Type 0} (f : X → Y) (xs : List X) → AllPairs (λ a b. f a ≢ f b) xs → AreApart (map f xs)
apart_from_pairs f [] pairs = tt
apart_from_pairs f (x ∷ xs) pairs = (
  λ at.
      let other = in_map f xs (f x) at in
      let place = contains_from_in xs other.0 other.1 in
      pairs 0 (suc place.0) other.0 (omega arith) (omega (arith, place.1)) (sym other.2 ∙ ap f (sym place.2)),
  apart_from_pairs f xs (λ i j d before within. pairs (suc i) (suc j) d (omega arith) (omega arith)),
)

apart_from_distinct : (names : List (List ℕ)) → AreDistinct names → AreApart names
apart_from_distinct names distinct = subst AreApart (map-id names) (apart_from_pairs (λ (name : List ℕ). name) names distinct)

-- fields that are left once are read once
read_apart : (l : Leaves) (operation : Operation) (fields come : List (List ℕ)) → fields ≡ fields_left l operation come → AreDistinct fields → AreApart (read_left l operation.reads)
read_apart leaves.Same operation fields come is distinct = tt
read_apart leaves.Read operation fields come is distinct = apart_from_distinct operation.reads (subst AreDistinct is distinct)
read_apart leaves.Made operation fields come is distinct = tt
read_apart leaves.More operation fields come is distinct = tt

none_again : (before names : List (List ℕ)) → AreApart names → ((name : List ℕ) → IsIn name names → IsIn name before → ⊥) → first_again before names ≡ None
none_again before [] apart new = refl
none_again before (first ∷ names) apart new =
    let unseen : is_among before first ≡ false = false_from_ne_true (is_among before first) (λ among. new first (inl refl) (among_in before first among)) in
    cond-false (is_among before first) (Some first) (first_again (first ∷ before) names) unseen
    ∙ none_again (first ∷ before) names apart.1
    (λ name at seen. elim seen [
      | inl same ↦ apart.0 (subst (λ n. IsIn n names) (sym same) at)
      | inr earlier ↦ new name (inr at) earlier
    ])

-- ---- paths

is_component_same : (c : ℕ) (from : Origin) → is_component c from ≡ true → from ≡ origin.Component c
is_component_same c origin.Spout is = absurd (false≢true is)
is_component_same c (origin.Component d) is = ap origin.Component (sym (eqb-true c d is))

module _ (p : FileParts) (valid : IsValidFile p) where
  fed_above : (a b : ℕ) → feeds p a b ≡ true → (valid.numbered).number a < (valid.numbered).number b
  fed_above a b fed =
      let from = in_any (is_component a) (sources_at p b) fed in
      let input = in_sources p b from.0 from.1 in
      All-at_in (λ (i : Input). source_of p i.from ≡ Some (origin.Component a) → (valid.numbered).number a < (valid.numbered).number b) (inputs_at p b) ((valid.numbered).grows a b) input.0 input.1
      (input.2 ∙ ap Some (is_component_same a from.0 from.2))

  path_above : (a b : ℕ) (bolts : List ℕ) → IsPathThrough p a bolts b → (valid.numbered).number a < (valid.numbered).number b
  path_above a b [] fed = fed_above a b fed
  path_above a b (next ∷ bolts) through = omega (arith, fed_above a next through.1, path_above next b bolts through.2)

  cycle_none : cycle_fault p ≡ None
  cycle_none = (no_cycle_by_paths p).1 (λ c below path. let above : (valid.numbered).number c < (valid.numbered).number c = path_above c c path.0 path.1 in absurd (omega arith))

  -- ---- the inputs of a component

  within_at : (c : ℕ) (part : ComponentPart) → IsAt p c part → c < component_count p
  within_at c part is = slice_get_within (components_of p) c part is

  input_valid : (c : ℕ) (part : ComponentPart) (input : Input) → IsAt p c part → IsIn input part.inputs → IsValidInput p (fields_to p c) input
  input_valid c part input is at =
      All-at_in (IsValidInput p (fields_to p c)) part.inputs
      (subst (All (IsValidInput p (fields_to p c))) (inputs_are p c part is) (IsValidComponent.inputs (valid.components c (within_at c part is)))) input at

  key_apart_of : (c : ℕ) (part : ComponentPart) (input : Input) → IsAt p c part → IsIn input part.inputs → AreApart (key_of input.grouping)
  key_apart_of c part input is at = apart_from_distinct (key_of input.grouping) (IsValidInput.key (input_valid c part input is at))

  -- ---- names that stand twice

  fields_are : (c : ℕ) (part : ComponentPart) → IsAt p c part → fields_of p (origin.Component c) ≡ fields_after part.body (fields_to p c)
  fields_are c part is = subst (λ there. IfSome there (λ (part : ComponentPart). fields_of p (origin.Component c) ≡ fields_after part.body (fields_to p c))) is (valid.component_fields c)

  has_fields : (c : ℕ) (part : ComponentPart) → IsAt p c part → is_bolt part.body ≡ true → HasFields p (origin.Component c)
  has_fields c part is bolt = valid.fields (origin.Component c) (bolt_below p c part valid.range is bolt)

  projected_by : (fields come : List (List ℕ)) (body : BodyPart) → fields ≡ fields_after body come → (is_bolt body ≡ true → AreDistinct fields) → AreApart (projected body)
  projected_by fields come (Bolt operation) is distinct = read_apart (shape operation.function).leaves operation fields come is (distinct refl)
  projected_by fields come (State state) is distinct = tt

  -- a state's key is that of its first input
  own_key_apart : (c : ℕ) (part : ComponentPart) (body : BodyPart) → IsAt p c part → part.body ≡ body → AreApart (own_key body)
  own_key_apart c part (Bolt operation) is body = tt
  own_key_apart c part (State state) is body =
      let limits : IsBodyInRange (State state) part.inputs = subst (λ (b : BodyPart). IsBodyInRange b part.inputs) body (IsComponentInRange.body (range_at p c part valid.range is)) in
      let first = some_in part.inputs limits.1.0 in
      subst (λ by. AreApart (key_of by)) (All-at_in (λ (input : Input). input.grouping ≡ said.Fields state.key) part.inputs limits.3 first.0 first.1) (key_apart_of c part first.0 is first.1)

  once : (names : List (List ℕ)) → AreApart names → again_fault names ≡ None
  once names apart = ap (option_map Twice) (none_again [] names apart (λ name listed before. elim before [ ]))

  part_once : (part : ComponentPart) → IsIn part (components_of p) → component_twice part ≡ None
  part_once part at =
      let place = place_in (components_of p) part at in
      let froms : AreApart (map (λ (input : Input). input.from) part.inputs) =
      apart_from_pairs (λ (input : Input). input.from) part.inputs
      (subst (AllPairs (λ (a b : Input). a.from ≢ b.from)) (inputs_are p place.0 part place.1) (IsValidComponent.distinct (valid.components place.0 (within_at place.0 part place.1))))
      in
      none_first (twice_in part) (
        once (own_key part.body) (own_key_apart place.0 part part.body place.1 refl),
        (
          once (map (λ (input : Input). input.from) part.inputs) froms,
          (
            none_first_map (λ (input : Input). again_fault (key_of input.grouping)) part.inputs (λ input listed. once (key_of input.grouping) (key_apart_of place.0 part input place.1 listed)),
            (
              once (projected part.body) (projected_by (fields_of p (origin.Component place.0)) (fields_to p place.0) part.body (fields_are place.0 part place.1) (λ bolt. HasFields.distinct (has_fields place.0 part place.1 bolt))),
              tt,
            ),
          ),
        ),
      )

  twice_none : twice_fault p ≡ None
  twice_none =
      none_first (again_fault (p.spout.name ∷ component_names p) ∷ again_fault p.spout.fields ∷ first_some (map component_twice (components_of p)) ∷ []) (
        once (p.spout.name ∷ component_names p) (apart_from_distinct (p.spout.name ∷ component_names p) valid.names),
        (
          once p.spout.fields (subst AreApart valid.spout_fields (apart_from_distinct (fields_of p origin.Spout) (HasFields.distinct (valid.fields origin.Spout tt)))),
          (none_first_map component_twice (components_of p) part_once, tt),
        ),
      )

  -- ---- sources

  source_none : source_fault p ≡ None
  source_none =
      none_first_map (nameless_fault p) (components_of p)
      (λ part at.
      let place = place_in (components_of p) part at in
      ap (option_map (λ (input : Input). NoSource input.from))
      (find_none (λ (input : Input). is_none (source_of p input.from)) part.inputs
      (λ input listed. ap (λ (there : Option Origin). is_none there) (IsValidInput.named (input_valid place.0 part input place.1 listed)))))

  -- ---- fields

  here_valid : (c : ℕ) (input : Input) → c < component_count p → IsIn input (inputs_at p c) → IsValidInput p (fields_to p c) input
  here_valid c input within at = All-at_in (IsValidInput p (fields_to p c)) (inputs_at p c) (IsValidComponent.inputs (valid.components c within)) input at

  same_none : (c : ℕ) → c < component_count p → differ_fault p c ≡ None
  same_none c within =
      let differs = λ (feed : Feed). not (pointwise bytes_eq (fields_of p feed.from) (fields_to p c)) in
      cond-false (list_any differs (feeds_at (graph_of p) c)) (Some (FieldsDiffer (name_at p c))) None
      (list_any_none differs (feeds_at (graph_of p) c)
      (All-from_in (λ (feed : Feed). differs feed ≡ false) (feeds_at (graph_of p) c)
      (λ feed at.
      let input = in_sources p c feed.from (feed_listed p c feed at) in
      let has : IsValidInput p (fields_to p c) input.0 = here_valid c input.0 within input.1 in
      let one : has.from ≡ feed.from = same_Some has.from feed.from (sym has.named ∙ input.2) in
      let same : fields_of p feed.from ≡ fields_to p c = ap (fields_of p) (sym one) ∙ has.comes in
      ap not ((pointwise_decides (λ a b. (bytes_same a b, bytes_itself a b)) (fields_of p feed.from) (fields_to p c)).1 same))))

  there_none : (c : ℕ) (names : List (List ℕ)) → All (Contains (fields_to p c)) names → field_fault p c names ≡ None
  there_none c names each =
      ap (option_map (NoField (name_at p c)))
      (find_none (λ name. not (is_among (fields_to p c) name)) names
      (λ name at. ap not (in_among (fields_to p c) name (in_from_contains (fields_to p c) name (All-at_in (Contains (fields_to p c)) names each name at)))))

  direct_none : (c : ℕ) (input : Input) (by : GroupingPart) → IsValidInput p (fields_to p c) input → (by ≡ said.Direct → input.grouping ≡ said.Direct) → direct_fault p input by ≡ None
  direct_none c input said.Shuffle has is = refl
  direct_none c input (said.Fields key) has is = refl
  direct_none c input said.All has is = refl
  direct_none c input said.Global has is = refl
  direct_none c input said.Direct has is =
      let chosen : chooses p input ≡ true =
      ap (λ there. option_map_or is_route (option_and_then (body_of p) there) false) has.named ∙ has.direct (is refl)
      in
      cond-true (chooses p input) None (Some (WrongKind (codes "grouping"))) chosen

  input_none : (c : ℕ) (input : Input) → IsValidInput p (fields_to p c) input → input_fault p c input ≡ None
  input_none c input has =
      none_first (field_fault p c (key_of input.grouping) ∷ direct_fault p input input.grouping ∷ []) (there_none c (key_of input.grouping) has.key_fields, (direct_none c input input.grouping has (λ is. is), tt))

within_range : (name : List ℕ) (n least most : ℕ) → IsBetween n least most → range_fault name least most (pos n) ≡ None
within_range name n least most between =
    cond-true (int_le (pos least) (pos n) && int_le (pos n) (pos most)) None (Some (OutOfRange name (pos n) least most))
    (and_from (int_le (pos least) (pos n)) (int_le (pos n) (pos most)) (le-leb least n between.0) (le-leb n most between.1))

new_last : (names : List (List ℕ)) (name : List ℕ) → AreApart (names ++ name ∷ []) → IsIn name names → ⊥
new_last [] name apart at = elim at [ ]
new_last (first ∷ names) name apart at =
    elim at [
      | inl same ↦ apart.0 (subst (λ n. IsIn n (names ++ name ∷ [])) (sym same) (last_in names name))
      | inr later ↦ new_last names name apart.1 later
    ]
  where
    last_in : (names : List (List ℕ)) (name : List ℕ) → IsIn name (names ++ name ∷ [])
    last_in [] name = inl refl
    last_in (first ∷ names) name = inr (last_in names name)

one_more_none : (fields come : List (List ℕ)) (into : Option (List ℕ)) → fields ≡ come ++ option_to_list into → AreDistinct fields → IsBetween (length fields) 1 most_fields → more_fault leaves.More come into ≡ None
one_more_none fields come None is distinct count = refl
one_more_none fields come (Some into) is distinct count =
    let apart : AreApart (come ++ into ∷ []) = apart_from_distinct (come ++ into ∷ []) (subst AreDistinct is distinct) in
    let new : is_among come into ≡ false = false_from_ne_true (is_among come into) (λ among. new_last come into apart (among_in come into among)) in
    let more : length fields ≡ length come + 1 = ap (λ (names : List (List ℕ)). length names) is ∙ length-append come (into ∷ []) in
    cond-false (is_among come into) (Some (Twice into)) (range_fault (codes "fields") 1 most_fields (pos (length come + 1))) new
    ∙ within_range (codes "fields") (length come + 1) 1 most_fields (subst (λ n. IsBetween n 1 most_fields) more count)

more_none : (l : Leaves) (operation : Operation) (fields come : List (List ℕ)) → fields ≡ fields_left l operation come → AreDistinct fields → IsBetween (length fields) 1 most_fields → more_fault l come operation.into ≡ None
more_none leaves.Same operation fields come is distinct count = refl
more_none leaves.Read operation fields come is distinct count = refl
more_none leaves.Made operation fields come is distinct count = refl
more_none leaves.More operation fields come is distinct count = one_more_none fields come operation.into is distinct count

added_none : (fields come : List (List ℕ)) (body : BodyPart) → fields ≡ fields_after body come → (is_bolt body ≡ true → AreDistinct fields × IsBetween (length fields) 1 most_fields) → added_fault come body ≡ None
added_none fields come (Bolt operation) is has = more_none (shape operation.function).leaves operation fields come is (has refl).0 (has refl).1
added_none fields come (State state) is has = refl

module _ (p : FileParts) (valid : IsValidFile p) where
  component_none : (c : ℕ) → c < component_count p → component_fault p c ≡ None
  component_none c within =
      let part = part_there p c within in
      let reads : All (Contains (fields_to p c)) (fields_read part.0.body) =
      subst (λ there. IfSome there (λ (part : ComponentPart). All (Contains (fields_to p c)) (fields_read part.body))) part.1 (IsValidComponent.reads (valid.components c within))
      in
      let has = λ (bolt : is_bolt part.0.body ≡ true). has_fields p valid c part.0 part.1 bolt in
      ap (option_and_then (λ (part : ComponentPart). first_some (faults_of p c part))) part.1
      ∙ none_first (faults_of p c part.0) (
        same_none p valid c within,
        (
          none_first_map (input_fault p c) part.0.inputs (λ input at. input_none p valid c input (input_valid p valid c part.0 input part.1 at)),
          (
            there_none p valid c (fields_read part.0.body) reads,
            (added_none (fields_of p (origin.Component c)) (fields_to p c) part.0.body (fields_are p valid c part.0 part.1) (λ bolt. (HasFields.distinct (has bolt), HasFields.count (has bolt))), tt),
          ),
        ),
      )

  depth_within : (c : ℕ) → IsIn c (by_depth (graph_of p)) → c < component_count p
  unfolding by_depth
  depth_within c at =
      let depths = values_of depth_rule (graph_of p) in
      let depth = in_flat_map (at_depth depths) (range_with_len 1 (length (graph_of p))) c at in
      let kept = in_filter (λ d. slice_index depths d == depth.0) (range_with_len 0 (length depths)) c depth.2 in
      let bounds = in_range 0 (length depths) c kept.0 in
      omega (arith, bounds.1, length_graph p, length-map-range_with_len (λ d. value_of depth_rule (graph_of p) (origin.Component d)) 0 (length (graph_of p)))

  fields_none : fields_fault p ≡ None
  fields_none = none_first_map (component_fault p) (by_depth (graph_of p)) (λ c at. component_none c (depth_within c at))

  -- ---- the whole

  replay_none : (kind : Kind) → p.spout.kind ≡ kind → replay_fault p kind ≡ None
  replay_none Transactional is = refl
  replay_none Opaque is =
      ap (option_map (λ (part : ComponentPart). NotExactlyOnce part.name))
      (find_none (λ (part : ComponentPart). keeps_exact part.body) p.states
      (λ part at. All-at_in (λ (state : ComponentPart). keeps_exact state.body ≡ false) p.states (valid.replays is) part at))

light : (weight : ℕ) → weight ≤ most_weight → (if nat_lt most_weight weight then Some (Weight weight) else None) ≡ None
light weight few = cond-false (nat_lt most_weight weight) (Some (Weight weight)) None (le-ltb most_weight weight few)

pub none_of_valid : (p : FileParts) → IsValidFile p → meaning_fault p ≡ None
unfolding meaning_fault
none_of_valid p valid =
    let tasks = within_range (codes "tasks in all") (tasks_in_all (plan_of p)) 1 most_tasks_in_all (subst (λ n. IsBetween n 1 most_tasks_in_all) (sum_of_tasks p) valid.tasks) in
    let size =
    none_first (range_fault (codes "tasks in all") 1 most_tasks_in_all (pos (tasks_in_all (plan_of p))) ∷ (if nat_lt most_weight (weight_of (plan_of p)) then Some (Weight (weight_of (plan_of p))) else None) ∷ [])
    (tasks, (light (weight_of (plan_of p)) valid.weight, tt))
    in
    none_first (twice_fault p ∷ source_fault p ∷ cycle_fault p ∷ fields_fault p ∷ replay_fault p p.spout.kind ∷ size_fault (tasks_in_all (plan_of p)) (weight_of (plan_of p)) ∷ [])
    (twice_none p valid, (source_none p valid, (cycle_none p valid, (fields_none p valid, (replay_none p valid p.spout.kind refl, (size, tt))))))

-- what a file says has no fault exactly where it is valid
pub none_exactly_valid : (p : FileParts) → IsInRange p → (meaning_fault p ≡ None) ↔ IsValidFile p
none_exactly_valid p range = (valid_file p range, none_of_valid p)
