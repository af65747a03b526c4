-- The subscriptions of all sources, made in one walk over the inputs.
use Rattle.std.proofs.Common.{◌≡◌, ◌≢◌, ℕ, ◌+◌, ◌<◌, ◌==◌, Bool, true, false, cond, inl, inr, List, [], ◌∷◌, ◌++◌, length, map, filter, take, drop, replicate, slice_index_or, get_or, set, fold, suc, Option, Some, None, Vec, refl, sym, ap, ◌∙◌, subst, arith, append_assoc}
use Rattle.topology_reader.proofs.Common.{take_more, cases_Bool, eqb-true, eqb-false, map-set, get_or-map, append-nil, length-take-le, slice_get_within, length-set, length-replicate, get_or-replicate, get_or-set_same, get_or-set_other, fill_by_all, fold_push, enumerate_from, flat_map, range_with_len, Origin, ComponentPart, Input, FileParts, Sub, is_origin, is_from, planned_grouping, subs_of_component, planned_subs, plan_of, place_in, with_sub, with_input, with_inputs, items_by, source_of, inputs_by_component, component_count}
use Rattle.std.specs.declared.alloc.Global.{Global}
use Rattle.topology_plan.specs.declared.parts.Origin.TheVariants as origin
use Rattle.topology_reader.proofs.Numbered.{IsAt, inputs_at_part, take_at}
use Rattle.topology_reader.proofs.SourceLemmas.{length_inputs}
use Rattle.topology_reader.proofs.PartLemmas.{enumerate_append}

zero-suc : {n : ℕ} → 0 ≡ suc n → ⊥
zero-suc same = omega (arith, same)

add-one : (n : ℕ) → n + 1 ≡ suc n
add-one n = omega arith

-- a vector of the table with one more subscription
pub added_at : (rows : List (Vec Sub Global)) (place : ℕ) (old new : Vec Sub Global) (sub : Sub) → place < length rows → old ≡ get_or rows place old → new.items ≡ old.items ++ sub ∷ [] → items_by (set rows place new) ≡ set (items_by rows) place (get_or (items_by rows) place [] ++ sub ∷ [])
added_at rows place old new sub below is added =
    map-set (λ (subs : Vec Sub Global). subs.items) rows place new
    ∙ ap (set (items_by rows) place)
    (added ∙ ap (λ xs. xs ++ sub ∷ []) (ap (λ (subs : Vec Sub Global). subs.items) is ∙ sym (get_or-map (λ (subs : Vec Sub Global). subs.items) rows place old [] below)))

-- the first of the table's vectors, and the others
pub taken : (rows : List (Vec Sub Global)) (first : Vec Sub Global) (subs : List Sub) (others : List (List Sub)) → items_by rows ≡ subs ∷ others → first ≡ slice_index_or rows 0 first → (first.items ≡ subs) × (items_by (drop 1 rows) ≡ others)
taken [] first subs others is at = absurd (zero-suc (ap length is))
taken (row ∷ rows) first subs others is at = (ap (λ (subs : Vec Sub Global). subs.items) at ∙ ap (λ table. get_or table 0 []) is, ap (drop 1) is)

-- ---- numbered rows

map-enumerate : {X Y : Type 0} (g : ℕ → Y) (n : ℕ) (xs : List X) → map (λ (numbered : ℕ × X). g numbered.0) (enumerate_from n xs) ≡ map g (range_with_len n (length xs))
map-enumerate g n [] = refl
map-enumerate g n (x ∷ xs) = ap (λ ys. g n ∷ ys) (map-enumerate g (n + 1) xs)

-- one component more
pub walk_next : (p : FileParts) (c : ℕ) (part : ComponentPart) (start old new : List (List Sub)) → IsAt p c part → old ≡ fold (with_inputs p) start (enumerate_from 0 (take c (inputs_by_component p))) → new ≡ with_inputs p old (c, part.inputs)
    → new ≡ fold (with_inputs p) start (enumerate_from 0 (take (c + 1) (inputs_by_component p)))
walk_next p c part start old new at so_far added =
    let rows = inputs_by_component p in
    let is = inputs_at_part p c part at in
    let count : c ≡ 0 + length (take c rows) = omega (arith, length-take-le c rows (omega (arith, slice_get_within rows c part.inputs is))) in
    let numbered : enumerate_from 0 (take (c + 1) rows) ≡ enumerate_from 0 (take c rows) ++ (c, part.inputs) ∷ [] =
    ap (enumerate_from 0) (take_at rows c part.inputs is) ∙ enumerate_append 0 (take c rows) (part.inputs ∷ []) ∙ ap (λ k. enumerate_from 0 (take c rows) ++ (k, part.inputs) ∷ []) (sym count) in
    added
    ∙ ap (λ table. with_inputs p table (c, part.inputs)) so_far
    ∙ sym (fold_push (with_inputs p) start (enumerate_from 0 (take c rows)) (c, part.inputs))
    ∙ ap (fold (with_inputs p) start) (sym numbered)

-- one input more
pub inputs_next : (p : FileParts) (to : ℕ) (inputs : List Input) (i : ℕ) (input : Input) (start old new : List (List Sub)) → i < length inputs → input ≡ get_or inputs i input → old ≡ fold (with_input p to) start (take i inputs) → new ≡ with_input p to old input
    → new ≡ fold (with_input p to) start (take (i + 1) inputs)
inputs_next p to inputs i input start old new below at so_far added =
    let longer : take (i + 1) inputs ≡ take i inputs ++ input ∷ [] = take_more inputs i input below ∙ ap (λ x. take i inputs ++ x ∷ []) (sym at) in
    added ∙ ap (λ table. with_input p to table input) so_far ∙ sym (ap (fold (with_input p to) start) longer ∙ fold_push (with_input p to) start (take i inputs) input)

-- ---- what a table holds

-- the table has these subscriptions of the spout, and of each of n components
record IsTable (n : ℕ) (f : Origin → List Sub) (table : List (List Sub)) : Type 0 where
  count : length table ≡ n + 1
  each : (from : Origin) → place_in from < n + 1 → get_or table (place_in from) [] ≡ f from

IsTable-none : (n : ℕ) → IsTable n (λ _. []) (replicate (n + 1) [])
IsTable-none n = record { count = length-replicate (n + 1) []; each = λ from below. get_or-replicate (n + 1) (place_in from) [] [] below }

IsTable-same : (n : ℕ) (f g : Origin → List Sub) (table : List (List Sub)) → ((from : Origin) → f from ≡ g from) → IsTable n f table → IsTable n g table
IsTable-same n f g table same is = record { count = is.count; each = λ from below. is.each from below ∙ same from }

IsTable-split : (n : ℕ) (f : Origin → List Sub) (table : List (List Sub)) → IsTable n f table → table ≡ f origin.Spout ∷ map (λ c. f (origin.Component c)) (range_with_len 0 n)
IsTable-split n f [] is = absurd (zero-suc (is.count ∙ add-one n))
IsTable-split n f (first ∷ others) is =
    let spout : first ≡ f origin.Spout = is.each origin.Spout (omega arith) in
    let rest : others ≡ map (λ c. f (origin.Component c)) (range_with_len 0 n) =
    fill_by_all (λ c. f (origin.Component c)) others n [] (omega (arith, is.count)) (λ c below. subst (λ k. get_or (first ∷ others) k [] ≡ f (origin.Component c)) (add-one c) (is.each (origin.Component c) (omega (arith, below)))) in
    cc

-- what a subscription to one source adds to each
addition : Origin → Sub → Origin → List Sub
addition from sub other = cond (is_origin other from) (sub ∷ []) []

-- the place that a subscription is added at, and the others
at_same : (table : List (List Sub)) (place : ℕ) (sub : Sub) (subs : List Sub) → place < length table → get_or table place [] ≡ subs → get_or (set table place (get_or table place [] ++ sub ∷ [])) place [] ≡ subs ++ sub ∷ []
at_same table place sub subs below is = get_or-set_same table place (get_or table place [] ++ sub ∷ []) [] below ∙ ap (λ xs. xs ++ sub ∷ []) is

at_other : (table : List (List Sub)) (place other : ℕ) (sub : Sub) (subs : List Sub) → other ≢ place → get_or table other [] ≡ subs → get_or (set table place (get_or table place [] ++ sub ∷ [])) other [] ≡ subs ++ []
at_other table place other sub subs differs is = get_or-set_other table place other (get_or table place [] ++ sub ∷ []) [] differs ∙ is ∙ sym (append-nil subs)

set_each : (from other : Origin) (sub : Sub) (subs : List Sub) (table : List (List Sub)) → place_in other < length table → get_or table (place_in other) [] ≡ subs → get_or (with_sub table from sub) (place_in other) [] ≡ subs ++ addition from sub other
unfolding addition
set_each origin.Spout origin.Spout sub subs table below is = at_same table 0 sub subs below is
set_each origin.Spout (origin.Component c) sub subs table below is = at_other table 0 (c + 1) sub subs (λ same. zero-suc (sym same ∙ add-one c)) is
set_each (origin.Component d) origin.Spout sub subs table below is = at_other table (d + 1) 0 sub subs (λ same. zero-suc (same ∙ add-one d)) is
set_each (origin.Component d) (origin.Component c) sub subs table below is =
    elim (cases_Bool (c == d)) [
      | inl equal ↦
          rw (equal) (subst (λ k. get_or (set table (k + 1) (get_or table (k + 1) [] ++ sub ∷ [])) (c + 1) [] ≡ subs ++ sub ∷ []) (eqb-true c d equal) (at_same table (c + 1) sub subs below is))
      | inr differs ↦ rw (differs) (at_other table (d + 1) (c + 1) sub subs (λ same. eqb-false c d differs (omega (arith, same))) is)
    ]

IsTable-add : (n : ℕ) (f : Origin → List Sub) (table : List (List Sub)) (from : Origin) (sub : Sub) → IsTable n f table → IsTable n (λ other. f other ++ addition from sub other) (with_sub table from sub)
IsTable-add n f table from sub is = record {
  count = length-set table (place_in from) (get_or table (place_in from) [] ++ sub ∷ []) ∙ is.count;
  each = λ other below. set_each from other sub (f other) table (omega (arith, is.count, below)) (is.each other below);
}

-- ---- inputs

planned_sub : FileParts → ℕ → Input → Origin → Sub
planned_sub p to input from = record { to = to; grouping = planned_grouping p from input.grouping }

-- one input adds what the definition has of it
addition-input : (p : FileParts) (to : ℕ) (input : Input) (from other : Origin) → addition from (planned_sub p to input from) other ≡ map (λ (i : Input). record { to = to; grouping = planned_grouping p other i.grouping }) (cond (is_origin other from) (input ∷ []) [])
unfolding addition planned_sub
addition-input p to input origin.Spout origin.Spout = refl
addition-input p to input origin.Spout (origin.Component c) = refl
addition-input p to input (origin.Component d) origin.Spout = refl
addition-input p to input (origin.Component d) (origin.Component c) =
    elim (cases_Bool (c == d)) [
      | inl equal ↦ rw (equal) (ap (λ k. record { to = to; grouping = planned_grouping p (origin.Component k) input.grouping } ∷ []) (sym (eqb-true c d equal)))
      | inr differs ↦ rw (differs) refl
    ]

IsTable-source : (n : ℕ) (f : Origin → List Sub) (table : List (List Sub)) (p : FileParts) (to : ℕ) (input : Input) (source : Option Origin) → source_of p input.from ≡ source → IsTable n f table → IsTable n (λ other. f other ++ subs_of_component p other (to, input ∷ [])) (with_input p to table input)
unfolding addition planned_sub
IsTable-source n f table p to input None is holds =
    rw is (IsTable-same n f (λ other. f other ++ []) table (λ other. sym (append-nil (f other))) holds)
IsTable-source n f table p to input (Some from) is holds =
    rw is
    (IsTable-same n (λ other. f other ++ addition from (planned_sub p to input from) other) (λ other. f other ++ map (λ (i : Input). record { to = to; grouping = planned_grouping p other i.grouping }) (cond (is_origin other from) (input ∷ []) [])) (with_sub table from (planned_sub p to input from))
    (λ other. ap (λ subs. f other ++ subs) (addition-input p to input from other)) (IsTable-add n f table from (planned_sub p to input from) holds))

first_and_rest : {X Y : Type 0} (g : X → Y) (passes : Bool) (x : X) (rest : List X) → map g (cond passes (x ∷ []) []) ++ map g rest ≡ map g (cond passes (x ∷ rest) rest)
first_and_rest g true x rest = refl
first_and_rest g false x rest = refl

IsTable-inputs : (n : ℕ) (f : Origin → List Sub) (table : List (List Sub)) (p : FileParts) (to : ℕ) (inputs : List Input) → IsTable n f table → IsTable n (λ other. f other ++ subs_of_component p other (to, inputs)) (fold (with_input p to) table inputs)
IsTable-inputs n f table p to [] holds = IsTable-same n f (λ other. f other ++ []) table (λ other. sym (append-nil (f other))) holds
IsTable-inputs n f table p to (input ∷ inputs) holds =
    IsTable-same n (λ other. (f other ++ subs_of_component p other (to, input ∷ [])) ++ subs_of_component p other (to, inputs)) (λ other. f other ++ subs_of_component p other (to, input ∷ inputs)) (fold (with_input p to) (with_input p to table input) inputs)
    (λ other.
    append_assoc (f other) (subs_of_component p other (to, input ∷ [])) (subs_of_component p other (to, inputs))
    ∙ ap (λ subs. f other ++ subs) (first_and_rest (λ (i : Input). record { to = to; grouping = planned_grouping p other i.grouping }) (is_from p other input) input (filter (is_from p other) inputs)))
    (IsTable-inputs n (λ other. f other ++ subs_of_component p other (to, input ∷ [])) (with_input p to table input) p to inputs (IsTable-source n f table p to input (source_of p input.from) refl holds))

IsTable-walk : (n : ℕ) (f : Origin → List Sub) (table : List (List Sub)) (p : FileParts) (components : List (ℕ × List Input)) → IsTable n f table → IsTable n (λ other. f other ++ flat_map (subs_of_component p other) components) (fold (with_inputs p) table components)
IsTable-walk n f table p [] holds = IsTable-same n f (λ other. f other ++ []) table (λ other. sym (append-nil (f other))) holds
IsTable-walk n f table p (component ∷ components) holds =
    IsTable-same n (λ other. (f other ++ subs_of_component p other component) ++ flat_map (subs_of_component p other) components) (λ other. f other ++ (subs_of_component p other component ++ flat_map (subs_of_component p other) components)) (fold (with_inputs p) (with_inputs p table component) components)
    (λ other. append_assoc (f other) (subs_of_component p other component) (flat_map (subs_of_component p other) components))
    (IsTable-walk n (λ other. f other ++ subs_of_component p other component) (with_inputs p table component) p components (IsTable-inputs n f table p component.0 component.1 holds))

-- ---- the whole walk

pub subs-walked : (p : FileParts) (table : List (List Sub)) → table ≡ fold (with_inputs p) (replicate (component_count p + 1) []) (enumerate_from 0 (inputs_by_component p)) → table ≡ (plan_of p).spout_subs ∷ (plan_of p).component_subs
unfolding plan_of
subs-walked p table walked =
    let whole = subst (IsTable (component_count p) (planned_subs p)) (sym walked) (IsTable-walk (component_count p) (λ _. []) (replicate (component_count p + 1) []) p (enumerate_from 0 (inputs_by_component p)) (IsTable-none (component_count p))) in
    IsTable-split (component_count p) (planned_subs p) table whole
    ∙ ap (λ subs. planned_subs p origin.Spout ∷ subs)
    (ap (λ n. map (λ c. planned_subs p (origin.Component c)) (range_with_len 0 n)) (sym (length_inputs p)) ∙ sym (map-enumerate (λ c. planned_subs p (origin.Component c)) 0 (inputs_by_component p)))
