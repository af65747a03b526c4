-- Where parts stand, and that no two are one.
use Rattle.std.proofs.Common.{IfNone, ◌≡◌, ◌+◌, ◌^◌, ◌<◌, ◌≤◌, ◌⊎◌, inl, inr, ⊎_elim, ℕ, zero, suc, List, [], ◌∷◌, ◌++◌, length, map, Option, None, Some, slice_get, refl, sym, ap, subst, ◌∙◌, append_assoc, arith}
use Rattle.std.proofs.lemmas.Bool.{cases_eq}
use Rattle.std.proofs.lemmas.List.{append-nil, map-id}
use Rattle.std.proofs.lemmas.List.Concat.{flat_map-append}
use Rattle.std.proofs.lemmas.List.FromFn.{map-range_with_len_more}
use Rattle.std.proofs.lemmas.Option.{none-some, same_Some, slice_get_within}
use Rattle.std.specs.List.{flat_map, range_with_len}
use Rattle.std.specs.Option.{option_map, option_map_or}
use Rattle.tree_model.specs.topology_plan.declared.parts.Body.{Body}
use Rattle.tree_model.specs.topology_plan.declared.parts.Body.TheVariants.{Bolt, State}
use Rattle.tree_model.specs.topology_plan.declared.parts.Component.{Component}
use Rattle.tree_model.specs.topology_plan.declared.parts.Fold.{Fold}
use Rattle.tree_model.specs.topology_plan.declared.parts.Kind.{Kind}
use Rattle.tree_model.specs.topology_plan.Topology.{Topology}
use Rattle.state_parts.specs.PartPlans.{PartPlan, AreApart, AreIndexed, IsFound, IsOneOf, part_by, parts_at, parts_below, parts_by, place_by}

-- ---- one of some parts

pub numbers_cases : (c p component part : ℕ) → ((c ≡ component) × (p ≡ part)) ⊎ (((c ≡ component) × (p ≡ part)) → ⊥)
numbers_cases c p component part =
    ⊎_elim (λ (one : c ≡ component). ⊎_elim (λ (two : p ≡ part). inl (one, two)) (λ (other : p ≡ part → ⊥). inr (λ same. other same.1)) (cases_eq p part))
    (λ (other : c ≡ component → ⊥). inr (λ same. other same.0)) (cases_eq c component)

pub one_of_cases : (xs : List PartPlan) (c p : ℕ) → IsOneOf xs c p ⊎ (IsOneOf xs c p → ⊥)
one_of_cases [] c p = inr (λ one. one)
one_of_cases (x ∷ xs) c p =
    ⊎_elim (λ here. inl (inl here))
    (λ other. ⊎_elim (λ later. inl (inr later)) (λ none. inr (λ one. ⊎_elim other none one)) (one_of_cases xs c p))
    (numbers_cases c p x.component x.part)

pub one_of_append : (xs ys : List PartPlan) (c p : ℕ) → IsOneOf (xs ++ ys) c p → IsOneOf xs c p ⊎ IsOneOf ys c p
one_of_append [] ys c p one = inr one
one_of_append (x ∷ xs) ys c p (inl here) = inl (inl here)
one_of_append (x ∷ xs) ys c p (inr later) = ⊎_elim (λ front. inl (inr front)) (λ back. inr back) (one_of_append xs ys c p later)

pub one_of_left : (xs ys : List PartPlan) (c p : ℕ) → IsOneOf xs c p → IsOneOf (xs ++ ys) c p
one_of_left [] ys c p one = absurd one
one_of_left (x ∷ xs) ys c p (inl here) = inl here
one_of_left (x ∷ xs) ys c p (inr later) = inr (one_of_left xs ys c p later)

pub one_of_right : (xs ys : List PartPlan) (c p : ℕ) → IsOneOf ys c p → IsOneOf (xs ++ ys) c p
one_of_right [] ys c p one = one
one_of_right (x ∷ xs) ys c p one = inr (one_of_right xs ys c p one)

-- ---- which numbers the planned parts have

module _ (component : ℕ) (kind : Kind) (by : Fold) where
  in_state : (a n c p : ℕ) → IsOneOf (map (part_by component kind by) (range_with_len a n)) c p → c ≡ component
  in_state a zero c p one = absurd one
  in_state a (suc n) c p (inl here) = here.0
  in_state a (suc n) c p (inr later) = in_state (a + 1) n c p later

  pub not_past : (a n p : ℕ) → a + n ≤ p → IsOneOf (map (part_by component kind by) (range_with_len a n)) component p → ⊥
  not_past a zero p past one = one
  not_past a (suc n) p past (inl here) = let same : p ≡ a = here.1 in omega arith
  not_past a (suc n) p past (inr later) = not_past (a + 1) n p (omega arith) later

in_body : (number tasks : ℕ) (body : Body) (c p : ℕ) → IsOneOf (parts_by number tasks body) c p → c ≡ number
in_body number tasks (Bolt op) c p one = absurd one
in_body number tasks (State spec) c p one = in_state number spec.kind spec.fold 0 tasks c p one

in_component : (t : Topology) (number c p : ℕ) → IsOneOf (parts_at t number) c p → c ≡ number
in_component t number c p one = cases (slice_get t.components number) one
  where
    cases : (o : Option Component) → IsOneOf (option_map_or (λ (component : Component). parts_by number component.tasks component.body) o []) c p → c ≡ number
    cases None one = absurd one
    cases (Some component) one = in_body number component.tasks component.body c p one

not_later : (t : Topology) (a n c p : ℕ) → a + n ≤ c → IsOneOf (flat_map (parts_at t) (range_with_len a n)) c p → ⊥
not_later t a zero c p past one = one
not_later t a (suc n) c p past one =
    ⊎_elim (λ (here : IsOneOf (parts_at t a) c p). let same = in_component t a c p here in omega arith)
    (λ (later : IsOneOf (flat_map (parts_at t) (range_with_len (a + 1) n)) c p). not_later t (a + 1) n c p (omega arith) later)
    (one_of_append (parts_at t a) (flat_map (parts_at t) (range_with_len (a + 1) n)) c p one)

-- the components with the first numbers have no part of the next one
pub not_below : (t : Topology) (number p : ℕ) → IsOneOf (parts_below t number) number p → ⊥
not_below t number p one = not_later t 0 number number p (omega arith) one

-- ---- places

-- the part of these numbers stands in a list whose first part stands at n
pub record StandsAt (firsts : List ℕ) (n : ℕ) (xs : List PartPlan) (c p : ℕ) : Type 0 where
  pub place : ℕ
  pub is : place_by firsts c p ≡ Some (n + place)
  pub at : PartPlan
  pub there : slice_get xs place ≡ Some at
  pub component_is : c ≡ at.component
  pub part_is : p ≡ at.part

module _ (firsts : List ℕ) where
  same_place : (c p component part : ℕ) → c ≡ component → p ≡ part → place_by firsts c p ≡ place_by firsts component part
  same_place c p component part one two = ap (λ (k : ℕ). place_by firsts k p) one ∙ ap (λ (k : ℕ). place_by firsts component k) two

  pub place_of_one : (n : ℕ) (xs : List PartPlan) (c p : ℕ) → AreIndexed firsts n xs → IsOneOf xs c p → StandsAt firsts n xs c p
  place_of_one n [] c p indexed one = absurd one
  place_of_one n (x ∷ xs) c p indexed (inl here) =
      let still : n ≡ n + 0 = omega arith in
      record {
        place = 0;
        is = same_place c p x.component x.part here.0 here.1 ∙ indexed.0 ∙ ap Some still;
        at = x;
        there = refl;
        component_is = here.0;
        part_is = here.1;
      }
  place_of_one n (x ∷ xs) c p indexed (inr later) =
      let r = place_of_one (n + 1) xs c p indexed.1 later in
      let next : n + 1 + r.place ≡ n + suc r.place = omega arith in
      record {
        place = suc r.place;
        is = r.is ∙ ap Some next;
        at = r.at;
        there = r.there;
        component_is = r.component_is;
        part_is = r.part_is;
      }

  place_at : (n : ℕ) (xs : List PartPlan) (i : ℕ) (x : PartPlan) → AreIndexed firsts n xs → slice_get xs i ≡ Some x → place_by firsts x.component x.part ≡ Some (n + i)
  place_at n [] i x indexed there = absurd (none-some x there)
  place_at n (y ∷ xs) zero x indexed there =
      let still : n ≡ n + 0 = omega arith in
      subst (λ (z : PartPlan). place_by firsts z.component z.part ≡ Some (n + 0)) (same_Some y x there) (indexed.0 ∙ ap Some still)
  place_at n (y ∷ xs) (suc i) x indexed there =
      let next : n + 1 + i ≡ n + suc i = omega arith in
      place_at (n + 1) xs i x indexed.1 there ∙ ap Some next

  pub indexed_apart : (n : ℕ) (xs : List PartPlan) → AreIndexed firsts n xs → AreApart xs
  indexed_apart n [] indexed = tt
  indexed_apart n (x ∷ xs) indexed = (
    λ one.
        let r = place_of_one (n + 1) xs x.component x.part indexed.1 one in
        let same : n ≡ n + 1 + r.place = same_Some n (n + 1 + r.place) (sym indexed.0 ∙ r.is) in
        omega arith,
    indexed_apart (n + 1) xs indexed.1,
  )

  -- what stands at a place is the only part of its numbers
  pub indexed_found : (n : ℕ) (xs : List PartPlan) (i : ℕ) (x : PartPlan) → AreIndexed firsts n xs → slice_get xs i ≡ Some x → IsFound xs x.component x.part i
  indexed_found n [] i x indexed there = absurd (none-some x there)
  indexed_found n (y ∷ xs) zero x indexed there =
      subst (λ (z : PartPlan). IsFound (y ∷ xs) z.component z.part zero) (same_Some y x there) ((refl, refl), (indexed_apart n (y ∷ xs) indexed).0)
  indexed_found n (y ∷ xs) (suc i) x indexed there = (
    λ same.
        let later : place_by firsts x.component x.part ≡ Some (n + 1 + i) = place_at (n + 1) xs i x indexed.1 there in
        let first : n + 1 + i ≡ n = same_Some (n + 1 + i) n (sym later ∙ same_place x.component x.part y.component y.part same.0 same.1 ∙ indexed.0) in
        omega arith,
    indexed_found (n + 1) xs i x indexed.1 there,
  )

  indexed_append : (n : ℕ) (xs ys : List PartPlan) → AreIndexed firsts n xs → AreIndexed firsts (n + length xs) ys → AreIndexed firsts n (xs ++ ys)
  indexed_append n [] ys front back = let still : n + 0 ≡ n = omega arith in subst (λ (m : ℕ). AreIndexed firsts m ys) still back
  indexed_append n (x ∷ xs) ys front back =
      let next : n + suc (length xs) ≡ n + 1 + length xs = omega arith in
      (front.0, indexed_append (n + 1) xs ys front.1 (subst (λ (m : ℕ). AreIndexed firsts m ys) next back))

  indexed_state : (component first : ℕ) (kind : Kind) (by : Fold) (a n : ℕ) → slice_get firsts component ≡ Some first → AreIndexed firsts (first + a) (map (part_by component kind by) (range_with_len a n))
  indexed_state component first kind by a zero at = tt
  indexed_state component first kind by a (suc n) at =
      let next : first + (a + 1) ≡ first + a + 1 = omega arith in (
        ap (option_map (λ (f : ℕ). f + a)) at,
        subst (λ (m : ℕ). AreIndexed firsts m (map (part_by component kind by) (range_with_len (a + 1) n))) next (indexed_state component first kind by (a + 1) n at),
      )

  indexed_component : (number first tasks : ℕ) (body : Body) → slice_get firsts number ≡ Some first → AreIndexed firsts first (parts_by number tasks body)
  indexed_component number first tasks (Bolt op) at = tt
  indexed_component number first tasks (State spec) at =
      let still : first + 0 ≡ first = omega arith in
      subst (λ (m : ℕ). AreIndexed firsts m (map (part_by number spec.kind spec.fold) (range_with_len 0 tasks))) still (indexed_state number first spec.kind spec.fold 0 tasks at)

get-more : (xs : List ℕ) (y i x : ℕ) → slice_get xs i ≡ Some x → slice_get (xs ++ y ∷ []) i ≡ Some x
get-more [] y i x there = absurd (none-some x there)
get-more (z ∷ xs) y zero x there = there
get-more (z ∷ xs) y (suc i) x there = get-more xs y i x there

get-push : (xs : List ℕ) (y : ℕ) → slice_get (xs ++ y ∷ []) (length xs) ≡ Some y
get-push [] y = refl
get-push (z ∷ xs) y = get-push xs y

place_more : (firsts : List ℕ) (first c p m : ℕ) → place_by firsts c p ≡ Some m → place_by (firsts ++ first ∷ []) c p ≡ Some m
place_more firsts first c p m at = cases (slice_get firsts c) refl at
  where
    cases : (o : Option ℕ) → slice_get firsts c ≡ o → option_map (λ (f : ℕ). f + p) o ≡ Some m → place_by (firsts ++ first ∷ []) c p ≡ Some m
    cases None is at = absurd (none-some m at)
    cases (Some f) is at = ap (option_map (λ (f : ℕ). f + p)) (get-more firsts first c f is) ∙ at

more_firsts : (firsts : List ℕ) (first n : ℕ) (xs : List PartPlan) → AreIndexed firsts n xs → AreIndexed (firsts ++ first ∷ []) n xs
more_firsts firsts first n [] indexed = tt
more_firsts firsts first n (x ∷ xs) indexed = (place_more firsts first x.component x.part n indexed.0, more_firsts firsts first (n + 1) xs indexed.1)

-- the parts of one more component stand behind those before
pub indexed_more : (firsts : List ℕ) (xs : List PartPlan) (number tasks : ℕ) (body : Body) → length firsts ≡ number → AreIndexed firsts 0 xs → AreIndexed (firsts ++ length xs ∷ []) 0 (xs ++ parts_by number tasks body)
indexed_more firsts xs number tasks body long indexed =
    let last : slice_get (firsts ++ length xs ∷ []) number ≡ Some (length xs) = subst (λ (k : ℕ). slice_get (firsts ++ length xs ∷ []) k ≡ Some (length xs)) long (get-push firsts (length xs)) in
    let behind : length xs ≡ 0 + length xs = omega arith in
    indexed_append (firsts ++ length xs ∷ []) 0 xs (parts_by number tasks body) (more_firsts firsts (length xs) 0 xs indexed)
    (subst (λ (m : ℕ). AreIndexed (firsts ++ length xs ∷ []) m (parts_by number tasks body)) behind (indexed_component (firsts ++ length xs ∷ []) number (length xs) tasks body last))

-- ---- no two parts of the same numbers

pub apart_push : (xs : List PartPlan) (x : PartPlan) → AreApart xs → (IsOneOf xs x.component x.part → ⊥) → AreApart (xs ++ x ∷ [])
apart_push [] x apart fresh = (λ one. one, tt)
apart_push (y ∷ xs) x apart fresh = (
  λ one.
      ⊎_elim (λ (front : IsOneOf xs y.component y.part). apart.0 front)
      (λ (last : IsOneOf (x ∷ []) y.component y.part). ⊎_elim (λ (here : (y.component ≡ x.component) × (y.part ≡ x.part)). fresh (inl (sym here.0, sym here.1))) (λ (none : ⊥). none) last)
      (one_of_append xs (x ∷ []) y.component y.part one),
  apart_push xs x apart.1 (λ one. fresh (inr one)),
)

-- ---- parts that are added

-- one more part of a state
pub parts_more : (component : ℕ) (kind : Kind) (by : Fold) (n : ℕ) (first before after : List PartPlan) → after ≡ before ++ part_by component kind by n ∷ [] → before ≡ first ++ map (part_by component kind by) (range_with_len 0 n)
    → after ≡ first ++ map (part_by component kind by) (range_with_len 0 (n + 1))
parts_more component kind by n first before after now was =
    now ∙ ap (λ (ps : List PartPlan). ps ++ part_by component kind by n ∷ []) was
    ∙ append_assoc first (map (part_by component kind by) (range_with_len 0 n)) (part_by component kind by n ∷ [])
    ∙ ap (λ (ps : List PartPlan). first ++ ps) (sym (map-range_with_len_more (part_by component kind by) 0 n n (omega arith)))

-- the next part of a state is none of those before
pub fresh_part : (component : ℕ) (kind : Kind) (by : Fold) (n : ℕ) (first before : List PartPlan) → ((p : ℕ) → IsOneOf first component p → ⊥) → before ≡ first ++ map (part_by component kind by) (range_with_len 0 n)
    → IsOneOf before component n → ⊥
fresh_part component kind by n first before fresh was one =
    ⊎_elim (λ (front : IsOneOf first component n). fresh n front)
    (λ (back : IsOneOf (map (part_by component kind by) (range_with_len 0 n)) component n). not_past component kind by 0 n n (omega arith) back)
    (one_of_append first (map (part_by component kind by) (range_with_len 0 n)) component n (subst (λ (ps : List PartPlan). IsOneOf ps component n) was one))

one_more : (n : ℕ) → range_with_len 0 (n + 1) ≡ range_with_len 0 n ++ n ∷ []
one_more n = sym (map-id (range_with_len 0 (n + 1))) ∙ map-range_with_len_more (λ (k : ℕ). k) 0 n n (omega arith) ∙ ap (λ (ks : List ℕ). ks ++ n ∷ []) (map-id (range_with_len 0 n))

-- the parts of one more component
pub below_more : (t : Topology) (n : ℕ) (component : Component) (before after : List PartPlan) → slice_get t.components n ≡ Some component → after ≡ before ++ parts_by n component.tasks component.body → before ≡ parts_below t n
    → after ≡ parts_below t (n + 1)
below_more t n component before after there now was =
    let at : parts_at t n ≡ parts_by n component.tasks component.body = ap (λ (o : Option Component). option_map_or (λ (c : Component). parts_by n c.tasks c.body) o []) there in
    now ∙ ap (λ (ps : List PartPlan). ps ++ parts_by n component.tasks component.body) was
    ∙ ap (λ (ps : List PartPlan). parts_below t n ++ ps) (sym (append-nil (parts_at t n) ∙ at))
    ∙ sym (ap (flat_map (parts_at t)) (one_more n) ∙ flat_map-append (parts_at t) (range_with_len 0 n) (n ∷ []))

pub indexed_step : (firsts new : List ℕ) (count number tasks : ℕ) (body : Body) (before after : List PartPlan) → new ≡ firsts ++ count ∷ [] → count ≡ length before → length firsts ≡ number → after ≡ before ++ parts_by number tasks body
    → AreIndexed firsts 0 before → AreIndexed new 0 after
indexed_step firsts new count number tasks body before after pushed counted long added indexed =
    let whole : new ≡ firsts ++ length before ∷ [] = pushed ∙ ap (λ (k : ℕ). firsts ++ k ∷ []) counted in
    subst (λ (fs : List ℕ). AreIndexed fs 0 after) (sym whole)
    (subst (λ (ps : List PartPlan). AreIndexed (firsts ++ length before ∷ []) 0 ps) (sym added) (indexed_more firsts before number tasks body long indexed))

-- ---- the search for a part

module _ (firsts : List ℕ) (xs : List PartPlan) (indexed : AreIndexed firsts 0 xs) (c p : ℕ) where
  pub not_placed : ((i : ℕ) → i < 2 ^ 64 → place_by firsts c p ≡ Some i → ⊥) → length xs < 2 ^ 64 → IsOneOf xs c p → ⊥
  not_placed none few one =
      let r = place_of_one firsts 0 xs c p indexed one in
      let within : r.place < length xs = slice_get_within xs r.place r.at r.there in
      none (0 + r.place) (omega arith) r.is

  pub past_end : (place : ℕ) → place_by firsts c p ≡ Some place → length xs ≤ place → IsOneOf xs c p → ⊥
  past_end place at past one =
      let r = place_of_one firsts 0 xs c p indexed one in
      let within : r.place < length xs = slice_get_within xs r.place r.at r.there in
      let same : place ≡ 0 + r.place = same_Some place (0 + r.place) (sym at ∙ r.is) in
      omega arith

  pub other_there : (place : ℕ) (x : PartPlan) → place_by firsts c p ≡ Some place → slice_get xs place ≡ Some x → ((c ≡ x.component) × (p ≡ x.part) → ⊥) → IsOneOf xs c p → ⊥
  other_there place x at there other one =
      let r = place_of_one firsts 0 xs c p indexed one in
      let same : place ≡ r.place = (let e : place ≡ 0 + r.place = same_Some place (0 + r.place) (sym at ∙ r.is) in omega arith) in
      let here : x ≡ r.at = same_Some x r.at (sym there ∙ ap (slice_get xs) same ∙ r.there) in
      other (r.component_is ∙ ap (λ (y : PartPlan). y.component) (sym here), r.part_is ∙ ap (λ (y : PartPlan). y.part) (sym here))

  pub found_there : (place : ℕ) (x : PartPlan) → slice_get xs place ≡ Some x → x.component ≡ c → x.part ≡ p → IsFound xs c p place
  found_there place x there one two =
      subst (λ (n : ℕ). IsFound xs c n place) two (subst (λ (n : ℕ). IsFound xs n x.part place) one (indexed_found firsts 0 xs place x indexed there))

pub on_none : {T P : Type 0} (o : Option T) → P → IfNone o P
on_none None p = p
on_none (Some x) p = tt
