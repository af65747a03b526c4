-- The planned parts are those of the states.
use Rattle.std.proofs.Common.{◌≡◌, ◌+◌, ◌≤◌, ◌<◌, ◌⊎◌, inl, inr, ⊎_elim, ℕ, zero, suc, List, [], ◌∷◌, ◌++◌, length, map, Option, None, Some, slice_get, refl, sym, ap, subst, ◌∙◌, arith}
use Rattle.std.proofs.lemmas.Bool.{cases_eq}
use Rattle.std.proofs.lemmas.Option.{none-some, same_Some, slice_get_within}
use Rattle.std.specs.List.{flat_map, range_with_len}
use Rattle.std.specs.Option.{option_map_or}
use Rattle.state_parts.specs.declared.parts.StatePart.{StatePart}
use Rattle.state_parts.specs.PartPlans.{AreParts, IsOneOf, PartPlan, part_by, parts_at, parts_by, planned_parts, plans_of}
use Rattle.tuple_account.specs.topology_plan.declared.parts.Body.{Body}
use Rattle.tuple_account.specs.topology_plan.declared.parts.Body.TheVariants.{Bolt, State}
use Rattle.tuple_account.specs.topology_plan.declared.parts.Component.{Component}
use Rattle.tuple_account.specs.topology_plan.declared.parts.Fold.{Fold}
use Rattle.tuple_account.specs.topology_plan.declared.parts.Kind.{Kind}
use Rattle.tuple_account.specs.topology_plan.Topology.{Topology}
use Rattle.tuple_account.specs.Ends.{IsPart, IsState}

-- ---- one of some parts

one_of_either : (xs ys : List PartPlan) (c p : ℕ) → IsOneOf (xs ++ ys) c p → IsOneOf xs c p ⊎ IsOneOf ys c p
one_of_either [] ys c p one = inr one
one_of_either (x ∷ xs) ys c p (inl here) = inl (inl here)
one_of_either (x ∷ xs) ys c p (inr later) = ⊎_elim (λ (front : IsOneOf xs c p). inl (inr front)) (λ (back : IsOneOf ys c p). inr back) (one_of_either xs ys c p later)

one_of_state : (number : ℕ) (kind : Kind) (by : Fold) (a n c p : ℕ) → IsOneOf (map (part_by number kind by) (range_with_len a n)) c p → (c ≡ number) × (a ≤ p) × (p < a + n)
one_of_state number kind by a zero c p one = absurd one
one_of_state number kind by a (suc n) c p (inl here) = (here.0, omega arith, omega arith)
one_of_state number kind by a (suc n) c p (inr later) = let rest = one_of_state number kind by (a + 1) n c p later in (rest.0, omega arith, omega arith)

one_of_body : (number tasks : ℕ) (body : Body) (c p : ℕ) → IsOneOf (parts_by number tasks body) c p → (c ≡ number) × IsState body × (p < tasks)
one_of_body number tasks (Bolt op) c p one = absurd one
one_of_body number tasks (State spec) c p one = let found = one_of_state number spec.kind spec.fold 0 tasks c p one in (found.0, tt, omega arith)

module _ (t : Topology) where
  one_of_component : (number c p : ℕ) → IsOneOf (parts_at t number) c p → (c ≡ number) × IsPart t c p
  one_of_component number c p one = cases (slice_get t.components number) refl one
    where
      cases : (o : Option Component) → slice_get t.components number ≡ o → IsOneOf (option_map_or (λ (component : Component). parts_by number component.tasks component.body) o []) c p → (c ≡ number) × IsPart t c p
      cases None there one = absurd one
      cases (Some component) there one =
          let found = one_of_body number component.tasks component.body c p one in
          (found.0, (component, ap (slice_get t.components) found.0 ∙ there, found.1, found.2))

  one_of_below : (a n c p : ℕ) → IsOneOf (flat_map (parts_at t) (range_with_len a n)) c p → (a ≤ c) × IsPart t c p
  one_of_below a zero c p one = absurd one
  one_of_below a (suc n) c p one =
      ⊎_elim (λ (here : IsOneOf (parts_at t a) c p). let found = one_of_component a c p here in let low : a ≤ c = (let same = found.0 in omega arith) in (low, found.1))
      (λ (later : IsOneOf (flat_map (parts_at t) (range_with_len (a + 1) n)) c p). let found = one_of_below (a + 1) n c p later in let low : a ≤ c = (let below = found.0 in omega arith) in (low, found.1))
      (one_of_either (parts_at t a) (flat_map (parts_at t) (range_with_len (a + 1) n)) c p one)

  -- a planned part is one of a state
  pub planned_is_part : (c p : ℕ) → IsOneOf (planned_parts t) c p → IsPart t c p
  planned_is_part c p one = (one_of_below 0 (length t.components) c p one).1

-- ---- each part of a state is planned

one_of_left : (xs ys : List PartPlan) (c p : ℕ) → IsOneOf xs c p → IsOneOf (xs ++ ys) c p
one_of_left [] ys c p one = absurd one
one_of_left (x ∷ xs) ys c p (inl here) = inl here
one_of_left (x ∷ xs) ys c p (inr later) = inr (one_of_left xs ys c p later)

one_of_right : (xs ys : List PartPlan) (c p : ℕ) → IsOneOf ys c p → IsOneOf (xs ++ ys) c p
one_of_right [] ys c p one = one
one_of_right (x ∷ xs) ys c p one = inr (one_of_right xs ys c p one)

in_state : (number : ℕ) (kind : Kind) (by : Fold) (a n p : ℕ) → a ≤ p → p < a + n → IsOneOf (map (part_by number kind by) (range_with_len a n)) number p
in_state number kind by a zero p low high = absurd (omega arith)
in_state number kind by a (suc n) p low high =
    ⊎_elim (λ (same : p ≡ a). inl (refl, same)) (λ (other : p ≡ a → ⊥). inr (in_state number kind by (a + 1) n p (omega arith) (omega arith))) (cases_eq p a)

in_body : (number tasks : ℕ) (body : Body) (p : ℕ) → IsState body → p < tasks → IsOneOf (parts_by number tasks body) number p
in_body number tasks (Bolt op) p state within = absurd state
in_body number tasks (State spec) p state within = in_state number spec.kind spec.fold 0 tasks p (omega arith) (omega arith)

module _ (t : Topology) where
  in_below : (c p a n : ℕ) → a ≤ c → c < a + n → IsOneOf (parts_at t c) c p → IsOneOf (flat_map (parts_at t) (range_with_len a n)) c p
  in_below c p a zero low high one = absurd (omega arith)
  in_below c p a (suc n) low high one =
      let rest = flat_map (parts_at t) (range_with_len (a + 1) n) in
      ⊎_elim (λ (same : c ≡ a). one_of_left (parts_at t a) rest c p (subst (λ (k : ℕ). IsOneOf (parts_at t k) c p) same one))
      (λ (other : c ≡ a → ⊥). one_of_right (parts_at t a) rest c p (in_below c p (a + 1) n (omega arith) (omega arith) one)) (cases_eq c a)

  -- a part of a state is planned
  pub part_is_planned : (c p : ℕ) → IsPart t c p → IsOneOf (planned_parts t) c p
  part_is_planned c p is =
      let inside : c < length t.components = slice_get_within t.components c is.0 is.1 in
      let at : parts_by c is.0.tasks is.0.body ≡ parts_at t c = ap (λ (o : Option Component). option_map_or (λ (x : Component). parts_by c x.tasks x.body) o []) (sym is.1) in
      in_below c p 0 (length t.components) (omega arith) (omega arith)
      (subst (λ (ps : List PartPlan). IsOneOf ps c p) at (in_body c is.0.tasks is.0.body p is.2 is.3))

-- ---- parts over stores

module _ {S : Type 0} where
  -- what stands at a place is one of the parts
  pub one_at : (xs : List (StatePart S)) (place : ℕ) (at : StatePart S) → slice_get xs place ≡ Some at → IsOneOf (plans_of xs) at.component at.part
  one_at [] place at there = absurd (none-some at there)
  one_at (x ∷ xs) zero at there =
      let same = same_Some x at there in
      inl (ap (λ (y : StatePart S). y.component) (sym same), ap (λ (y : StatePart S). y.part) (sym same))
  one_at (x ∷ xs) (suc place) at there = inr (one_at xs place at there)

  -- each part of a state is one of the parts
  pub part_stands : (t : Topology) (xs : List (StatePart S)) (c p : ℕ) → AreParts t xs → IsPart t c p → IsOneOf (plans_of xs) c p
  part_stands t xs c p planned is = subst (λ (ps : List PartPlan). IsOneOf ps c p) (sym planned) (part_is_planned t c p is)
