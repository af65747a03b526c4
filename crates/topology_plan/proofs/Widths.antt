-- The rows that come along a subscription are as wide as the consumer's input.
use Rattle.std.proofs.Common.{◌≡◌, ℕ, zero, suc, ◌<◌, ◌≤◌, ◌==◌, nat_lt, Bool, true, false, cond, List, [], ◌∷◌, ◌++◌, length, map, filter, All, Some, IfSome, slice_get, get_or, eq-eqb, ap, sym, subst, refl, arith}
use Rattle.std.specs.List.{AllByRecursion, flat_map, range_with_len}
use Rattle.std.proofs.lemmas.Bool.Decides.{nat_tests}
use Rattle.std.proofs.lemmas.List.{length-map, get_or_past, get_or_default}
use Rattle.std.proofs.lemmas.List.FromFn.{get_or-map-range_with_len, length-range_with_len}
use Rattle.std.proofs.lemmas.List.Elements.{recursion_from_All, All-from_recursion}
use Rattle.topology_plan.specs.declared.parts.Component.{Component}
use Rattle.topology_plan.specs.declared.parts.Origin.{Origin}
use Rattle.topology_plan.specs.declared.parts.Origin.TheVariants as origin
use Rattle.topology_plan.specs.declared.parts.Sub.{Sub}
use Rattle.topology_plan.specs.Topology.{Topology, subs_of, inputs_of, origins}
use Rattle.topology_plan.specs.Valid.{IsValid}
use Rattle.topology_plan.specs.Wired.{fields_of, fields_to, IsComponent, IsWired, IsAsWide}

module _ {X : Type 0} (P : X → Type 0) where
  front : (xs ys : List X) → AllByRecursion P (xs ++ ys) → AllByRecursion P xs
  front [] ys all = tt
  front (x ∷ xs) ys all = (all.0, front xs ys all.1)

  back : (xs ys : List X) → AllByRecursion P (xs ++ ys) → AllByRecursion P ys
  back [] ys all = all
  back (x ∷ xs) ys all = back xs ys all.1

  each_part : {Y : Type 0} (f : Y → List X) (ys : List Y) → AllByRecursion P (flat_map f ys) → AllByRecursion (λ y. AllByRecursion P (f y)) ys
  each_part f [] all = tt
  each_part f (y ∷ ys) all = (front (f y) (flat_map f ys) all, each_part f ys (back (f y) (flat_map f ys) all))

  unmapped : {Y : Type 0} (f : Y → X) (ys : List Y) → AllByRecursion P (map f ys) → AllByRecursion (λ y. P (f y)) ys
  unmapped f [] all = tt
  unmapped f (y ∷ ys) all = (all.0, unmapped f ys all.1)

  kept_one : (test : X → Bool) (x : X) (xs : List X) (b : Bool) → test x ≡ b → (AllByRecursion P (filter test xs) → AllByRecursion (λ y. test y ≡ true → P y) xs)
      → AllByRecursion P (cond b (x ∷ filter test xs) (filter test xs)) → AllByRecursion (λ y. test y ≡ true → P y) (x ∷ xs)
  kept_one test x xs true is later all = (λ _. all.0, later all.1)
  kept_one test x xs false is later all = (λ passes. absurd (cc), later all)

  -- what holds of the kept items holds of each that passes the test
  kept : (test : X → Bool) (xs : List X) → AllByRecursion P (filter test xs) → AllByRecursion (λ y. test y ≡ true → P y) xs
  kept test [] all = tt
  kept test (x ∷ xs) all = kept_one test x xs (test x) refl (kept test xs) all

component_at : (components : List Component) (c : ℕ) → c < length components → (component : Component) × (slice_get components c ≡ Some component)
component_at [] c within = absurd (omega arith)
component_at (component ∷ components) zero within = (component, refl)
component_at (component ∷ components) (suc c) within = component_at components c (omega arith)

module _ (t : Topology) (valid : IsValid t) (wired : IsWired t) where
  -- a component with a subscription to its rows is there
  source_within : (c k : ℕ) → k < length (subs_of t (origin.Component c)) → c < length t.components
  source_within c k some = by_place (nat_lt c (length t.components)) refl
    where
      by_place : (b : Bool) → nat_lt c (length t.components) ≡ b → c < length t.components
      by_place true is = grind (arith, nat_tests)
      by_place false is =
          let past : length t.component_subs ≤ c = rw valid.sources (grind (arith, nat_tests)) in
          absurd (omega (arith, ap length (get_or_past t.component_subs c [] past)))

  -- what holds of the inputs of a component holds of those from a source
  inputs_from : (P : Origin × Sub → Type 0) (c : ℕ) (from : Origin) (k : ℕ) → k < length (subs_of t from) → All P (inputs_of t c)
      → AllByRecursion (λ (sub : Sub). (sub.to == c) ≡ true → P (from, sub)) (subs_of t from)
  inputs_from P c from k some all =
      kept (λ sub. P (from, sub)) (λ (sub : Sub). sub.to == c) (subs_of t from) (unmapped P (λ sub. (from, sub)) _ (part from k some))
    where
      Part : Origin → Type 0
      Part from = AllByRecursion P (map (λ sub. (from, sub)) (filter (λ (sub : Sub). sub.to == c) (subs_of t from)))

      parts : AllByRecursion Part (origins t)
      parts = each_part P (λ from. map (λ sub. (from, sub)) (filter (λ (sub : Sub). sub.to == c) (subs_of t from))) (origins t) (recursion_from_All P (inputs_of t c) all)

      part : (from : Origin) (k : ℕ) → k < length (subs_of t from) → Part from
      part origin.Spout k some = parts.0
      part (origin.Component d) k some =
          let inside : d < length t.components = source_within d k some in
          let there : d < length (map origin.Component (range_with_len 0 (length t.components))) = omega (arith, length-map {B = Origin} (range_with_len 0 (length t.components)) origin.Component, length-range_with_len 0 (length t.components)) in
          subst Part (get_or-map-range_with_len origin.Component 0 (length t.components) d d origin.Spout inside (omega arith)) (All-from_recursion Part _ parts.1 d origin.Spout there)

  fields_along : (component : Component) (from : Origin) (k : ℕ) (sub : Sub) → k < length (subs_of t from) → get_or (subs_of t from) k sub ≡ sub → IsComponent t sub.to component → fields_of t from ≡ fields_to t sub.to
  fields_along component from k sub some at is =
      let each = inputs_from (λ input. fields_of t input.0 ≡ fields_to t sub.to) sub.to from k some is.sources in
      let Q : Sub → Type 0 = λ s. (s.to == sub.to) ≡ true → fields_of t from ≡ fields_to t sub.to in
      subst Q at (All-from_recursion Q (subs_of t from) each k sub some) (eq-eqb sub.to sub.to refl)

  -- the consumer of a subscription to a source takes rows as wide as the source's
  pub as_wide : (from : Origin) → All (IsAsWide t from) (subs_of t from)
  as_wide from = λ k d below.
      let sub = get_or (subs_of t from) k d in
      let found = component_at t.components sub.to (valid.targets from k d below) in
      let is = subst (λ o. IfSome o (IsComponent t sub.to)) found.1 (wired.components sub.to) in
      ap length (sym (fields_along found.0 from k sub below (get_or_default (subs_of t from) k sub d below) is))

pub as_wide_of : (t s : Topology) (from : Origin) (subs : List Sub) → IsValid t → IsWired t → t ≡ s → subs ≡ subs_of s from → All (IsAsWide s from) subs
as_wide_of t s from subs valid wired same is =
    subst (All (IsAsWide s from)) (sym is) (subst (λ (u : Topology). All (IsAsWide u from) (subs_of u from)) same (as_wide t valid wired from))
