-- Where parts stand, the values of their keys together are those of all writes.
use Rattle.std.proofs.Common.{◌≡◌, ◌+◌, ◌≤◌, ◌<◌, ◌%◌, ◌==◌, ◌&&◌, ◌⊎◌, inl, inr, ⊎_elim, ℕ, ℤ, zero, suc, Bool, true, false, cond, List, [], ◌∷◌, ◌++◌, length, map, filter, Contains, Option, None, Some, IfSome, slice_get, refl, sym, ap, subst, ◌∙◌, eq-eqb, ne_eqb, arith}
use Rattle.std.proofs.lemmas.Bool.{cases_eq}
use Rattle.std.proofs.lemmas.List.Elements.{All-contains, All-head, All-tail}
use Rattle.std.proofs.lemmas.Option.{none-some, same_Some, slice_get_within}
use Rattle.std.specs.List.{AllZip, cons_option, filter_map, flat_map, range_with_len}
use Rattle.std.specs.Option.{option_and_then, option_map_or, option_or}
use Rattle.std.specs.Str.{bytes_eq}
use Rattle.std.specs.Cmp.Lexicographic.{bytes_decides}
use Rattle.tree_model.specs.bolt_ops.RowOp.{Custom}
use Rattle.tree_model.specs.storm_values.Keys.{hash_of}
use Rattle.storm_stores.specs.CellMaps.{CellMap, cell_at}
use Rattle.tree_model.specs.topology_plan.declared.parts.Body.{Body}
use Rattle.tree_model.specs.topology_plan.declared.parts.Body.TheVariants.{Bolt, State}
use Rattle.tree_model.specs.topology_plan.declared.parts.Component.{Component}
use Rattle.tree_model.specs.topology_plan.declared.parts.StateSpec.{StateSpec}
use Rattle.tree_model.specs.topology_plan.declared.parts.Fold.{Fold}
use Rattle.tree_model.specs.topology_plan.declared.parts.Kind.{Kind}
use Rattle.tree_model.specs.topology_plan.Topology.{Topology, tasks_of}
use Rattle.tree_model.specs.topology_plan.Wired.{IsComponent, IsWired}
use Rattle.tree_model.specs.declared.write.Table.{Table}
use Rattle.tree_model.specs.declared.write.Write.{Write}
use Rattle.tree_model.specs.Tables.{Folding, folded, AreTables, IsTableOf, StateOf, amounts_of, base, state_at, state_by, states_of}
use Rattle.cell_format.specs.Commits.{Holds, amounts_at, value_after}
use Rattle.cell_format.specs.Standing.{CellStands, IsKeyOf, KeyStands}
use Rattle.cell_format.specs.declared.cell.Cell.{Cell}
use Rattle.cell_format.proofs.LayoutLemmas.{read_of-bytes}
use Rattle.state_cells.specs.Rows.{value_in}
use Rattle.state_parts.specs.declared.parts.StatePart.{StatePart}
use Rattle.state_parts.specs.Commits.{is_for_part, own_writes}
use Rattle.state_parts.specs.PartPlans.{AreParts, PartPlan, part_by, parts_at, parts_by, planned_parts, plans_of}
use Rattle.state_parts.specs.PartTables.{IsTableOver, Tell, components_of, value_among, value_for}
use Rattle.state_parts.specs.Standing.{AllAreAt, ArePlaced, HaveOnePart, IsPlaced, PartIsAt}
use Rattle.state_parts.proofs.StandingLemmas.{for_numbers}

-- ---- items of a list

abbrev IsIn : {X : Type 0} → X → List X → Type 0
IsIn x [] = ⊥
IsIn x (y ∷ ys) = (x ≡ y) ⊎ IsIn x ys

in_contains : {X : Type 0} (x : X) (xs : List X) → IsIn x xs → Contains xs x
in_contains x [] is = absurd is
in_contains x (y ∷ ys) (inl same) = (0, omega arith, sym same)
in_contains x (y ∷ ys) (inr later) = let r = in_contains x ys later in (suc r.0, (let below = r.1 in omega arith), r.2)

in_left : {X : Type 0} (x : X) (xs ys : List X) → IsIn x xs → IsIn x (xs ++ ys)
in_left x [] ys is = absurd is
in_left x (z ∷ xs) ys (inl same) = inl same
in_left x (z ∷ xs) ys (inr later) = inr (in_left x xs ys later)

in_right : {X : Type 0} (x : X) (xs ys : List X) → IsIn x ys → IsIn x (xs ++ ys)
in_right x [] ys is = is
in_right x (z ∷ xs) ys is = inr (in_right x xs ys is)

in_either : {X : Type 0} (x : X) (xs ys : List X) → IsIn x (xs ++ ys) → IsIn x xs ⊎ IsIn x ys
in_either x [] ys is = inr is
in_either x (z ∷ xs) ys (inl same) = inl (inl same)
in_either x (z ∷ xs) ys (inr later) = ⊎_elim (λ front. inl (inr front)) (λ back. inr back) (in_either x xs ys later)

zip_weaker : {A B : Type 0} (R Q : A → B → Type 0) (xs : List A) (ys : List B) → ((x : A) (y : B) → IsIn x xs → R x y → Q x y) → AllZip R xs ys → AllZip Q xs ys
zip_weaker R Q [] [] step all = tt
zip_weaker R Q [] (y ∷ ys) step all = absurd all
zip_weaker R Q (x ∷ xs) [] step all = absurd all
zip_weaker R Q (x ∷ xs) (y ∷ ys) step all = (step x y (inl refl) all.0, zip_weaker R Q xs ys (λ a b later. step a b (inr later)) all.1)

-- ---- the planned parts of a state

-- what a planned part says of its component
record IsOfState (t : Topology) (p : PartPlan) : Type 0 where
  component : Component
  spec : StateSpec
  there : slice_get t.components p.component ≡ Some component
  body : component.body ≡ State spec
  by_is : p.by ≡ spec.fold

in_state : (number : ℕ) (kind : Kind) (by : Fold) (a n : ℕ) (p : PartPlan) → IsIn p (map (part_by number kind by) (range_with_len a n)) → (p.component ≡ number) × (p.by ≡ by)
in_state number kind by a zero p is = absurd is
in_state number kind by a (suc n) p (inl same) = (ap (λ (q : PartPlan). q.component) same, ap (λ (q : PartPlan). q.by) same)
in_state number kind by a (suc n) p (inr later) = in_state number kind by (a + 1) n p later

in_body : (t : Topology) (number : ℕ) (component : Component) (body : Body) (p : PartPlan) → slice_get t.components number ≡ Some component → component.body ≡ body → IsIn p (parts_by number component.tasks body) → IsOfState t p
in_body t number component (Bolt op) p there same is = absurd is
in_body t number component (State spec) p there same is =
    let both = in_state number spec.kind spec.fold 0 component.tasks p is in
    record { component = component; spec = spec; there = ap (slice_get t.components) both.0 ∙ there; body = same; by_is = both.1 }

in_component : (t : Topology) (number : ℕ) (p : PartPlan) → IsIn p (parts_at t number) → IsOfState t p
in_component t number p is = cases (slice_get t.components number) refl is
  where
    cases : (o : Option Component) → slice_get t.components number ≡ o → IsIn p (option_map_or (λ (component : Component). parts_by number component.tasks component.body) o []) → IsOfState t p
    cases None there is = absurd is
    cases (Some component) there is = in_body t number component component.body p there refl is

in_planned : (t : Topology) (a n : ℕ) (p : PartPlan) → IsIn p (flat_map (parts_at t) (range_with_len a n)) → IsOfState t p
in_planned t a zero p is = absurd is
in_planned t a (suc n) p is =
    ⊎_elim (λ (here : IsIn p (parts_at t a)). in_component t a p here) (λ (later : IsIn p (flat_map (parts_at t) (range_with_len (a + 1) n))). in_planned t (a + 1) n p later)
    (in_either p (parts_at t a) (flat_map (parts_at t) (range_with_len (a + 1) n)) is)

has_part : (number : ℕ) (kind : Kind) (by : Fold) (a n part : ℕ) → a ≤ part → part < a + n → IsIn (part_by number kind by part) (map (part_by number kind by) (range_with_len a n))
has_part number kind by a zero part low high = absurd (omega arith)
has_part number kind by a (suc n) part low high =
    ⊎_elim (λ (same : part ≡ a). inl (ap (part_by number kind by) same)) (λ (other : part ≡ a → ⊥). inr (has_part number kind by (a + 1) n part (omega arith) (omega arith))) (cases_eq part a)

has_component : (t : Topology) (p : PartPlan) (c a n : ℕ) → a ≤ c → c < a + n → IsIn p (parts_at t c) → IsIn p (flat_map (parts_at t) (range_with_len a n))
has_component t p c a zero low high is = absurd (omega arith)
has_component t p c a (suc n) low high is =
    ⊎_elim (λ (same : c ≡ a). in_left p (parts_at t a) (flat_map (parts_at t) (range_with_len (a + 1) n)) (subst (λ (k : ℕ). IsIn p (parts_at t k)) same is))
    (λ (other : c ≡ a → ⊥). in_right p (parts_at t a) (flat_map (parts_at t) (range_with_len (a + 1) n)) (has_component t p c (a + 1) n (omega arith) (omega arith) is))
    (cases_eq c a)

-- a state has each part with a number below its tasks
has_planned : (t : Topology) (c part : ℕ) (component : Component) (spec : StateSpec) → slice_get t.components c ≡ Some component → component.body ≡ State spec → part < component.tasks
    → IsIn (part_by c spec.kind spec.fold part) (planned_parts t)
has_planned t c part component spec there body within =
    let at : parts_at t c ≡ map (part_by c spec.kind spec.fold) (range_with_len 0 component.tasks) =
    ap (λ (o : Option Component). option_map_or (λ (x : Component). parts_by c x.tasks x.body) o []) there ∙ ap (parts_by c component.tasks) body in
    let inside : c < length t.components = slice_get_within t.components c component there in
    has_component t (part_by c spec.kind spec.fold part) c 0 (length t.components) (omega arith) (omega arith)
    (subst (λ (ps : List PartPlan). IsIn (part_by c spec.kind spec.fold part) ps) (sym at) (has_part c spec.kind spec.fold 0 component.tasks part (omega arith) (omega arith)))

-- ---- writes for a key

bytes_yes : (xs ys : List ℕ) → xs ≡ ys → bytes_eq xs ys ≡ true
bytes_yes xs ys same = (bytes_decides xs ys).1 same

bytes_no : (xs ys : List ℕ) → (xs ≡ ys → ⊥) → bytes_eq xs ys ≡ false
bytes_no xs ys other = cases (bytes_eq xs ys) refl
  where
    cases : (b : Bool) → bytes_eq xs ys ≡ b → b ≡ false
    cases true is = absurd (other ((bytes_decides xs ys).0 is))
    cases false is = refl

bytes_either : (xs ys : List ℕ) → (xs ≡ ys) ⊎ (xs ≡ ys → ⊥)
bytes_either xs ys = cases (bytes_eq xs ys) refl
  where
    cases : (b : Bool) → bytes_eq xs ys ≡ b → (xs ≡ ys) ⊎ (xs ≡ ys → ⊥)
    cases true is = inl ((bytes_decides xs ys).0 is)
    cases false is = inr (λ same. let yes_it_is : bytes_eq xs ys ≡ true = bytes_yes xs ys same in cc)

-- a write for the key of the state
record IsWriteOf (done : List Write) (c : ℕ) (key : List ℕ) (write : Write) : Type 0 where
  there : IsIn write done
  state : write.state ≡ c
  key_is : write.key ≡ key

module _ (c : ℕ) (key : List ℕ) where
  later_write : (write : Write) (writes : List Write) (w : Write) → IsWriteOf writes c key w → IsWriteOf (write ∷ writes) c key w
  later_write write writes w is = record { there = inr is.there; state = is.state; key_is = is.key_is }

  -- nothing is written for the key, or some write is for it
  some_write : (done : List Write) → (amounts_of done c key ≡ []) ⊎ ((w : Write) × IsWriteOf done c key w)
  some_write [] = inl refl
  some_write (write ∷ writes) = cases (cases_eq write.state c) (bytes_either write.key key) (some_write writes)
    where
      rest : ((write.state == c) && bytes_eq write.key key) ≡ false → (amounts_of writes c key ≡ []) ⊎ ((w : Write) × IsWriteOf writes c key w) → (amounts_of (write ∷ writes) c key ≡ []) ⊎ ((w : Write) × IsWriteOf (write ∷ writes) c key w)
      rest not (inl none) =
          inl (ap (λ (b : Bool). map (λ (w : Write). w.amount) (cond b (write ∷ filter (λ (w : Write). (w.state == c) && bytes_eq w.key key) writes) (filter (λ (w : Write). (w.state == c) && bytes_eq w.key key) writes))) not ∙ none)
      rest not (inr some) = inr (some.0, later_write write writes some.0 some.1)

      cases : (write.state ≡ c) ⊎ (write.state ≡ c → ⊥) → (write.key ≡ key) ⊎ (write.key ≡ key → ⊥) → (amounts_of writes c key ≡ []) ⊎ ((w : Write) × IsWriteOf writes c key w)
          → (amounts_of (write ∷ writes) c key ≡ []) ⊎ ((w : Write) × IsWriteOf (write ∷ writes) c key w)
      cases (inl state) (inl same) later = inr (write, record { there = inl refl; state = state; key_is = same })
      cases (inl state) (inr other) later = rest (let a = eq-eqb write.state c state in let b = bytes_no write.key key other in rw (a, b) refl) later
      cases (inr other) same later = rest (let a = ne_eqb write.state c other in rw a refl) later

  -- a part has no write for the key, or some write
  own_write : (part : ℕ) (done : List Write) → (amounts_at (filter (is_for_part c part) done) key ≡ []) ⊎ ((w : Write) × IsWriteOf done c key w × (w.part ≡ part))
  own_write part [] = inl refl
  own_write part (write ∷ writes) = cases (is_for_part c part write) refl (own_write part writes)
    where
      later : (amounts_at (filter (is_for_part c part) writes) key ≡ []) ⊎ ((w : Write) × IsWriteOf writes c key w × (w.part ≡ part))
          → (amounts_at (filter (is_for_part c part) writes) key ≡ []) ⊎ ((w : Write) × IsWriteOf (write ∷ writes) c key w × (w.part ≡ part))
      later (inl none) = inl none
      later (inr some) = inr (some.0, later_write write writes some.0 some.1, some.2)

      among : (b : Bool) → bytes_eq key write.key ≡ b → is_for_part c part write ≡ true → (amounts_at (filter (is_for_part c part) writes) key ≡ []) ⊎ ((w : Write) × IsWriteOf writes c key w × (w.part ≡ part))
          → (map (λ (w : Write). w.amount) (cond b (write ∷ filter (λ (w : Write). bytes_eq key w.key) (filter (is_for_part c part) writes)) (filter (λ (w : Write). bytes_eq key w.key) (filter (is_for_part c part) writes))) ≡ []) ⊎ ((w : Write) × IsWriteOf (write ∷ writes) c key w × (w.part ≡ part))
      among true is own rest =
          let numbers = for_numbers c part write own in
          inr (write, record { there = inl refl; state = numbers.0; key_is = sym ((bytes_decides key write.key).0 is) }, numbers.1)
      among false is own rest = later rest

      cases : (b : Bool) → is_for_part c part write ≡ b → (amounts_at (filter (is_for_part c part) writes) key ≡ []) ⊎ ((w : Write) × IsWriteOf writes c key w × (w.part ≡ part))
          → (amounts_at (cond b (write ∷ filter (is_for_part c part) writes) (filter (is_for_part c part) writes)) key ≡ []) ⊎ ((w : Write) × IsWriteOf (write ∷ writes) c key w × (w.part ≡ part))
      cases true is rest = among (bytes_eq key write.key) refl is rest
      cases false is rest = later rest

  -- where all writes for the key are in one part, that part has all its amounts
  all_own : (part : ℕ) (done : List Write) → ((w : Write) → IsWriteOf done c key w → w.part ≡ part) → amounts_at (filter (is_for_part c part) done) key ≡ amounts_of done c key
  all_own part [] one = refl
  all_own part (write ∷ writes) one = cases (cases_eq write.state c) (bytes_either write.key key) (all_own part writes (λ w is. one w (later_write write writes w is)))
    where
      out_of : (b : Bool) → bytes_eq key write.key ≡ false → amounts_at (cond b (write ∷ filter (is_for_part c part) writes) (filter (is_for_part c part) writes)) key ≡ amounts_at (filter (is_for_part c part) writes) key
      out_of true not =
          ap (λ (b : Bool). map (λ (w : Write). w.amount) (cond b (write ∷ filter (λ (w : Write). bytes_eq key w.key) (filter (is_for_part c part) writes)) (filter (λ (w : Write). bytes_eq key w.key) (filter (is_for_part c part) writes)))) not
      out_of false not = refl

      unlisted : ((write.state == c) && bytes_eq write.key key) ≡ false → amounts_of (write ∷ writes) c key ≡ amounts_of writes c key
      unlisted not =
          ap (λ (b : Bool). map (λ (w : Write). w.amount) (cond b (write ∷ filter (λ (w : Write). (w.state == c) && bytes_eq w.key key) writes) (filter (λ (w : Write). (w.state == c) && bytes_eq w.key key) writes))) not

      cases : (write.state ≡ c) ⊎ (write.state ≡ c → ⊥) → (write.key ≡ key) ⊎ (write.key ≡ key → ⊥) → amounts_at (filter (is_for_part c part) writes) key ≡ amounts_of writes c key → amounts_at (filter (is_for_part c part) (write ∷ writes)) key ≡ amounts_of (write ∷ writes) c key
      cases (inl state) (inl same) rest =
          let place : write.part ≡ part = one write (record { there = inl refl; state = state; key_is = same }) in
          let a : (write.state == c) ≡ true = eq-eqb write.state c state in
          let b : (write.part == part) ≡ true = eq-eqb write.part part place in
          let d : bytes_eq key write.key ≡ true = bytes_yes key write.key (sym same) in
          let e : bytes_eq write.key key ≡ true = bytes_yes write.key key same in
          rw (a, b, d, e) (ap (λ (xs : List ℤ). write.amount ∷ xs) rest)
      cases (inl state) (inr other) rest =
          let d : bytes_eq key write.key ≡ false = bytes_no key write.key (λ same. other (sym same)) in
          let e : bytes_eq write.key key ≡ false = bytes_no write.key key other in
          let a : (write.state == c) ≡ true = eq-eqb write.state c state in
          out_of (is_for_part c part write) d ∙ rest ∙ sym (unlisted (rw (a, e) refl))
      cases (inr other) same rest =
          let a : (write.state == c) ≡ false = ne_eqb write.state c other in
          let not : is_for_part c part write ≡ false = rw a refl in
          ap (λ (b : Bool). amounts_at (cond b (write ∷ filter (is_for_part c part) writes) (filter (is_for_part c part) writes)) key) not ∙ rest ∙ sym (unlisted (rw a refl))

-- ---- what parts have together

or_case : (a b v : Option ℤ) → (a ≡ None) ⊎ (a ≡ v) → (b ≡ None) ⊎ (b ≡ v) → (option_or a b ≡ None) ⊎ (option_or a b ≡ v)
or_case None b v one two = two
or_case (Some x) b v (inl none) two = absurd (none-some x (sym none))
or_case (Some x) b v (inr is) two = inr is

or_rest : (a b v : Option ℤ) → a ≡ v → (b ≡ None) ⊎ (b ≡ v) → option_or a b ≡ v
or_rest None b v is (inl none) = none ∙ is
or_rest None b v is (inr same) = same
or_rest (Some x) b v is two = is

or_here : (a b v : Option ℤ) → (a ≡ None) ⊎ (a ≡ v) → b ≡ v → option_or a b ≡ v
or_here None b v one is = is
or_here (Some x) b v (inl none) is = absurd (none-some x (sym none))
or_here (Some x) b v (inr same) is = same

module _ (custom : Custom) (done : List Write) (c : ℕ) (key : List ℕ) where
  -- what a part of the state has for the key
  abbrev has : PartPlan → Option ℤ
  has p = cond (p.component == c) (value_after (folded custom p.by) (amounts_at (filter (is_for_part p.component p.part) done) key) None) None

  abbrev together : List PartPlan → Option ℤ
  together [] = None
  together (p ∷ ps) = option_or (together ps) (has p)

  at_most : (v : Option ℤ) (ps : List PartPlan) → ((p : PartPlan) → IsIn p ps → (has p ≡ None) ⊎ (has p ≡ v)) → (together ps ≡ None) ⊎ (together ps ≡ v)
  at_most v [] each = inl refl
  at_most v (p ∷ ps) each = or_case (together ps) (has p) v (at_most v ps (λ q later. each q (inr later))) (each p (inl refl))

  reached : (v : Option ℤ) (ps : List PartPlan) (q : PartPlan) → ((p : PartPlan) → IsIn p ps → (has p ≡ None) ⊎ (has p ≡ v)) → IsIn q ps → has q ≡ v → together ps ≡ v
  reached v [] q each is at = absurd is
  reached v (p ∷ ps) q each (inl same) at = or_here (together ps) (has p) v (at_most v ps (λ r later. each r (inr later))) (ap has (sym same) ∙ at)
  reached v (p ∷ ps) q each (inr later) at = or_rest (together ps) (has p) v (reached v ps q (λ r is. each r (inr is)) later at) (each p (inl refl))

component_at : (t : Topology) (c : ℕ) (component : Component) (o : Option Component) → IfSome o (IsComponent t c) → o ≡ Some component → IsComponent t c component
component_at t c component None is at = absurd (none-some component at)
component_at t c component (Some x) is at = subst (λ (k : Component). IsComponent t c k) (same_Some x component at) is

below : (h parts part tasks : ℕ) → h % parts ≡ part → parts ≡ tasks → 1 ≤ tasks → part < tasks
below h parts part tasks is same least = let positive : 0 < parts = omega arith in omega arith

-- the planned parts of a topology have together what is written for a key of a state
module _ (t : Topology) (custom : Custom) (done : List Write) (wired : IsWired t) (placed : ArePlaced t done) (one : HaveOnePart done) (c : ℕ) (key : List ℕ) (component : Component) (spec : StateSpec) (there : slice_get t.components c ≡ Some component) (body : component.body ≡ State spec) where
  of_one : (w : Write) → IsWriteOf done c key w → (u : Write) → IsWriteOf done c key u → u.part ≡ w.part
  of_one w w_is u u_is = one u w (in_contains u done u_is.there) (in_contains w done w_is.there) (u_is.state ∙ sym w_is.state) (u_is.key_is ∙ sym w_is.key_is)

  has_all : (part : ℕ) (w : Write) → IsWriteOf done c key w → w.part ≡ part → amounts_at (filter (is_for_part c part) done) key ≡ amounts_of done c key
  has_all part w is at = all_own c key part done (λ u u_is. of_one w is u u_is ∙ at)

  each_part : (p : PartPlan) → IsIn p (planned_parts t) → (has custom done c key p ≡ None) ⊎ (has custom done c key p ≡ base (folded custom spec.fold) done c key)
  each_part p is = ⊎_elim own other (cases_eq p.component c)
    where
      other : (p.component ≡ c → ⊥) → (has custom done c key p ≡ None) ⊎ (has custom done c key p ≡ base (folded custom spec.fold) done c key)
      other differs = inl (let apart : (p.component == c) ≡ false = ne_eqb p.component c differs in rw apart refl)

      by_is : p.component ≡ c → p.by ≡ spec.fold
      by_is same =
          let from = in_planned t 0 (length t.components) p is in
          let first : from.component ≡ component = same_Some from.component component (sym from.there ∙ ap (slice_get t.components) same ∙ there) in
          let bodies : ◌≡◌ {A = Body} (State from.spec) (State spec) = sym from.body ∙ ap (λ (x : Component). x.body) first ∙ body in
          let specs : from.spec ≡ spec = cc in
          from.by_is ∙ ap (λ (s : StateSpec). s.fold) specs

      value : p.component ≡ c → has custom done c key p ≡ value_after (folded custom spec.fold) (amounts_at (filter (is_for_part c p.part) done) key) None
      value same =
          let here : (p.component == c) ≡ true = eq-eqb p.component c same in
          ap (λ (b : Bool). cond b (value_after (folded custom p.by) (amounts_at (filter (is_for_part p.component p.part) done) key) None) None) here
          ∙ ap (λ (f : Fold). value_after (folded custom f) (amounts_at (filter (is_for_part p.component p.part) done) key) None) (by_is same)
          ∙ ap (λ (n : ℕ). value_after (folded custom spec.fold) (amounts_at (filter (is_for_part n p.part) done) key) None) same

      own : p.component ≡ c → (has custom done c key p ≡ None) ⊎ (has custom done c key p ≡ base (folded custom spec.fold) done c key)
      own same =
          ⊎_elim (λ (none : amounts_at (filter (is_for_part c p.part) done) key ≡ []). inl (value same ∙ ap (λ (amounts : List ℤ). value_after (folded custom spec.fold) amounts None) none))
          (λ (some : (w : Write) × IsWriteOf done c key w × (w.part ≡ p.part)). inr (value same ∙ ap (λ (amounts : List ℤ). value_after (folded custom spec.fold) amounts None) (has_all p.part some.0 some.1 some.2)))
          (own_write c key p.part done)

  tasks_are : tasks_of t c ≡ component.tasks
  tasks_are = ap (λ (o : Option Component). option_map_or (λ (x : Component). x.tasks) o 0) there

  pub together_is : together custom done c key (planned_parts t) ≡ base (folded custom spec.fold) done c key
  together_is = ⊎_elim none some (some_write c key done)
    where
      none : amounts_of done c key ≡ [] → together custom done c key (planned_parts t) ≡ base (folded custom spec.fold) done c key
      none empty =
          let value : base (folded custom spec.fold) done c key ≡ None = ap (λ (amounts : List ℤ). value_after (folded custom spec.fold) amounts None) empty in
          ⊎_elim (λ (no : together custom done c key (planned_parts t) ≡ None). no ∙ sym value) (λ (same : together custom done c key (planned_parts t) ≡ base (folded custom spec.fold) done c key). same)
          (at_most custom done c key (base (folded custom spec.fold) done c key) (planned_parts t) each_part)

      some : (w : Write) × IsWriteOf done c key w → together custom done c key (planned_parts t) ≡ base (folded custom spec.fold) done c key
      some found =
          let own : IsKeyOf (tasks_of t found.0.state) found.0.part found.0.key = All-contains (IsPlaced t) done found.0 placed (in_contains found.0 done found.1.there) in
          let tasks : tasks_of t found.0.state ≡ component.tasks = ap (tasks_of t) found.1.state ∙ tasks_are in
          let wide : IsComponent t c component = component_at t c component (slice_get t.components c) (wired.components c) there in
          let least : 1 ≤ component.tasks = wide.tasks.0 in
          let within : found.0.part < component.tasks = below (hash_of own.values) (tasks_of t found.0.state) found.0.part component.tasks own.place tasks least in
          let here : (c == c) ≡ true = eq-eqb c c refl in
          let value : has custom done c key (part_by c spec.kind spec.fold found.0.part) ≡ base (folded custom spec.fold) done c key =
          ap (λ (b : Bool). cond b (value_after (folded custom spec.fold) (amounts_at (filter (is_for_part c found.0.part) done) key) None) None) here
          ∙ ap (λ (amounts : List ℤ). value_after (folded custom spec.fold) amounts None) (has_all found.0.part found.0 found.1 refl) in
          reached custom done c key (base (folded custom spec.fold) done c key) (planned_parts t) (part_by c spec.kind spec.fold found.0.part) each_part (has_planned t c found.0.part component spec there body within) value

-- ---- the parts over their stores

-- the maps of the parts, and what they have for each key
record Maps {S : Type 0} (tells : S → CellMap → Type 0) (custom : Custom) (done : List Write) (parts : List (StatePart S)) : Type 0 where
  maps : List CellMap
  told : Tell tells parts maps
  values : (c : ℕ) (key : List ℕ) → value_among c (components_of parts) maps key ≡ together custom done c key (plans_of parts)

-- what a state's number says
record IsState (t : Topology) (custom : Custom) (s : StateOf) : Type 0 where
  component : Component
  spec : StateSpec
  there : slice_get t.components s.number ≡ Some component
  body : component.body ≡ State spec
  by_is : s.by ≡ folded custom spec.fold

module _ {S : Type 0} (tells : S → CellMap → Type 0) (t : Topology) (custom : Custom) (n : ℕ) (done next : List Write) where
  key_value : (kind : Kind) (by : Folding) (v : Option ℤ) (amounts : List ℤ) (held : Option (List ℕ)) → KeyStands kind by n v amounts held → ((cell : Cell) → Holds kind held (Some cell) → cell.txid ≤ n) → value_in held ≡ v
  key_value kind by v amounts held stands within = cases held stands.cell stands.is stands.stands within
    where
      cases : (h : Option (List ℕ)) (cell : Option Cell) → Holds kind h cell → CellStands kind by n v amounts cell → ((c : Cell) → Holds kind h (Some c) → c.txid ≤ n) → value_in h ≡ v
      cases None None is none low = sym none
      cases None (Some cell) is stands low = absurd is.bytes
      cases (Some bytes) None is stands low = absurd is.bytes
      cases (Some bytes) (Some cell) is (inl at) low = ap (λ (d : Cell). d.value) (read_of-bytes cell bytes is.good.is is.bytes) ∙ at.1
      cases (Some bytes) (Some cell) is (inr later) low = absurd (let small = low cell is in let high = later.0 in omega arith)

  maps_of : (parts : List (StatePart S)) → AllAreAt tells t custom n done next parts → Maps tells custom done parts
  maps_of [] are = record { maps = []; told = tt; values = λ c key. refl }
  maps_of (at ∷ parts) are =
      let rest = maps_of parts (All-tail (PartIsAt tells t custom n done next) at parts are) in
      let here = All-head (PartIsAt tells t custom n done next) at parts are in
      record {
        maps = here.cells ∷ rest.maps;
        told = (here.told, rest.told);
        values = λ c key.
            let value : value_in (cell_at here.cells key) ≡ value_after (folded custom at.over.by) (amounts_at (own_writes done at) key) None =
            key_value at.over.kind (folded custom at.over.by) (value_after (folded custom at.over.by) (amounts_at (own_writes done at) key) None) (amounts_at (own_writes next at) key) (cell_at here.cells key) (here.stands.keys key) (λ cell holds. here.within key cell holds) in
            ap (λ (o : Option ℤ). option_or o (value_for c at.component here.cells key)) (rest.values c key)
            ∙ ap (λ (o : Option ℤ). option_or (together custom done c key (plans_of parts)) (cond (at.component == c) o None)) value;
      }

  state_numbered : (a m : ℕ) (s : StateOf) → IsIn s (filter_map (state_at t custom) (range_with_len a m)) → state_at t custom s.number ≡ Some s
  state_numbered a zero s is = absurd is
  state_numbered a (suc m) s is = cases (state_at t custom a) refl is (state_numbered (a + 1) m s)
    where
      number_by : (k : ℕ) (component : Component) (body : Body) (x : StateOf) → state_by custom k component body ≡ Some x → x.number ≡ k
      number_by k component (Bolt op) x found = absurd (none-some x found)
      number_by k component (State spec) x found = ap (λ (s : StateOf). s.number) (sym (same_Some _ _ found))

      number_at : (o : Option Component) (k : ℕ) (x : StateOf) → option_and_then (λ (component : Component). state_by custom k component component.body) o ≡ Some x → x.number ≡ k
      number_at None k x found = absurd (none-some x found)
      number_at (Some component) k x found = number_by k component component.body x found

      cases : (o : Option StateOf) → state_at t custom a ≡ o → IsIn s (cons_option o (filter_map (state_at t custom) (range_with_len (a + 1) m))) → (IsIn s (filter_map (state_at t custom) (range_with_len (a + 1) m)) → state_at t custom s.number ≡ Some s) → state_at t custom s.number ≡ Some s
      cases None at is rest = rest is
      cases (Some x) at (inl same) rest = ap (state_at t custom) (ap (λ (y : StateOf). y.number) same ∙ number_at (slice_get t.components a) a x at) ∙ at ∙ ap Some (sym same)
      cases (Some x) at (inr later) rest = rest later

  state_is : (s : StateOf) → state_at t custom s.number ≡ Some s → IsState t custom s
  state_is s found = cases (slice_get t.components s.number) refl found
    where
      body_is : (component : Component) (body : Body) → slice_get t.components s.number ≡ Some component → component.body ≡ body → state_by custom s.number component body ≡ Some s → IsState t custom s
      body_is component (Bolt op) there same at = absurd (none-some s at)
      body_is component (State spec) there same at = record { component = component; spec = spec; there = there; body = same; by_is = ap (λ (x : StateOf). x.by) (sym (same_Some _ _ at)) }

      cases : (o : Option Component) → slice_get t.components s.number ≡ o → option_and_then (λ (component : Component). state_by custom s.number component component.body) o ≡ Some s → IsState t custom s
      cases None there at = absurd (none-some s at)
      cases (Some component) there at = body_is component component.body there refl at

  -- the tables of parts that stand are those of the writes
  pub tables_are : (parts : List (StatePart S)) (tables : List Table) → IsWired t → AreParts t parts → ArePlaced t done → HaveOnePart done → AllAreAt tells t custom n done next parts
      → AllZip (IsTableOver tells parts) (states_of t custom) tables → AreTables t custom done tables
  tables_are parts tables wired planned placed one are zipped = zip_weaker (IsTableOver tells parts) (IsTableOf done) (states_of t custom) tables each zipped
    where
      each : (s : StateOf) (table : Table) → IsIn s (states_of t custom) → IsTableOver tells parts s table → IsTableOf done s table
      each s table listed over =
          let of = state_is s (state_numbered 0 (length t.components) s listed) in
          record {
            name = over.name;
            pairs = record {
              ordered = over.ordered;
              values = λ key.
                  over.values (maps_of parts are).maps (maps_of parts are).told key
                  ∙ (maps_of parts are).values s.number key
                  ∙ ap (together custom done s.number key) planned
                  ∙ together_is t custom done wired placed one s.number key of.component of.spec of.there of.body
                  ∙ ap (λ (f : Folding). base f done s.number key) (sym of.by_is);
            };
          }
