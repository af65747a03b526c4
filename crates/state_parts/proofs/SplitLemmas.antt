-- The writes of a batch, dealt to the parts.
use Rattle.std.proofs.Common.{IfNone, None, Option, Some, option_map, slice_get, ◌+◌, ◌≡◌, ◌<◌, ◌==◌, ◌&&◌, inl, inr, ℕ, ℤ, zero, suc, Bool, true, false, cond, List, [], ◌∷◌, ◌++◌, map, filter, length, get_or, set, refl, sym, ap, subst, take, ◌∙◌, eq-eqb, eqb-true, arith}
use Rattle.std.specs.List.{AllByRecursion}
use Rattle.std.specs.Str.{bytes_eq}
use Rattle.std.proofs.lemmas.List.{append-nil, length-map, map-append}
use Rattle.std.proofs.lemmas.List.Elements.{filter-append}
use Rattle.std.proofs.lemmas.Option.{none-some, slice_get-map, slice_get_read}
use Rattle.std.proofs.lemmas.Slice.Zip.{AllZip-long}
use Rattle.tree_model.specs.declared.write.Write.{Write}
use Rattle.cell_format.specs.Commits.{amounts_at}
use Rattle.state_cells.specs.Groups.{amounts_of}
use Rattle.state_cells.specs.declared.group.GroupedWrites.{GroupedWrites}
use Rattle.state_parts.specs.declared.parts.StatePart.{StatePart}
use Rattle.state_parts.specs.Commits.{is_for_part, own_writes}
use Rattle.state_parts.specs.Dealt.{AreDealt, IsGrouped}
use Rattle.state_parts.specs.PartPlans.{IsFound, IsOneOf, PartPlan, plan_of, plans_of}

pub for_yes : (component part : ℕ) (write : Write) → write.state ≡ component → write.part ≡ part → is_for_part component part write ≡ true
for_yes component part write one two =
    let a = eq-eqb write.state component one in
    let b = eq-eqb write.part part two in
    rw (a, b) refl

pub for_no : (component part : ℕ) (write : Write) → ((write.state ≡ component) × (write.part ≡ part) → ⊥) → is_for_part component part write ≡ false
for_no component part write other = cases (write.state == component) refl (write.part == part) refl
  where
    cases : (a : Bool) → (write.state == component) ≡ a → (b : Bool) → (write.part == part) ≡ b → ((write.state == component) && (write.part == part)) ≡ false
    cases false is b is_b = rw is refl
    cases true is true is_b = absurd (other (eqb-true write.state component is, eqb-true write.part part is_b))
    cases true is false is_b = rw (is, is_b) refl

found_within : (xs : List PartPlan) (c p i : ℕ) → IsFound xs c p i → i < length xs
found_within [] c p i found = absurd found
found_within (x ∷ xs) c p zero found = omega arith
found_within (x ∷ xs) c p (suc i) found = let later = found_within xs c p i found.1 in omega arith

amounts_at-append : (xs ys : List Write) (key : List ℕ) → amounts_at (xs ++ ys) key ≡ amounts_at xs key ++ amounts_at ys key
amounts_at-append xs ys key =
    ap (map (λ (w : Write). w.amount)) (filter-append (λ (w : Write). bytes_eq key w.key) xs ys)
    ∙ map-append (λ (w : Write). w.amount) (filter (λ (w : Write). bytes_eq key w.key) xs) (filter (λ (w : Write). bytes_eq key w.key) ys)

-- a write was added
abbrev pub Adds : Write → GroupedWrites → GroupedWrites → Type 0
Adds write old new = (key : List ℕ) → amounts_of new key ≡ amounts_of old key ++ amounts_at (write ∷ []) key

module _ {S : Type 0} (before : List Write) (write : Write) where
  own_push : (at : StatePart S) (b : Bool) → is_for_part at.component at.part write ≡ b → own_writes (before ++ write ∷ []) at ≡ own_writes before at ++ cond b (write ∷ []) []
  own_push at b is =
      filter-append (is_for_part at.component at.part) before (write ∷ [])
      ∙ ap (λ (c : Bool). own_writes before at ++ cond c (write ∷ []) []) is

  own_more : (at : StatePart S) → is_for_part at.component at.part write ≡ true → own_writes before at ++ write ∷ [] ≡ own_writes (before ++ write ∷ []) at
  own_more at yes_it_is = sym (own_push at true yes_it_is)

  own_same : (at : StatePart S) → is_for_part at.component at.part write ≡ false → own_writes before at ≡ own_writes (before ++ write ∷ []) at
  own_same at is_not = sym (own_push at false is_not ∙ append-nil (own_writes before at))

  grouped_same : (at : StatePart S) (grouped : GroupedWrites) → is_for_part at.component at.part write ≡ false → IsGrouped (own_writes before at) grouped → IsGrouped (own_writes (before ++ write ∷ []) at) grouped
  grouped_same at grouped is_not was = λ key. was key ∙ ap (λ (ws : List Write). amounts_at ws key) (own_same at is_not)

  -- the part's own writes have one more
  grouped_more : (at : StatePart S) (old new : GroupedWrites) → is_for_part at.component at.part write ≡ true → Adds write old new → IsGrouped (own_writes before at) old → IsGrouped (own_writes (before ++ write ∷ []) at) new
  grouped_more at old new yes_it_is adds was = λ key.
      adds key ∙ ap (λ (xs : List ℤ). xs ++ amounts_at (write ∷ []) key) (was key) ∙ sym (amounts_at-append (own_writes before at) (write ∷ []) key)
      ∙ ap (λ (ws : List Write). amounts_at ws key) (own_more at yes_it_is)

  pub none_more : (parts : List (StatePart S)) (dealt : List GroupedWrites) → (IsOneOf (plans_of parts) write.state write.part → ⊥) → AreDealt before parts dealt → AreDealt (before ++ write ∷ []) parts dealt
  none_more [] [] none was = was
  none_more [] (x ∷ xs) none was = was
  none_more (at ∷ parts) [] none was = was
  none_more (at ∷ parts) (x ∷ xs) none was = (
    grouped_same at x (for_no at.component at.part write (λ here. none (inl here))) was.0,
    none_more parts xs (λ later. none (inr later)) was.1,
  )

  -- the writes of the part that was found have one more
  pub deal_step : (parts : List (StatePart S)) (i : ℕ) (dealt : List GroupedWrites) (old new : GroupedWrites) → IsFound (plans_of parts) write.state write.part i → old ≡ get_or dealt i old → Adds write old new
      → AreDealt before parts dealt → AreDealt (before ++ write ∷ []) parts (set dealt i new)
  deal_step [] i dealt old new found read adds was = absurd found
  deal_step (at ∷ parts) i [] old new found read adds was = absurd was
  deal_step (at ∷ parts) zero (x ∷ xs) old new found read adds was = (
    grouped_more at old new (for_yes at.component at.part write found.0.0 found.0.1) adds (subst (λ (y : GroupedWrites). IsGrouped (own_writes before at) y) (sym read) was.0),
    none_more parts xs found.1 was.1,
  )
  deal_step (at ∷ parts) (suc i) (x ∷ xs) old new found read adds was = (
    grouped_same at x (for_no at.component at.part write found.0) was.0,
    deal_step parts i xs old new found.1 read adds was.1,
  )

  -- a place that was found is one of a list
  pub deal_within : (parts : List (StatePart S)) (i : ℕ) (dealt : List GroupedWrites) → IsFound (plans_of parts) write.state write.part i → AreDealt before parts dealt → i < length dealt
  deal_within parts i dealt found was =
      let in_plans : i < length (plans_of parts) = found_within (plans_of parts) write.state write.part i found in
      let plans : length (plans_of parts) ≡ length parts = length-map parts (λ (at : StatePart S). plan_of at) in
      let long : length dealt ≡ length parts = AllZip-long (λ (at : StatePart S) (x : GroupedWrites). IsGrouped (own_writes before at) x) parts dealt was in
      omega arith

-- no writes of any part
pub dealt_none : {S : Type 0} (parts : List (StatePart S)) (dealt : List GroupedWrites) → length dealt ≡ length parts → AllByRecursion (IsGrouped []) dealt → AreDealt [] parts dealt
dealt_none [] [] long none = tt
dealt_none [] (x ∷ xs) long none = absurd (omega arith)
dealt_none (at ∷ parts) [] long none = absurd (omega arith)
dealt_none (at ∷ parts) (x ∷ xs) long none = (none.0, dealt_none parts xs (omega arith) none.1)

-- there are as many as there are parts
pub dealt_long : {S : Type 0} (writes : List Write) (parts : List (StatePart S)) (dealt : List GroupedWrites) → AreDealt writes parts dealt → length dealt ≡ length parts
dealt_long {S} writes parts dealt all = AllZip-long (λ (at : StatePart S) (grouped : GroupedWrites). IsGrouped (own_writes writes at) grouped) parts dealt all

-- the same over equal lists
pub dealt_as : {S : Type 0} (writes : List Write) {parts these : List (StatePart S)} {dealt lent : List GroupedWrites} → lent ≡ dealt → AreDealt writes parts dealt → parts ≡ these → AreDealt writes these lent
dealt_as {S} writes {parts} {these} {dealt} {lent} is all same = subst (λ (ps : List (StatePart S)). AreDealt writes ps lent) same (subst (λ (xs : List GroupedWrites). AreDealt writes parts xs) (sym is) all)

-- one part more that has none
pub none_push : (dealt : List GroupedWrites) (x : GroupedWrites) → AllByRecursion (IsGrouped []) dealt → IsGrouped [] x → AllByRecursion (IsGrouped []) (dealt ++ x ∷ [])
none_push [] x all none = (none, tt)
none_push (y ∷ ys) x all none = (all.0, none_push ys x all.1 none)

-- what stands at a place among the parts, by its plan
pub plans_at : {S : Type 0} (parts : List (StatePart S)) (place : ℕ) (at : StatePart S) → place < length parts → at ≡ get_or parts place at → slice_get (plans_of parts) place ≡ Some (plan_of at)
plans_at {S} parts place at within read =
    slice_get-map (λ (x : StatePart S). plan_of x) parts place ∙ ap (option_map (λ (x : StatePart S). plan_of x)) (slice_get_read parts (length parts) place at refl within read)

pub if_none : {T P : Type 0} (o : Option T) → o ≡ None → IfNone o P → P
if_none None none p = p
if_none (Some x) none p = absurd (none-some x (sym none))

-- the items up to one and this one
pub taken_more : {X : Type 0} (xs : List X) (i : ℕ) (x : X) → slice_get xs i ≡ Some x → take (i + 1) xs ≡ take i xs ++ x ∷ []
taken_more [] i x at = absurd (let e : None ≡ Some x = at in cc)
taken_more (y ∷ ys) zero x at = let e : y ≡ x = (let some : Some y ≡ Some x = at in cc) in ap (λ z. z ∷ []) e
taken_more (y ∷ ys) (suc i) x at =
    let e : suc i + 1 ≡ suc (i + 1) = omega arith in ap (λ (n : ℕ). take n (y ∷ ys)) e ∙ ap (λ zs. y ∷ zs) (taken_more ys i x at)
