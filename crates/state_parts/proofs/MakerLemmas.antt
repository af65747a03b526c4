-- What a maker holds while stores are out, and when they came back.
use Rattle.std.proofs.Common.{◌≡◌, ◌+◌, ◌-◌, ◌^◌, ◌<◌, ◌≤◌, inl, inr, ⊎_elim, ℕ, List, [], ◌∷◌, ◌++◌, All, refl, sym, subst, ◌∙◌, arith}
use Rattle.std.proofs.lemmas.Bool.{cases_lt}
use Rattle.std.proofs.lemmas.List.{map-append}
use Rattle.std.proofs.lemmas.List.Elements.{All-cons, All-head, All-nil, All-push, All-tail, All-weaker}
use Rattle.storm_stores.specs.CellMaps.{CellMap}
use Rattle.tree_model.specs.storm_values.Counts.{raised_by}
use Rattle.state_parts.specs.declared.parts.StatePart.{StatePart}
use Rattle.state_parts.specs.Makers.{AreBack, AreMade, AreOut, Began, CameBack, HasNotFailed, OnlyMade, RoseBySum, WasMade, faults_of}
use Rattle.state_parts.specs.PartPlans.{AreApart, IsOneOf, PartPlan, plan_of, plans_of}
use Rattle.state_parts.proofs.Places.{apart_push, numbers_cases, one_of_cases, one_of_left, one_of_right}

raised_twice : (s r a b c : ℕ) → b ≡ raised_by a s → c ≡ raised_by b r → c ≡ raised_by a (s + r)
raised_twice s r a b c first then = omega arith

pub rose_of_count : (s a b : ℕ) → b ≡ raised_by a s → RoseBySum s a b
rose_of_count s a b is = ⊎_elim (λ (below : a + s < 2 ^ 64). inl (omega arith)) (λ (end : 2 ^ 64 ≤ a + s). inr (omega arith)) (cases_lt (a + s) (2 ^ 64))

zero_sum : (s r : ℕ) → s + r ≡ 0 → (s ≡ 0) × (r ≡ 0)
zero_sum s r none = (omega arith, omega arith)

module _ {S M : Type 0} (tells : S → CellMap → Type 0) (count : S → ℕ) (holds : M → ℕ → ℕ → CellMap → Type 0) (made : M → ℕ → ℕ → Type 0) (faults : M → ℕ) where
  abbrev Out : M → M → List (StatePart S) → Type 0
  Out old new parts = AreOut tells count holds made faults old new parts

  abbrev Back : M → M → List (StatePart S) → Type 0
  Back old new parts = AreBack tells count holds made faults old new parts

  grown : (parts : List (StatePart S)) (at : StatePart S) → plans_of (parts ++ at ∷ []) ≡ plans_of parts ++ plan_of at ∷ []
  grown parts at = map-append (λ (x : StatePart S). plan_of x) parts (at ∷ [])

  held_at : (m : M) (c p component part : ℕ) (cells : CellMap) → c ≡ component → p ≡ part → holds m c p cells → holds m component part cells
  held_at m c p component part cells one two held = subst (λ (k : ℕ). holds m component k cells) two (subst (λ (k : ℕ). holds m k p cells) one held)

  pub out_none : (m : M) → Out m m []
  out_none m = record {
    apart = tt;
    began = All-nil (Began tells holds m);
    no_fault = All-nil (HasNotFailed count);
    made_now = All-nil (WasMade made m);
    others = λ c p cells other held. held;
    stays_made = λ c p is. is;
    same_count = refl;
  }

  -- one more store was made, and is out
  pub out_made : (old mid new : M) (parts : List (StatePart S)) (at : StatePart S) → (IsOneOf (plans_of parts) at.component at.part → ⊥)
      → ((cells : CellMap) → holds mid at.component at.part cells → tells at.over.store cells) → count at.over.store ≡ 0 → made new at.component at.part
      → ((c p : ℕ) (cells : CellMap) → ((c ≡ at.component) × (p ≡ at.part) → ⊥) → holds mid c p cells → holds new c p cells)
      → ((c p : ℕ) → made mid c p → made new c p) → faults new ≡ faults mid → Out old mid parts → Out old new (parts ++ at ∷ [])
  out_made old mid new parts at fresh map_is zero made_it others stays same out = record {
    apart = subst (λ (xs : List PartPlan). AreApart xs) (sym (grown parts at)) (apart_push (plans_of parts) (plan_of at) out.apart fresh);
    began = All-push (Began tells holds old) parts at out.began (λ cells held. map_is cells (out.others at.component at.part cells fresh held));
    no_fault = All-push (HasNotFailed count) parts at out.no_fault zero;
    made_now = subst (λ (xs : List PartPlan). AreMade made new xs) (sym (grown parts at)) (All-push (WasMade made new) (plans_of parts) (plan_of at) (All-weaker (WasMade made mid) (WasMade made new) (λ x is. stays x.component x.part is) (plans_of parts) out.made_now) made_it);
    others = λ c p cells other held.
        let not_here : (c ≡ at.component) × (p ≡ at.part) → ⊥ = λ here. other (subst (λ (xs : List PartPlan). IsOneOf xs c p) (sym (grown parts at)) (one_of_right (plans_of parts) (plan_of at ∷ []) c p (inl here))) in
        let not_before : IsOneOf (plans_of parts) c p → ⊥ = λ one. other (subst (λ (xs : List PartPlan). IsOneOf xs c p) (sym (grown parts at)) (one_of_left (plans_of parts) (plan_of at ∷ []) c p one)) in
        others c p cells not_here (out.others c p cells not_before held);
    stays_made = λ c p is. stays c p (out.stays_made c p is);
    same_count = same ∙ out.same_count;
  }

  -- no more store is out, and what is held stays
  pub out_kept : (old mid new : M) (parts : List (StatePart S)) → ((c p : ℕ) (cells : CellMap) → holds mid c p cells → holds new c p cells)
      → ((c p : ℕ) → made mid c p → made new c p) → faults new ≡ faults mid → Out old mid parts → Out old new parts
  out_kept old mid new parts kept stays same out = record {
    apart = out.apart;
    began = out.began;
    no_fault = out.no_fault;
    made_now = All-weaker (WasMade made mid) (WasMade made new) (λ x is. stays x.component x.part is) (plans_of parts) out.made_now;
    others = λ c p cells other held. kept c p cells (out.others c p cells other held);
    stays_made = λ c p is. stays c p (out.stays_made c p is);
    same_count = same ∙ out.same_count;
  }

  -- a store that was made and goes back at once leaves what is held
  pub put_back : (mid went new : M) (component part : ℕ) (store : S)
      → ((cells : CellMap) → holds mid component part cells → tells store cells)
      → ((c p : ℕ) (cells : CellMap) → ((c ≡ component) × (p ≡ part) → ⊥) → holds mid c p cells → holds went c p cells)
      → ((cells : CellMap) → tells store cells → holds new component part cells)
      → ((c p : ℕ) (cells : CellMap) → ((c ≡ component) × (p ≡ part) → ⊥) → holds went c p cells → holds new c p cells)
      → (c p : ℕ) (cells : CellMap) → holds mid c p cells → holds new c p cells
  put_back mid went new component part store made_map made_others given_map given_others c p cells held =
      ⊎_elim
      (λ (same : (c ≡ component) × (p ≡ part)). held_at new component part c p cells (sym same.0) (sym same.1) (given_map cells (made_map cells (held_at mid c p component part cells same.0 same.1 held))))
      (λ (other : ((c ≡ component) × (p ≡ part)) → ⊥). given_others c p cells other (made_others c p cells other held))
      (numbers_cases c p component part)

  pub only_none : (m : M) → OnlyMade {S = S} made m m []
  only_none m = λ c p is. inl is

  pub only_more : (old mid new : M) (parts : List (StatePart S)) (at : StatePart S) → ((c p : ℕ) → ((c ≡ at.component) × (p ≡ at.part) → ⊥) → made new c p → made mid c p)
      → OnlyMade made old mid parts → OnlyMade made old new (parts ++ at ∷ [])
  only_more old mid new parts at before only = λ c p is.
      let one_more = λ (one : IsOneOf (plans_of parts ++ plan_of at ∷ []) c p). subst (λ (xs : List PartPlan). IsOneOf xs c p) (sym (grown parts at)) one in
      ⊎_elim (λ (same : (c ≡ at.component) × (p ≡ at.part)). inr (one_more (one_of_right (plans_of parts) (plan_of at ∷ []) c p (inl same))))
      (λ (other : ((c ≡ at.component) × (p ≡ at.part)) → ⊥). ⊎_elim (λ (was : made old c p). inl was) (λ (one : IsOneOf (plans_of parts) c p). inr (one_more (one_of_left (plans_of parts) (plan_of at ∷ []) c p one))) (only c p (before c p other is)))
      (numbers_cases c p at.component at.part)

  -- ---- stores that come back

  pub back_none : (m : M) → faults m ≤ 2 ^ 64 - 1 → Back m m []
  back_none m ends = record {
    back = All-nil (CameBack tells holds m);
    others = λ c p cells other held. held;
    stays_made = λ c p is. is;
    made_before = λ c p is. is;
    counted = omega (arith, ends);
    never_falls = omega arith;
    same_count = λ none. refl;
  }

  -- first one store comes back, and then the others
  pub back_first : (old mid new : M) (at : StatePart S) (parts : List (StatePart S)) → (IsOneOf (plans_of parts) at.component at.part → ⊥)
      → ((cells : CellMap) → tells at.over.store cells → holds mid at.component at.part cells)
      → ((c p : ℕ) (cells : CellMap) → ((c ≡ at.component) × (p ≡ at.part) → ⊥) → holds old c p cells → holds mid c p cells)
      → ((c p : ℕ) → made old c p → made mid c p) → ((c p : ℕ) → made mid c p → made old c p)
      → faults mid ≡ raised_by (faults old) (count at.over.store) → faults old ≤ faults mid → (count at.over.store ≡ 0 → faults mid ≡ faults old)
      → Back mid new parts → Back old new (at ∷ parts)
  back_first old mid new at parts alone map_is others stays before counted up same rest = record {
    back = All-cons (CameBack tells holds new) at parts (λ cells told. rest.others at.component at.part cells alone (map_is cells told)) rest.back;
    others = λ c p cells other held. rest.others c p cells (λ one. other (inr one)) (others c p cells (λ here. other (inl here)) held);
    stays_made = λ c p is. rest.stays_made c p (stays c p is);
    made_before = λ c p is. before c p (rest.made_before c p is);
    counted = raised_twice (count at.over.store) (faults_of count parts) (faults old) (faults mid) (faults new) counted rest.counted;
    never_falls = let later = rest.never_falls in omega arith;
    same_count = λ none. let each = zero_sum (count at.over.store) (faults_of count parts) none in rest.same_count each.1 ∙ same each.0;
  }

  back_one : (start end : M) (parts : List (StatePart S)) → All (Began tells holds start) parts → All (CameBack tells holds end) parts → (c p : ℕ) (cells : CellMap) → IsOneOf (plans_of parts) c p → holds start c p cells → holds end c p cells
  back_one start end [] began back c p cells one held = absurd one
  back_one start end (at ∷ parts) began back c p cells (inl here) held =
      held_at end at.component at.part c p cells (sym here.0) (sym here.1) (All-head (CameBack tells holds end) at parts back cells (All-head (Began tells holds start) at parts began cells (held_at start c p at.component at.part cells here.0 here.1 held)))
  back_one start end (at ∷ parts) began back c p cells (inr later) held =
      back_one start end parts (All-tail (Began tells holds start) at parts began) (All-tail (CameBack tells holds end) at parts back) c p cells later held

  -- when all that was made came back, the maker holds what it held
  pub all_back : (start now end : M) (parts : List (StatePart S)) → Out start now parts → Back now end parts → (c p : ℕ) (cells : CellMap) → holds start c p cells → holds end c p cells
  all_back start now end parts out back c p cells held =
      ⊎_elim (λ (one : IsOneOf (plans_of parts) c p). back_one start end parts out.began back.back c p cells one held)
      (λ (none : IsOneOf (plans_of parts) c p → ⊥). back.others c p cells none (out.others c p cells none held))
      (one_of_cases (plans_of parts) c p)

  no_faults : (parts : List (StatePart S)) → All (HasNotFailed count) parts → faults_of count parts ≡ 0
  no_faults [] none = refl
  no_faults (at ∷ parts) none =
      let here : count at.over.store ≡ 0 = All-head (HasNotFailed count) at parts none in
      let later : faults_of count parts ≡ 0 = no_faults parts (All-tail (HasNotFailed count) at parts none) in
      omega arith

  pub count_back : (start now end : M) (parts : List (StatePart S)) → Out start now parts → Back now end parts → faults end ≡ faults start
  count_back start now end parts out back = back.same_count (no_faults parts out.no_fault) ∙ out.same_count

  -- the loop over stores that come back: one more
  pub back_more : (start now mid : M) (all : List (StatePart S)) (at : StatePart S) (rest : List (StatePart S)) → AreApart (plans_of (at ∷ rest))
      → ((cells : CellMap) → tells at.over.store cells → holds mid at.component at.part cells)
      → ((c p : ℕ) (cells : CellMap) → ((c ≡ at.component) × (p ≡ at.part) → ⊥) → holds now c p cells → holds mid c p cells)
      → ((c p : ℕ) → made now c p → made mid c p) → ((c p : ℕ) → made mid c p → made now c p)
      → faults mid ≡ raised_by (faults now) (count at.over.store) → faults now ≤ faults mid → (count at.over.store ≡ 0 → faults mid ≡ faults now)
      → ((end : M) → Back now end (at ∷ rest) → Back start end all) → (end : M) → Back mid end rest → Back start end all
  back_more start now mid all at rest apart map_is others stays before counted up same from end later =
      from end (back_first now mid end at rest apart.0 map_is others stays before counted up same later)

  pub made_rest : (now mid : M) (at : StatePart S) (rest : List (StatePart S)) → ((c p : ℕ) → made now c p → made mid c p) → AreMade made now (plans_of (at ∷ rest)) → AreMade made mid (plans_of rest)
  made_rest now mid at rest stays are = All-weaker (WasMade made now) (WasMade made mid) (λ x is. stays x.component x.part is) (plans_of rest) (All-tail (WasMade made now) (plan_of at) (plans_of rest) are)

  pub made_first : (now : M) (at : StatePart S) (rest : List (StatePart S)) → AreMade made now (plans_of (at ∷ rest)) → made now at.component at.part
  made_first now at rest are = All-head (WasMade made now) (plan_of at) (plans_of rest) are
