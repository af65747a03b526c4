-- Where a cell is given or a call is to fail, no store is made.
use Rattle.std.proofs.Common.{◌≡◌, ◌⊎◌, inl, inr, ℕ, List, sym, ◌∙◌}
use Rattle.std.proofs.lemmas.Bool.{cases_eq}
use Rattle.std.specs.Prelude.{Result, Ok, Err, OnOk, OnErr}
use Rattle.storm_stores.specs.declared.memory_maker.Slot.{Slot}
use Rattle.storm_stores.specs.MemoryMaker.{ChangesPart, HasMade, MakerState, SameParts, made_at}
use Rattle.storm_stores.specs.MemoryStore.{StoreState}

-- where one part stays made or not, all do
made_stays : (old new : List Slot) (component part : ℕ) (store : StoreState) → ChangesPart old new component part store (made_at old component part) → (c p : ℕ) → made_at new c p ≡ made_at old c p
made_stays old new component part store changes c p = cases (cases_eq c component) (cases_eq p part)
  where
    cases : (c ≡ component) ⊎ (c ≡ component → ⊥) → (p ≡ part) ⊎ (p ≡ part → ⊥) → made_at new c p ≡ made_at old c p
    cases (inl one) (inl same) = rw (one, same) changes.made_is
    cases (inl one) (inr other) = changes.other_made c p (λ both. other both.1)
    cases (inr other) same = changes.other_made c p (λ both. other both.0)

pub none_made : {E : Type 0} (r : Result (Unit {0}) E) (old new : MakerState) (component part : ℕ) (store : StoreState)
    → OnOk r (ChangesPart old.slots new.slots component part store (made_at old.slots component part)) → OnErr r (SameParts old.slots new.slots)
    → ((c p : ℕ) → HasMade old c p → ⊥) → (c p : ℕ) → HasMade new c p → ⊥
none_made (Ok done) old new component part store ok err none c p made = none c p (sym (made_stays old.slots new.slots component part store ok c p) ∙ made)
none_made (Err fault) old new component part store ok err none c p made = none c p (sym (err.made c p) ∙ made)
