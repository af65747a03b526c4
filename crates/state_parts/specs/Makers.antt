-- What a maker of stores comes to while stores are out, and when they come back.
use Rattle.std.specs.Prelude.{◌≡◌, ◌≤◌, ◌+◌, ◌-◌, ◌^◌, ◌⊎◌, ℕ, List, [], ◌∷◌, All}
use Rattle.tree_model.specs.storm_values.Counts.{raised_by}
use Rattle.storm_stores.specs.CellMaps.{CellMap}
use Rattle.state_parts.specs.declared.parts.StatePart.{StatePart}
use Rattle.state_parts.specs.PartPlans.{AreApart, IsOneOf, PartPlan, plans_of}

-- a part's store tells what the maker held for the part
abbrev pub Began : {S M : Type 0} → (S → CellMap → Type 0) → (M → ℕ → ℕ → CellMap → Type 0) → M
    → StatePart S → Type 0
Began tells holds maker at =
    (cells : CellMap) → holds maker at.component at.part cells → tells at.over.store cells

-- the maker holds for a part what the part's store told
abbrev pub CameBack : {S M : Type 0} → (S → CellMap → Type 0) → (M → ℕ → ℕ → CellMap → Type 0)
    → M → StatePart S → Type 0
CameBack tells holds maker at =
    (cells : CellMap) → tells at.over.store cells → holds maker at.component at.part cells

-- the maker has made a store for a part
abbrev pub WasMade : {M : Type 0} → (M → ℕ → ℕ → Type 0) → M → PartPlan → Type 0
WasMade made maker part = made maker part.component part.part

-- the same for each of some parts
abbrev pub AreMade : {M : Type 0} → (M → ℕ → ℕ → Type 0) → M → List PartPlan → Type 0
AreMade made maker parts = All (WasMade made maker) parts

-- a part's store has not failed
abbrev pub HasNotFailed : {S : Type 0} → (S → ℕ) → StatePart S → Type 0
HasNotFailed count at = count at.over.store ≡ 0

-- The maker made the stores of these parts, which are out: no two of them are of one part, each
-- began with what the maker held, and for every other part the maker holds what it held.
pub record AreOut {S M : Type 0} (tells : S → CellMap → Type 0) (count : S → ℕ)
    (holds : M → ℕ → ℕ → CellMap → Type 0) (made : M → ℕ → ℕ → Type 0) (faults : M → ℕ)
    (old new : M) (parts : List (StatePart S)) : Type 0 where
  pub apart : AreApart (plans_of parts)
  pub began : All (Began tells holds old) parts
  pub no_fault : All (HasNotFailed count) parts
  pub made_now : AreMade made new (plans_of parts)
  pub others : (c p : ℕ) (cells : CellMap) → (IsOneOf (plans_of parts) c p → ⊥)
      → holds old c p cells → holds new c p cells
  pub stays_made : (c p : ℕ) → made old c p → made new c p
  pub same_count : faults new ≡ faults old

-- of no other part it made a store
abbrev pub OnlyMade : {S M : Type 0} → (M → ℕ → ℕ → Type 0) → M → M → List (StatePart S) → Type 0
OnlyMade made old new parts =
    (c p : ℕ) → made new c p → made old c p ⊎ IsOneOf (plans_of parts) c p

-- how often the stores of these parts have failed together
abbrev pub faults_of : {S : Type 0} → (S → ℕ) → List (StatePart S) → ℕ
faults_of count [] = 0
faults_of count (at ∷ parts) = count at.over.store + faults_of count parts

-- a count rose by so much at least, or it has come to its end
abbrev pub RoseBySum : ℕ → ℕ → ℕ → Type 0
RoseBySum sum before after = (before + sum ≤ after) ⊎ (2 ^ 64 - 1 ≤ after)

-- The stores of these parts came back to the maker: for each part it holds what the store told,
-- for every other part what it held.
pub record AreBack {S M : Type 0} (tells : S → CellMap → Type 0) (count : S → ℕ)
    (holds : M → ℕ → ℕ → CellMap → Type 0) (made : M → ℕ → ℕ → Type 0) (faults : M → ℕ)
    (old new : M) (parts : List (StatePart S)) : Type 0 where
  pub back : All (CameBack tells holds new) parts
  pub others : (c p : ℕ) (cells : CellMap) → (IsOneOf (plans_of parts) c p → ⊥)
      → holds old c p cells → holds new c p cells
  pub stays_made : (c p : ℕ) → made old c p → made new c p
  pub made_before : (c p : ℕ) → made new c p → made old c p
  pub counted : faults new ≡ raised_by (faults old) (faults_of count parts)
  pub never_falls : faults old ≤ faults new
  pub same_count : faults_of count parts ≡ 0 → faults new ≡ faults old
