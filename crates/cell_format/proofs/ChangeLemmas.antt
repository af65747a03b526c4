-- A cell that is made of writes has a value.
use Rattle.std.proofs.Common.{◌≡◌, ◌≢◌, ℤ, List, [], ◌∷◌, Option, Some, IsSome, true, false, true≢false, length, ◌==◌, ap, sym, ◌∙◌, refl}
use Rattle.tree_model.specs.topology_plan.declared.parts.Kind.{Kind}
use Rattle.tree_model.specs.topology_plan.declared.parts.Kind.TheVariants.{Transactional, Opaque}
use Rattle.tree_model.specs.Tables.{Folding}
use Rattle.cell_format.specs.Commits.{kept_by, value_after}
use Rattle.cell_format.specs.Layout.{IsWhole}

has_value : (by : Folding) (amounts : List ℤ) (value : ℤ) → IsSome (value_after by amounts (Some value))
has_value by [] value = refl
has_value by (amount ∷ amounts) value = has_value by amounts (by (Some value) amount)

pub whole_anew : (kind : Kind) (by : Folding) (amounts : List ℤ) (value : Option ℤ) → amounts ≢ [] → IsWhole kind (value_after by amounts value) (kept_by kind value)
whole_anew Transactional by [] value some = absurd (some refl)
whole_anew Transactional by (amount ∷ amounts) value some = (has_value by amounts (by value amount), refl)
whole_anew Opaque by amounts value some = tt

pub not_empty : (amounts : List ℤ) → amounts ≡ [] → false ≡ (length amounts == 0) → ⊥
not_empty amounts none is =
    let zero_long : (length amounts == 0) ≡ true = ap (λ (xs : List ℤ). length xs == 0) none in
    true≢false (sym zero_long ∙ sym is)
