use Rattle.std.proofs.Common.{sym, subst}
use Rattle.std.specs.Prelude.{List, ℕ, IsUtf8}
use Rattle.storm_values.proofs.text.Short.copy.Goals as goal

-- the same bytes are UTF-8 too
pub invariant_of-result : goal.invariant_of-result
invariant_of-result c = subst (λ (x : List ℕ). ∥ IsUtf8 x ∥₁) (sym c.copy.ensures) c.self.invariant
