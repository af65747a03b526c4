use Rattle.std.proofs.Common.{sym, subst}
use Rattle.std.proofs.lemmas.Str.{IsUtf8-had}
use Rattle.std.specs.Prelude.{List, ℕ, IsUtf8}
use Rattle.storm_values.proofs.text.Short.as_str.Goals as goal

-- a short text is UTF-8
pub from_utf8_unchecked-requires : goal.from_utf8_unchecked-requires
from_utf8_unchecked-requires c = subst (λ (x : List ℕ). IsUtf8 x) (sym c.as_slice.ensures) (IsUtf8-had _ c.self.invariant)
