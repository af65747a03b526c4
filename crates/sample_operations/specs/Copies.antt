-- Laws of rows that stand so many times.
use Rattle.std.proofs.Common.{◌≡◌, ◌≤◌, ℕ, List, length, All, lit≤, refl, subst, sym}
use Rattle.std.specs.Prelude.{replicate}
use Rattle.std.proofs.lemmas.List.{length-replicate}
use Rattle.std.proofs.lemmas.List.Elements.{All-replicate}
use Rattle.storm_values.specs.declared.value.Value.{Value}
use Rattle.storm_values.specs.Limits.{most_custom_rows}
use Rattle.storm_values.specs.Rows.{IsShort}
use Rattle.bolt_ops.specs.RowOp.{Custom, IsCustom, custom_of}

-- the row itself, so many times
abbrev pub copies : ℕ → Custom
copies n = custom_of (replicate n)

pub IsCustom-copies : (n : ℕ) → n ≤ most_custom_rows → IsCustom (copies n)
IsCustom-copies n few =
    record {
      few = λ row short. subst (λ m. m ≤ most_custom_rows) (sym (length-replicate n row)) few;
      widths = λ row short. All-replicate (λ (made : List Value). length made ≡ length row) n row refl;
      short = λ row short. All-replicate (All IsShort) n row short;
      associative = λ a b c. refl;
    }

pub IsCustom-sixteen : IsCustom (copies 16)
IsCustom-sixteen = IsCustom-copies 16 (lit≤ tt)

pub IsCustom-none : IsCustom (copies 0)
IsCustom-none = IsCustom-copies 0 (lit≤ tt)
