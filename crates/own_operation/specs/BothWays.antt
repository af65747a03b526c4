-- What the operation and its fold mean, and that they are one. This project's own.
use Rattle.std.specs.Prelude.{◌≡◌, ℤ, ◌+ℤ◌, [], ◌∷◌, List, length, reverse, All}
use Rattle.std.specs.Int.{int_wrap, int_wrapping_mul, w128}
use Rattle.std.proofs.Common.{lit≤, refl, sym, ap, ◌∙◌}
use Rattle.std.proofs.Math.IntN.{+ℤ_assoc}
use Rattle.std.proofs.lemmas.Int.{int_wrap-add_left, int_wrap-add_right}
use Rattle.std.proofs.lemmas.List.Elements.{All-cons}
use Rattle.storm_values.specs.declared.value.Value.{Value}
use Rattle.storm_values.specs.Rows.{IsShort}
use Rattle.bolt_ops.specs.RowOp.{Custom, IsCustom, IsCustom-reversed}

-- the sum of two values, round the end of 128 bits
abbrev sum_round : ℤ → ℤ → ℤ
sum_round earlier later = int_wrap w128 (earlier +ℤ later)

-- The row, and then the row with its values in reverse order; a custom fold adds the squares of
-- the amounts.
abbrev pub both_ways : Custom
both_ways = record {
  rows = λ row. row ∷ reverse row ∷ [];
  one = λ amount. int_wrapping_mul w128 amount amount;
  combine = sum_round;
}

-- pieces of a sum may be added first
sum_round-associative : (a b c : ℤ)
    → sum_round (sum_round a b) c ≡ sum_round a (sum_round b c)
sum_round-associative a b c =
    int_wrap-add_left w128 (a +ℤ b) c
    ∙ ap (int_wrap w128) (+ℤ_assoc a b c)
    ∙ sym (int_wrap-add_right w128 a (b +ℤ c))

both_ways-widths : (row : List Value) → All IsShort row
    → All (λ (made : List Value). length made ≡ length row) (row ∷ reverse row ∷ [])
both_ways-widths row short =
    let P : List Value → Type 0 =
    λ made. length made ≡ length row
    in All-cons P row (reverse row ∷ []) refl (IsCustom-reversed.widths row short)

both_ways-short : (row : List Value) → All IsShort row
    → All (All IsShort) (row ∷ reverse row ∷ [])
both_ways-short row short =
    let P : List Value → Type 0 =
    All IsShort in All-cons P row (reverse row ∷ []) short (IsCustom-reversed.short row short)

pub IsCustom-both_ways : IsCustom both_ways
IsCustom-both_ways =
    record {
      few = λ row short. lit≤ tt;
      widths = both_ways-widths;
      short = both_ways-short;
      associative = sum_round-associative;
    }
