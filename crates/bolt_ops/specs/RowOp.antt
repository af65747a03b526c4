-- What an operation of the user's own means, and what every one of them keeps.
use Rattle.std.proofs.Common.{◌≡◌, ◌≤◌, ◌-◌, ℤ, List, [], ◌∷◌, length, reverse, All, lit≤, refl, sym, subst, arith}
use Rattle.std.proofs.lemmas.List.{get_or-reverse, length-reverse}
use Rattle.std.proofs.lemmas.List.Elements.{All-nil, All-cons}
use Rattle.storm_values.specs.declared.value.Value.{Value}
use Rattle.storm_values.specs.Limits.{most_custom_rows}
use Rattle.storm_values.specs.Rows.{IsShort}

-- what an operation of the user's own means
pub record Custom : Type 0 where
  -- the rows that it makes of a row
  pub rows : List Value → List (List Value)
  -- the value that a custom fold makes of one amount
  pub one : ℤ → ℤ
  -- the value that it makes of two values, the earlier one first
  pub combine : ℤ → ℤ → ℤ

-- an operation of rows alone: a custom fold takes the last amount
abbrev pub custom_of : (List Value → List (List Value)) → Custom
custom_of rows = record { rows = rows; one = λ amount. amount; combine = λ earlier later. later }

-- Of a row within limits it makes at most 16 rows, each within limits and with as many values;
-- and values combine in pieces as they do one after another.
pub record IsCustom (custom : Custom) : Type 0 where
  pub few : (row : List Value) → All IsShort row → length (custom.rows row) ≤ most_custom_rows
  pub widths : (row : List Value) → All IsShort row
      → All (λ (made : List Value). length made ≡ length row) (custom.rows row)
  pub short : (row : List Value) → All IsShort row → All (All IsShort) (custom.rows row)
  pub associative : (a b c : ℤ)
      → custom.combine (custom.combine a b) c ≡ custom.combine a (custom.combine b c)

-- one row, of the values in reverse order
abbrev pub reversed_rows : List Value → List (List Value)
reversed_rows row = reverse row ∷ []

abbrev pub reversed : Custom
reversed = custom_of reversed_rows

All-reverse_short : (row : List Value) → All IsShort row → All IsShort (reverse row)
All-reverse_short row short =
    λ k d below.
    subst IsShort (sym (get_or-reverse row k d (omega (arith, length-reverse row))))
    (short (length row - 1 - k) d (omega (arith, length-reverse row)))

reversed_widths : (row : List Value)
    → All (λ (made : List Value). length made ≡ length row) (reverse row ∷ [])
reversed_widths row =
    let P : List Value → Type 0 =
    λ made. length made ≡ length row
    in All-cons P (reverse row) [] (length-reverse row) (All-nil P)

reversed_short : (row : List Value) → All IsShort row → All (All IsShort) (reverse row ∷ [])
reversed_short row short =
    let P : List Value → Type 0 =
    All IsShort in All-cons P (reverse row) [] (All-reverse_short row short) (All-nil P)

pub IsCustom-reversed : IsCustom reversed
IsCustom-reversed =
    record {
      few = λ row short. lit≤ tt;
      widths = λ row short. reversed_widths row;
      short = reversed_short;
      associative = λ a b c. refl;
    }
