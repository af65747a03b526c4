-- Rows within limits. This project's own.
use Rattle.std.specs.Prelude.{◌≡◌, ◌≤◌, ℕ, List, length, slice_get, All}
use Rattle.std.specs.List.{filter_map}
use Rattle.storm_values.specs.declared.value.Value.{Value}
use Rattle.storm_values.specs.declared.value.Value.TheVariants.{Int, Text}
use Rattle.storm_values.specs.Limits.{most_text_bytes}

-- a number, or a text of at most 4,096 bytes
abbrev pub IsShort : Value → Type 0
IsShort (Int number) = Unit {0}
IsShort (Text bytes) = length bytes ≤ most_text_bytes

-- a row of this many values, each within limits
pub record IsRow (n : ℕ) (row : List Value) : Type 0 where
  pub width : length row ≡ n
  pub short : All IsShort row

-- the values in some fields of a row, in the order of the fields; one that the row
-- does not have is left out
abbrev pub values_in : List Value → List ℕ → List Value
values_in row fields = filter_map (slice_get row) fields
