-- What the text of a key is. This project's own.
use Rattle.std.specs.Prelude.{◌≡◌, ◌≤◌, ℕ, List, [], ◌∷◌, length, Option, Some, option_map, option_and_then, FitsSigned, IsUtf8}
use Rattle.std.specs.Int.{w64}
use Rattle.std.specs.List.{AllByRecursion}
use Rattle.serde_json.specs.Data.{Items, no_items, item}
use Rattle.storm_values.specs.declared.value.Value.{Value}
use Rattle.storm_values.specs.declared.value.Value.TheVariants.{Int, Text}
use Rattle.storm_values.specs.Json.{value_of}
use Rattle.storm_values.specs.Keys.{text_of}
use Rattle.storm_values.specs.Limits.{most_fields}
use Rattle.storm_values.specs.Lines.{array_of}

-- a number of 64 bits with a sign, or a text in UTF-8
abbrev pub IsKeyValue : Value → Type 0
IsKeyValue (Int number) = FitsSigned w64 number
IsKeyValue (Text bytes) = IsUtf8 bytes

abbrev pub AreKeyValues : List Value → Type 0
AreKeyValues values = AllByRecursion IsKeyValue values

-- one to eight values
pub record IsKey (values : List Value) : Type 0 where
  pub some : 1 ≤ length values
  pub few : length values ≤ most_fields
  pub each : AreKeyValues values

-- the compact JSON text of the array of a key's values
pub record IsKeyText (text : List ℕ) : Type 0 where
  pub values : List Value
  pub is_key : IsKey values
  pub is_text : text ≡ text_of values

-- ---- how it is read

-- the values of the items, if all of them are values
abbrev pub all_values : Items → Option (List Value)
all_values no_items = Some []
all_values (item entry items) =
    option_and_then (λ value. option_map (λ values. value ∷ values) (all_values items))
    (value_of entry)

-- the values of the array that a text is
unfoldable pub values_in : List ℕ → Option (List Value)
values_in text = option_and_then all_values (array_of text)
