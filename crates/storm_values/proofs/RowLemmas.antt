-- The row of a good line is within limits.
use Rattle.std.proofs.Common.{◌≡◌, ℕ, ◌≤◌, List, ◌∷◌, length, Option, Some, None, option_map, unwrap_or, All}
use Rattle.std.proofs.lemmas.List.Elements.{All-nil, All-cons}
use Rattle.serde_json.specs.Data.{Data, null, boolean, number, string, array, object, Items, no_items, item}
use Rattle.serde_json.specs.Find.{as_i64}
use Rattle.storm_values.specs.declared.value.Value.{Value}
use Rattle.storm_values.specs.declared.value.Value.TheVariants.{Int}
use Rattle.storm_values.specs.Json.{value_of}
use Rattle.storm_values.specs.Lines.{array_of, values_of}
use Rattle.storm_values.specs.Rows.{IsShort, IsRow}
use Rattle.storm_values.proofs.TextLemmas.{IsFitData, AreFitDataItems, fit_array}

abbrev IsShortFound : Option Value → Type 0
IsShortFound None = Unit {0}
IsShortFound (Some value) = IsShort value

short_number : (found : Option _) → IsShortFound (option_map Int found)
short_number None = tt
short_number (Some n) = tt

short_value : (entry : Data) → IsFitData 4096 entry → IsShortFound (value_of entry)
short_value null fit = tt
short_value (boolean b) fit = tt
short_value (number n) fit = short_number (as_i64 n)
short_value (string bytes) fit = fit
short_value (array _) fit = tt
short_value (object _) fit = tt

one_more : (found : Option Value) (values : List Value) → IsShortFound found → All IsShort values → All IsShort (unwrap_or (option_map (λ value. value ∷ values) found) values)
one_more None values first later = later
one_more (Some value) values first later = All-cons IsShort value values first later

short_values : (items : Items) → AreFitDataItems 4096 items → All IsShort (values_of items)
short_values no_items fit = All-nil IsShort
short_values (item entry items) fit = one_more (value_of entry) (values_of items) (short_value entry fit.0) (short_values items fit.1)

-- the values of a short line that is an array
pub row_within : (line : List ℕ) (want : ℕ) (items : Items) → length line ≤ 4096 → array_of line ≡ Some items → length (values_of items) ≡ want → IsRow want (values_of items)
row_within line want items short is counted = record { width = counted; short = short_values items (fit_array 4096 line items short is) }
