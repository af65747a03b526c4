-- The JSON value that bytes spell (RFC 8259), as serde_json reads and writes it.
use Rattle.std.specs.Prelude.{ℕ, List, [], ◌∷◌, pos, negsuc, if◌then◌else◌, Option, Some, None, option_map}
use Rattle.std.specs.Str.{is_utf8}
use Rattle.serde_json.specs.Data.{unsigned, negative, Data, null, boolean, number, string, array, object, Items, no_items, item}
use Rattle.serde_json.specs.Find.{as_i64}
use Rattle.serde_json.specs.Read.{read}
use Rattle.storm_values.specs.declared.value.Value.{Value}
use Rattle.storm_values.specs.declared.value.Value.TheVariants.{Int, Text}

-- the JSON value that the bytes spell, or nothing
unfoldable pub json_of : List ℕ → Option Data
json_of bytes = if is_utf8 bytes then read bytes else None

-- a text, or a whole number that fits 64 bits with a sign; nothing else is a value
abbrev pub value_of : Data → Option Value
value_of null = None
value_of (boolean _) = None
value_of (number n) = option_map Int (as_i64 n)
value_of (string bytes) = Some (Text bytes)
value_of (array _) = None
value_of (object _) = None

-- the same the other way round
abbrev pub data_of : Value → Data
data_of (Int (pos n)) = number (unsigned n)
data_of (Int (negsuc n)) = number (negative (negsuc n))
data_of (Text bytes) = string bytes

abbrev pub items_of_values : List Value → Items
items_of_values [] = no_items
items_of_values (value ∷ values) = item (data_of value) (items_of_values values)
