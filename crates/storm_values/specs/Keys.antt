-- The bytes, the hash and the text of a key.
use Rattle.std.specs.Prelude.{ℕ, ◌*◌, ◌%◌, ◌^◌, List, [], ◌∷◌, ◌++◌, fold, bit_xor}
use Rattle.std.specs.Fmt.{signed_decimal}
use Rattle.json.specs.Token.{Token}
use Rattle.serde_json.specs.Data.{array}
use Rattle.serde_json.specs.Written.{compact_text}
use Rattle.storm_values.specs.declared.value.Value.{Value}
use Rattle.storm_values.specs.declared.value.Value.TheVariants.{Int, Text}
use Rattle.storm_values.specs.Json.{items_of_values}

-- a number as decimal text, a text as its bytes
abbrev pub value_bytes : Value → List ℕ
value_bytes (Int number) = signed_decimal number
value_bytes (Text bytes) = bytes

-- the bytes of the values, with one byte 0x1F between two of them
abbrev pub key_bytes : List Value → List ℕ
key_bytes [] = []
key_bytes (value ∷ []) = value_bytes value
key_bytes (value ∷ next ∷ values) = value_bytes value ++ 0x1F ∷ key_bytes (next ∷ values)

-- one step of FNV-1a of 64 bits (Fowler, Noll and Vo)
abbrev pub fnv_step : ℕ → ℕ → ℕ
fnv_step hash byte = (bit_xor hash byte * 1099511628211) % 2 ^ 64

abbrev pub fnv_offset : ℕ
fnv_offset = 14695981039346656037

-- FNV-1a of 64 bits over a key's bytes
unfoldable pub hash_of : List Value → ℕ
hash_of key = fold fnv_step fnv_offset (key_bytes key)

-- the compact JSON text of the array of a key's values, as serde_json writes it
unfoldable pub text_of : List Value → List ℕ
text_of key = compact_text (array (items_of_values key))

-- a text between quotation marks and brackets, as the key that is this text alone is written where
-- nothing in it is escaped
abbrev pub quoted : List ℕ → List ℕ
quoted text = 91 ∷ 34 ∷ (text ++ 34 ∷ 93 ∷ [])

-- the JSON token of a value
abbrev pub token_of : Value → Token
token_of (Int number) = Token.number (signed_decimal number)
token_of (Text bytes) = Token.string bytes
