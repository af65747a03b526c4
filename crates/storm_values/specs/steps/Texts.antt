-- A line that is an array of texts, by the tokens of its JSON text.
use Rattle.std.specs.Prelude.{◌≡◌, ℕ, List, [], ◌∷◌, Option, Some, None, option_map}
use Rattle.json.specs.Token.{Token}
use Rattle.serde_json.specs.Data.{Items}
use Rattle.storm_values.specs.declared.value.Value.{Value}
use Rattle.storm_values.specs.declared.value.Value.TheVariants.{Text}
use Rattle.storm_values.specs.declared.lines.LineFault.{LineFault}
use Rattle.storm_values.specs.Json.{json_of}
use Rattle.storm_values.specs.Lines.{first_some, array_of, not_json, not_array, bad_item, values_of}

-- the texts up to the bracket that closes the array, and the tokens that follow it; nothing where
-- another token stands among them
unfoldable pub texts_from : List Token → Option (List Value × List Token)
texts_from [] = None
texts_from (Token.end_array ∷ tokens) = Some ([], tokens)
texts_from (Token.string text ∷ tokens) =
    option_map (λ read. (Text text ∷ read.0, read.1)) (texts_from tokens)
texts_from (Token.begin_object ∷ tokens) = None
texts_from (Token.end_object ∷ tokens) = None
texts_from (Token.begin_array ∷ tokens) = None
texts_from (Token.key text ∷ tokens) = None
texts_from (Token.number text ∷ tokens) = None
texts_from (Token.boolean b ∷ tokens) = None
texts_from (Token.null ∷ tokens) = None
texts_from (Token.bad ∷ tokens) = None

-- the line is an array of values, which make this row
pub record IsRead (line : List ℕ) (row : List Value) : Type 0 where
  pub items : Items
  pub array : array_of line ≡ Some items
  pub good : bad_item (Some items) ≡ None
  pub values : row ≡ values_of items

-- why the line is no array of values
abbrev pub unread_fault : List ℕ → Option LineFault
unread_fault line =
    first_some
    (not_json (json_of line) ∷ not_array (array_of line) ∷ bad_item (array_of line) ∷ [])
