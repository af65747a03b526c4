-- Which lines are records, and which fault a line or an input has. This project's own.
use Rattle.std.specs.Prelude.{ℕ, suc, List, [], ◌∷◌, length, take, map, nat_lt, ◌==◌, if◌then◌else◌, Option, Some, None, option_map, option_and_then, unwrap_or}
use Rattle.serde_json.specs.Data.{Data, Items, no_items, item}
use Rattle.serde_json.specs.Find.{as_array}
use Rattle.storm_values.specs.declared.value.Value.{Value}
use Rattle.storm_values.specs.declared.lines.LineFault.{LineFault}
use Rattle.storm_values.specs.declared.lines.LineFault.TheVariants.{TooLong, NotJson, NotArray, BadItem, WrongCount}
use Rattle.storm_values.specs.declared.lines.InputFault.{InputFault}
use Rattle.storm_values.specs.declared.lines.InputFault.TheVariants.{TooBig, Line, TooMany}
use Rattle.storm_values.specs.Json.{json_of, value_of}
use Rattle.storm_values.specs.Limits.{most_line_bytes, most_input_bytes, most_lines}

-- the first of some possible faults that is there
abbrev pub first_some : {F : Type 0} → List (Option F) → Option F
first_some [] = None
first_some (None ∷ rest) = first_some rest
first_some (Some fault ∷ rest) = Some fault

-- ---- the lines of an input

-- a byte before the first of some lines
abbrev pub before_first : ℕ → List (List ℕ) → List (List ℕ)
before_first byte [] = (byte ∷ []) ∷ []
before_first byte (line ∷ lines) = (byte ∷ line) ∷ lines

-- The pieces that bytes 10 end. An empty piece after the last byte 10 is no line. A
-- byte 13 stays in its line.
abbrev pub lines_of : List ℕ → List (List ℕ)
lines_of [] = []
lines_of (byte ∷ bytes) =
    if byte == 10 then [] ∷ lines_of bytes else before_first byte (lines_of bytes)

-- ---- one line

-- the items of the JSON array that a line is
abbrev pub array_of : List ℕ → Option Items
array_of line = option_and_then as_array (json_of line)

-- the values of the items that are values
abbrev pub values_of : Items → List Value
values_of no_items = []
values_of (item entry items) =
    unwrap_or (option_map (λ value. value ∷ values_of items) (value_of entry)) (values_of items)

-- the number of items
abbrev pub item_count : Items → ℕ
item_count no_items = 0
item_count (item entry items) = suc (item_count items)

-- the place of the first item that is no value, counted from at
abbrev pub first_bad_item : ℕ → Items → Option ℕ
first_bad_item at no_items = None
first_bad_item at (item entry items) =
    unwrap_or (option_map (λ _. first_bad_item (suc at) items) (value_of entry)) (Some at)

-- the five faults, each by itself
abbrev pub too_long : List ℕ → Option LineFault
too_long line = if nat_lt most_line_bytes (length line) then Some TooLong else None

abbrev pub not_json : Option Data → Option LineFault
not_json None = Some NotJson
not_json (Some entry) = None

abbrev pub not_array : Option Items → Option LineFault
not_array None = Some NotArray
not_array (Some items) = None

abbrev pub bad_item : Option Items → Option LineFault
bad_item None = None
bad_item (Some items) = option_map BadItem (first_bad_item 0 items)

abbrev pub wrong_count : ℕ → Option Items → Option LineFault
wrong_count want None = None
wrong_count want (Some items) =
    if item_count items == want then None else Some (WrongCount (item_count items))

-- the first fault of a line that is to have this number of values, in the order of the five
unfoldable pub line_fault : List ℕ → ℕ → Option LineFault
line_fault line want =
    first_some
    (too_long line ∷ not_json (json_of line) ∷ not_array (array_of line)
    ∷ bad_item (array_of line) ∷ wrong_count want (array_of line) ∷ [])

-- the row of a line, which means something where the line has no fault
unfoldable pub row_of : List ℕ → List Value
row_of line = unwrap_or (option_map values_of (array_of line)) []

-- ---- an input

abbrev pub too_big : List ℕ → Option InputFault
too_big bytes = if nat_lt most_input_bytes (length bytes) then Some TooBig else None

-- the first line with a fault, the first of the lines having this number
abbrev pub bad_line : ℕ → ℕ → List (List ℕ) → Option InputFault
bad_line want number [] = None
bad_line want number (line ∷ lines) =
    unwrap_or (option_map (λ fault. Some (Line number fault)) (line_fault line want))
    (bad_line want (suc number) lines)

abbrev pub too_many : List (List ℕ) → Option InputFault
too_many lines = if nat_lt most_lines (length lines) then Some TooMany else None

-- the first fault of an input whose records are to have this number of values
unfoldable pub input_fault : List ℕ → ℕ → Option InputFault
input_fault bytes want =
    first_some
    (too_big bytes ∷ bad_line want 1 (take most_lines (lines_of bytes))
    ∷ too_many (lines_of bytes) ∷ [])

-- the records of an input, in order
unfoldable pub records_of : List ℕ → List (List Value)
records_of bytes = map row_of (lines_of bytes)
