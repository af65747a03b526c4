-- Paths, ids, edges, spans and roots, as they are read: whole pieces of a text. No public clause
-- cites these.
use Rattle.std.specs.Prelude.{ℕ, ◌==◌, take, drop, List, [], ◌∷◌, not, if◌then◌else◌, Option, Some, None, option_map, option_and_then}
use Rattle.std.specs.List.{list_all, prefix_len, slice_split}
use Rattle.std.specs.Char.{is_ascii_digit}
use Rattle.std.specs.Int.{from_be_bytes, w64}
use Rattle.std.specs.Result.{result_ok}
use Rattle.storm_values.specs.declared.value.Root.{Root}
use Rattle.record_spans.specs.declared.span.Span.{Span}
use Rattle.hex.specs.Hex.{decode_sized}
use Rattle.report_grammar.specs.Report.{EdgeText}
use Rattle.report_grammar.specs.steps.Reading.{number_in}

-- each item read, if each can be
abbrev pub each : {A B : Type 0} → (A → Option B) → List A → Option (List B)
each read [] = Some []
each read (x ∷ xs) = option_and_then (λ y. option_map (λ ys. y ∷ ys) (each read xs)) (read x)

-- a text that is a number, and nothing else
abbrev pub number_of : ℕ → List ℕ → Option ℕ
number_of most text = if list_all is_ascii_digit text then number_in most text else None

-- a text that is a number of 64 bits, and nothing else
abbrev pub wide_number_of : List ℕ → Option ℕ
wide_number_of text = number_of 18446744073709551615 text

-- the pieces between the bytes that are `byte`
abbrev pub pieces : ℕ → List ℕ → List (List ℕ)
pieces byte text = slice_split (λ b. b == byte) text

-- the text up to a byte, the text from that byte on, and what follows the byte
abbrev pub front_of : ℕ → List ℕ → List ℕ
front_of byte text = take (prefix_len (λ b. not (b == byte)) text) text

abbrev pub from_byte : ℕ → List ℕ → List ℕ
from_byte byte text = drop (prefix_len (λ b. not (b == byte)) text) text

abbrev pub behind : List ℕ → Option (List ℕ)
behind [] = None
behind (x ∷ xs) = Some xs

abbrev pub rest_of : ℕ → List ℕ → Option (List ℕ)
rest_of byte text = behind (from_byte byte text)

-- the pieces that are left
abbrev pub pieces_left : ℕ → Option (List ℕ) → List (List ℕ)
pieces_left byte None = []
pieces_left byte (Some text) = pieces byte text

-- the last of some pieces
abbrev pub last_of : List (List ℕ) → List ℕ
last_of [] = []
last_of (piece ∷ []) = piece
last_of (piece ∷ next ∷ pieces) = last_of (next ∷ pieces)

-- numbers joined by full stops
unfoldable pub path_of : List ℕ → Option (List ℕ)
path_of text = each (number_of 4294967295) (pieces 46 text)

-- sixteen hexadecimal digits
unfoldable pub id_of : List ℕ → Option ℕ
id_of text = option_map (from_be_bytes w64) (result_ok (decode_sized text 8))

-- an edge of this path, if there is one, and this id
abbrev pub edge_with : Option (List ℕ) → ℕ → Option EdgeText
edge_with path id = option_map (λ (p : List ℕ). record { path = p; id = id }) path

-- a path, a colon and an id
unfoldable pub edge_of : List ℕ → Option EdgeText
edge_of text =
    option_and_then
    (λ digits. option_and_then (λ id. edge_with (path_of (front_of 58 text)) id) (id_of digits))
    (rest_of 58 text)

-- edges joined by spaces
unfoldable pub edges_of : List ℕ → Option (List EdgeText)
edges_of text = each edge_of (pieces 32 text)

-- a span from this number on, if there is one, to this number
abbrev pub span_with : Option ℕ → ℕ → Option Span
span_with first last = option_map (λ (n : ℕ). record { first = n; last = last }) first

-- two numbers of 64 bits, joined by a dash
unfoldable pub span_of : List ℕ → Option Span
span_of text =
    option_and_then
    (λ digits. option_and_then
    (λ last. span_with (wide_number_of (front_of 45 text)) last)
    (wide_number_of digits))
    (rest_of 45 text)

-- spans joined by commas
unfoldable pub spans_of : List ℕ → Option (List Span)
spans_of text = each span_of (pieces 44 text)

-- a root of this transaction, if there is one, and this attempt
abbrev pub root_with : Option ℕ → ℕ → Option Root
root_with txid attempt = option_map (λ (n : ℕ). record { txid = n; attempt = attempt }) txid

-- a number of 64 bits and one of 32 bits, joined by a full stop
unfoldable pub root_of : List ℕ → Option Root
root_of text =
    option_and_then
    (λ digits. option_and_then
    (λ attempt. root_with (wide_number_of (front_of 46 text)) attempt)
    (number_of 4294967295 digits))
    (rest_of 46 text)
