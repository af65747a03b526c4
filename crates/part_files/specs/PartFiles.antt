-- The file of a part: a line for each put, with the key and the cell in hexadecimal. This
-- project's own.
use Rattle.std.specs.Prelude.{ℕ, ◌+◌, ◌==◌, List, [], ◌∷◌, ◌++◌, length, take, drop, if◌then◌else◌, Option, Some, None, option_and_then, Result, Ok, Err}
use Rattle.std.specs.List.{position, slice_split}
use Rattle.hex.specs.Hex.{decode_of, encode_lower}
use Rattle.hex.specs.declared.error.FromHexError.{FromHexError}
use Rattle.storm_stores.specs.CellMaps.{CellMap, with_cell}

-- ---- what a put appends

-- The key, a space, the cell and a full stop. Without the full stop a line that was cut short
-- might name another cell.
abbrev pub line_of : List ℕ → List ℕ → List ℕ
line_of key cell = encode_lower key ++ 32 ∷ (encode_lower cell ++ 46 ∷ [])

-- the line with a line end before it and after it
abbrev pub piece_of : List ℕ → List ℕ → List ℕ
piece_of key cell = 10 ∷ (line_of key cell ++ 10 ∷ [])

-- ---- what a file says

-- a key and its cell
abbrev pub Put : Type 0
Put = List ℕ × List ℕ

abbrev pub decoded : Result (List ℕ) FromHexError → Option (List ℕ)
decoded (Ok bytes) = Some bytes
decoded (Err fault) = None

-- the bytes that a text of hexadecimal digits says, whatever the case of its letters
unfoldable pub bytes_in : List ℕ → Option (List ℕ)
bytes_in text = decoded (decode_of text)

abbrev pub both : Option (List ℕ) → Option (List ℕ) → Option Put
both None cell = None
both (Some key) None = None
both (Some key) (Some cell) = Some (key, cell)

-- the key and the cell that stand before and after the first space
unfoldable pub pair_in : List ℕ → Option Put
pair_in text =
    option_and_then (λ at. both (bytes_in (take at text)) (bytes_in (drop (at + 1) text)))
    (position (λ byte. byte == 32) text)

-- the put that a line says, whose one full stop ends it
unfoldable pub put_in : List ℕ → Option Put
put_in line =
    option_and_then (λ end. if end + 1 == length line then pair_in (take end line) else None)
    (position (λ byte. byte == 46) line)

-- The pieces between line ends. The last one counts too, so that a line end behind it changes
-- nothing.
abbrev pub lines_in : List ℕ → List (List ℕ)
lines_in bytes = slice_split (λ byte. byte == 10) bytes

-- a line that says no put is skipped
abbrev pub after_put : CellMap → Option Put → CellMap
after_put cells None = cells
after_put cells (Some put) = with_cell cells put.0 put.1

abbrev pub after_lines : CellMap → List (List ℕ) → CellMap
after_lines cells [] = cells
after_lines cells (line ∷ lines) = after_lines (after_put cells (put_in line)) lines

-- the cells of a file: the last line of a key counts
unfoldable pub map_of : List ℕ → CellMap
map_of bytes = after_lines [] (lines_in bytes)
