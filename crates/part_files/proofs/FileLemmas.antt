-- What a file says after a piece of a put, whole or cut short.
use Rattle.std.proofs.Common.{◌≡◌, ℕ, zero, suc, ◌+◌, ◌/◌, ◌%◌, ◌==◌, ◌<◌, ◌≤◌, ◌⊎◌, inl, inr, Bool, true, false, cond, List, [], ◌∷◌, ◌++◌, length, take, drop, slice_index, Option, Some, None, refl, sym, ap, ◌∙◌, add-one, arith}
use Rattle.std.specs.List.{All, onto_first, position, position_or_len, slice_split}
use Rattle.std.proofs.Math.ListN.{get_or-eq_default}
use Rattle.std.proofs.Math.Seq.{take-append_seam}
use Rattle.std.proofs.lemmas.Bool.{cases_lt}
use Rattle.std.proofs.lemmas.Bool.Decides.{nat_tests}
use Rattle.std.proofs.lemmas.List.{append_assoc, append-nil, length-append, take-append-le, take_all}
use Rattle.std.proofs.lemmas.List.Elements.{All-nil, All-cons, All-head, All-tail, All-append, All-take, All-get_or, All-from_get_or, All-from_recursion}
use Rattle.std.proofs.lemmas.List.Sums.{fails_before_first}
use Rattle.std.proofs.lemmas.List.Splits.{slice_split_none, slice_split_at, slice_split_first}
use Rattle.std.proofs.lemmas.List.Quantifiers.{position-Some}
use Rattle.hex.specs.Hex.{IsBytes, encode_lower, encode_with, lower_digits}
use Rattle.hex.proofs.HexLemmas.{decode_of-encode_lower}
use Rattle.storm_stores.specs.CellMaps.{CellMap, InKeyOrder, with_cell}
use Rattle.storm_stores.specs.MemoryStore.{StoreState, store_of}
use Rattle.storm_stores.proofs.CellMapLemmas.{InKeyOrder-none, InKeyOrder-with_cell}
use Rattle.part_files.specs.PartFiles.{after_lines, after_put, both, bytes_in, line_of, lines_in, map_of, pair_in, piece_of, put_in, decoded}

-- ---- no line end, space or full stop stands among digits

-- no byte is this one
abbrev pub IsOther : ℕ → ℕ → Type 0
IsOther c byte = (byte == c) ≡ false

abbrev pub Lacks : ℕ → List ℕ → Type 0
Lacks c xs = All (IsOther c) xs

digits_lack_10 : Lacks 10 lower_digits
digits_lack_10 = All-from_recursion (IsOther 10) lower_digits (refl, (refl, (refl, (refl, (refl, (refl, (refl, (refl, (refl, (refl, (refl, (refl, (refl, (refl, (refl, (refl, tt))))))))))))))))

digits_lack_32 : Lacks 32 lower_digits
digits_lack_32 = All-from_recursion (IsOther 32) lower_digits (refl, (refl, (refl, (refl, (refl, (refl, (refl, (refl, (refl, (refl, (refl, (refl, (refl, (refl, (refl, (refl, tt))))))))))))))))

digits_lack_46 : Lacks 46 lower_digits
digits_lack_46 = All-from_recursion (IsOther 46) lower_digits (refl, (refl, (refl, (refl, (refl, (refl, (refl, (refl, (refl, (refl, (refl, (refl, (refl, (refl, (refl, (refl, tt))))))))))))))))

digit_lacks : (c : ℕ) (t : List ℕ) → Lacks c t → (0 == c) ≡ false → (i : ℕ) → (slice_index t i == c) ≡ false
digit_lacks c t lacks zero_lacks i =
    elim (cases_lt i (length t)) [
      | inl below ↦ All-get_or (IsOther c) t i 0 below lacks
      | inr past ↦ rw (get_or-eq_default t 0 past) zero_lacks
    ]

encoding_lacks : (c : ℕ) (t : List ℕ) → Lacks c t → (0 == c) ≡ false → (xs : List ℕ) → Lacks c (encode_with t xs)
unfolding encode_with
encoding_lacks c t lacks z [] = All-nil (IsOther c)
encoding_lacks c t lacks z (b ∷ rest) =
    All-cons (IsOther c) (slice_index t (b / 16)) (slice_index t (b % 16) ∷ encode_with t rest) (digit_lacks c t lacks z (b / 16))
    (All-cons (IsOther c) (slice_index t (b % 16)) (encode_with t rest) (digit_lacks c t lacks z (b % 16)) (encoding_lacks c t lacks z rest))

hex_lacks_10 : (xs : List ℕ) → Lacks 10 (encode_lower xs)
hex_lacks_10 xs = encoding_lacks 10 lower_digits digits_lack_10 refl xs

hex_lacks_32 : (xs : List ℕ) → Lacks 32 (encode_lower xs)
hex_lacks_32 xs = encoding_lacks 32 lower_digits digits_lack_32 refl xs

hex_lacks_46 : (xs : List ℕ) → Lacks 46 (encode_lower xs)
hex_lacks_46 xs = encoding_lacks 46 lower_digits digits_lack_46 refl xs

-- ---- the place of a byte

place_at : (c : ℕ) (xs ys : List ℕ) → Lacks c xs → position_or_len (λ byte. byte == c) (xs ++ c ∷ ys) ≡ length xs
place_at c [] ys lacks =
    let here : (c == c) ≡ true = grind (arith, nat_tests) in
    rw here refl
place_at c (x ∷ xs) ys lacks =
    let later = place_at c xs ys (All-tail (IsOther c) x xs lacks) in
    let other : (x == c) ≡ false = All-head (IsOther c) x xs lacks in
    rw (other, later) (omega arith)

no_place : (c : ℕ) (xs : List ℕ) → Lacks c xs → position_or_len (λ byte. byte == c) xs ≡ length xs
no_place c [] lacks = refl
no_place c (x ∷ xs) lacks =
    let later = no_place c xs (All-tail (IsOther c) x xs lacks) in
    let other : (x == c) ≡ false = All-head (IsOther c) x xs lacks in
    rw (other, later) (omega arith)

position_at : (c : ℕ) (xs ys : List ℕ) → Lacks c xs → position (λ byte. byte == c) (xs ++ c ∷ ys) ≡ Some (length xs)
position_at c xs ys lacks =
    let more = length-append xs (c ∷ ys) in
    rw (place_at c xs ys lacks) (grind (arith, nat_tests, more))

position_none : (c : ℕ) (xs : List ℕ) → Lacks c xs → position (λ byte. byte == c) xs ≡ None
position_none c xs lacks = rw (no_place c xs lacks) (grind (arith, nat_tests))

-- ---- the put that a line says

pair_at : (key cell : List ℕ) → Lacks 32 key → pair_in (key ++ 32 ∷ cell) ≡ both (bytes_in key) (bytes_in cell)
unfolding pair_in
pair_at key cell lacks =
    let front = take-append_seam key (32 ∷ cell) in
    let back : drop (length key + 1) (key ++ 32 ∷ cell) ≡ cell = rw add-one (after_seam key 32 cell) in
    rw (position_at 32 key cell lacks, front, back) refl
  where
    after_seam : (xs : List ℕ) (y : ℕ) (ys : List ℕ) → drop (suc (length xs)) (xs ++ y ∷ ys) ≡ ys
    after_seam [] y ys = refl
    after_seam (x ∷ xs) y ys = after_seam xs y ys

put_at : (text : List ℕ) → Lacks 46 text → put_in (text ++ 46 ∷ []) ≡ pair_in text
unfolding put_in
put_at text lacks =
    let ends : (length text + 1 == length (text ++ 46 ∷ [])) ≡ true =
    let more = length-append text (46 ∷ []) in grind (arith, nat_tests, more) in
    let front = take-append_seam text (46 ∷ []) in
    rw (position_at 46 text [] lacks, ends, front) refl

put_none : (line : List ℕ) → Lacks 46 line → put_in line ≡ None
unfolding put_in
put_none line lacks = rw (position_none 46 line lacks) refl

hex_said : (xs : List ℕ) → IsBytes xs → bytes_in (encode_lower xs) ≡ Some xs
unfolding bytes_in
hex_said xs are = ap decoded (decode_of-encode_lower xs are)

-- what stands before the full stop
abbrev front_of : List ℕ → List ℕ → List ℕ
front_of key cell = encode_lower key ++ 32 ∷ encode_lower cell

line_is : (key cell : List ℕ) → line_of key cell ≡ front_of key cell ++ 46 ∷ []
line_is key cell = sym (append_assoc (encode_lower key) (32 ∷ encode_lower cell) (46 ∷ []))

front_lacks : (c : ℕ) (key cell : List ℕ) → Lacks c (encode_lower key) → (32 == c) ≡ false → Lacks c (encode_lower cell) → Lacks c (front_of key cell)
front_lacks c key cell in_key space in_cell =
    All-append (IsOther c) (encode_lower key) (32 ∷ encode_lower cell) in_key (All-cons (IsOther c) 32 (encode_lower cell) space in_cell)

put_of-line : (key cell : List ℕ) → IsBytes key → IsBytes cell → put_in (line_of key cell) ≡ Some (key, cell)
put_of-line key cell key_is cell_is =
    ap put_in (line_is key cell)
    ∙ put_at (front_of key cell) (front_lacks 46 key cell (hex_lacks_46 key) refl (hex_lacks_46 cell))
    ∙ pair_at (encode_lower key) (encode_lower cell) (hex_lacks_32 key)
    ∙ rw (hex_said key key_is, hex_said cell cell_is) refl

-- a line that was cut short says no put
put_of-cut : (key cell : List ℕ) (k : ℕ) → k ≤ length (front_of key cell) → put_in (take k (line_of key cell)) ≡ None
put_of-cut key cell k short =
    ap (λ line. put_in (take k line)) (line_is key cell)
    ∙ ap put_in (take-append-le k (front_of key cell) (46 ∷ []) short)
    ∙ put_none (take k (front_of key cell))
    (All-take (IsOther 46) k (front_of key cell) (front_lacks 46 key cell (hex_lacks_46 key) refl (hex_lacks_46 cell)))

line_lacks : (key cell : List ℕ) → Lacks 10 (line_of key cell)
line_lacks key cell =
    All-append (IsOther 10) (encode_lower key) (32 ∷ (encode_lower cell ++ 46 ∷ [])) (hex_lacks_10 key)
    (All-cons (IsOther 10) 32 (encode_lower cell ++ 46 ∷ []) refl
    (All-append (IsOther 10) (encode_lower cell) (46 ∷ []) (hex_lacks_10 cell) (All-cons (IsOther 10) 46 [] refl (All-nil (IsOther 10)))))

-- ---- lines

-- a first byte goes onto the first of some lines, whatever lines follow
onto_append : {X : Type 0} (x : X) (first : List X) (parts more : List (List X)) → onto_first x ((first ∷ parts) ++ more) ≡ onto_first x (first ∷ parts) ++ more
onto_append x first parts more = refl

-- there is a first line
split_some : {X : Type 0} (p : X → Bool) (xs : List X) → (first : List X) × (parts : List (List X)) × (slice_split p xs ≡ first ∷ parts)
split_some {X = X} p [] = ([], [], refl)
split_some {X = X} p (x ∷ xs) = cases (p x) (split_some p xs)
  where
    cases : (b : Bool) → (first : List X) × (parts : List (List X)) × (slice_split p xs ≡ first ∷ parts)
        → (first : List X) × (parts : List (List X)) × (cond b ([] ∷ slice_split p xs) (onto_first x (slice_split p xs)) ≡ first ∷ parts)
    cases true rest = ([], slice_split p xs, refl)
    cases false rest = (x ∷ rest.0, rest.1, ap (onto_first x) rest.2)

split_append : {X : Type 0} (p : X → Bool) (xs : List X) (y : X) (ys : List X) → p y ≡ true → slice_split p (xs ++ y ∷ ys) ≡ slice_split p xs ++ slice_split p ys
split_append {X = X} p [] y ys is = rw is refl
split_append {X = X} p (x ∷ xs) y ys is =
    let later = split_append p xs y ys is in
    let some = split_some p xs in
    rw later (cases (p x) some)
  where
    cases : (b : Bool) → (first : List X) × (parts : List (List X)) × (slice_split p xs ≡ first ∷ parts)
        → cond b ([] ∷ (slice_split p xs ++ slice_split p ys)) (onto_first x (slice_split p xs ++ slice_split p ys))
        ≡ cond b ([] ∷ slice_split p xs) (onto_first x (slice_split p xs)) ++ slice_split p ys
    cases true some = refl
    cases false some = rw some.2 refl

after_append : (cells : CellMap) (lines more : List (List ℕ)) → after_lines cells (lines ++ more) ≡ after_lines (after_lines cells lines) more
after_append cells [] more = refl
after_append cells (line ∷ lines) more = after_append (after_put cells (put_in line)) lines more

-- what is appended behind a line end is lines of its own
behind : (bytes more : List ℕ) → map_of (bytes ++ 10 ∷ more) ≡ after_lines (map_of bytes) (lines_in more)
unfolding map_of
behind bytes more =
    ap (after_lines []) (split_append (λ byte. byte == 10) bytes 10 more refl)
    ∙ after_append [] (lines_in bytes) (lines_in more)

one_line : (cells : CellMap) (line : List ℕ) → Lacks 10 line → after_lines cells (lines_in line) ≡ after_put cells (put_in line)
one_line cells line lacks = ap (after_lines cells) (slice_split_none (λ byte. byte == 10) line lacks)

-- nothing is said by no bytes
nothing_said : put_in [] ≡ None
nothing_said = put_none [] (All-nil (IsOther 46))

closed_line : (cells : CellMap) (line : List ℕ) → Lacks 10 line → after_lines cells (lines_in (line ++ 10 ∷ [])) ≡ after_put cells (put_in line)
closed_line cells line lacks =
    ap (after_lines cells) (slice_split_at (λ byte. byte == 10) line 10 [] lacks refl)
    ∙ ap (after_put (after_put cells (put_in line))) nothing_said

pub map_of-put : (bytes key cell : List ℕ) → IsBytes key → IsBytes cell → map_of (bytes ++ piece_of key cell) ≡ with_cell (map_of bytes) key cell
map_of-put bytes key cell key_is cell_is =
    behind bytes (line_of key cell ++ 10 ∷ [])
    ∙ closed_line (map_of bytes) (line_of key cell) (line_lacks key cell)
    ∙ ap (after_put (map_of bytes)) (put_of-line key cell key_is cell_is)

-- a piece behind its first line end, cut short
cut_behind : (bytes key cell : List ℕ) (k : ℕ) → IsBytes key → IsBytes cell
    → (map_of (bytes ++ 10 ∷ take k (line_of key cell ++ 10 ∷ [])) ≡ map_of bytes)
    ⊎ (map_of (bytes ++ 10 ∷ take k (line_of key cell ++ 10 ∷ [])) ≡ with_cell (map_of bytes) key cell)
cut_behind bytes key cell k key_is cell_is =
    let line = line_of key cell in
    let front = front_of key cell in
    let long : length line ≡ length front + 1 = ap length (line_is key cell) ∙ length-append front (46 ∷ []) in
    elim (cases_lt k (length line)) [
      | inl below ↦ inl (
          ap (λ more. map_of (bytes ++ 10 ∷ more)) (take-append-le k line (10 ∷ []) (omega arith))
          ∙ behind bytes (take k line)
          ∙ one_line (map_of bytes) (take k line) (All-take (IsOther 10) k line (line_lacks key cell))
          ∙ ap (after_put (map_of bytes)) (put_of-cut key cell k (omega (arith, long))))
      | inr past ↦ elim (cases_lt (length line) k) [
        | inl more ↦ inr (
            ap (λ more. map_of (bytes ++ 10 ∷ more)) (take_all k (line ++ 10 ∷ []) (let sum = length-append line (10 ∷ []) in omega (arith, sum)))
            ∙ map_of-put bytes key cell key_is cell_is)
        | inr up_to ↦ let e : k ≡ length line = omega arith in inr (
            ap (λ n. map_of (bytes ++ 10 ∷ take n (line ++ 10 ∷ []))) e
            ∙ ap (λ more. map_of (bytes ++ 10 ∷ more)) (take-append_seam line (10 ∷ []))
            ∙ behind bytes line
            ∙ one_line (map_of bytes) line (line_lacks key cell)
            ∙ ap (after_put (map_of bytes)) (put_of-line key cell key_is cell_is))
      ]
    ]

pub map_of-cut : (bytes key cell : List ℕ) (k : ℕ) → IsBytes key → IsBytes cell
    → (map_of (bytes ++ take k (piece_of key cell)) ≡ map_of bytes)
    ⊎ (map_of (bytes ++ take k (piece_of key cell)) ≡ with_cell (map_of bytes) key cell)
map_of-cut bytes key cell zero key_is cell_is = inl (ap map_of (append-nil bytes))
map_of-cut bytes key cell (suc k) key_is cell_is = cut_behind bytes key cell k key_is cell_is

-- ---- the order of keys

put_keeps : (cells : CellMap) (put : Option (List ℕ × List ℕ)) → InKeyOrder cells → InKeyOrder (after_put cells put)
put_keeps cells None ordered = ordered
put_keeps cells (Some put) ordered = InKeyOrder-with_cell cells put.0 put.1 ordered

lines_keep : (cells : CellMap) (lines : List (List ℕ)) → InKeyOrder cells → InKeyOrder (after_lines cells lines)
lines_keep cells [] ordered = ordered
lines_keep cells (line ∷ lines) ordered = lines_keep (after_put cells (put_in line)) lines (put_keeps cells (put_in line) ordered)

pub map_of-ordered : (bytes : List ℕ) → InKeyOrder (map_of bytes)
unfolding map_of
map_of-ordered bytes = lines_keep [] (lines_in bytes) InKeyOrder-none

-- ---- reading line by line

end_within : (bytes : List ℕ) (end : ℕ) → position (λ byte. byte == 10) bytes ≡ Some end → end < length bytes
end_within bytes end is = (position-Some (λ byte. byte == 10) bytes end 0 is).0

end_is : (bytes : List ℕ) (end : ℕ) → position (λ byte. byte == 10) bytes ≡ Some end → position_or_len (λ byte. byte == 10) bytes ≡ end
end_is bytes end is = grind (arith, nat_tests)

pub lines_next : (bytes : List ℕ) (end : ℕ) → position (λ byte. byte == 10) bytes ≡ Some end → lines_in bytes ≡ take end bytes ∷ lines_in (drop (end + 1) bytes)
lines_next bytes end is =
    let same = end_is bytes end is in
    let within = end_within bytes end is in
    rw same at (slice_split_first (λ byte. byte == 10) bytes 0 (omega arith))

pub lines_last : (bytes : List ℕ) → position (λ byte. byte == 10) bytes ≡ None → lines_in bytes ≡ bytes ∷ []
lines_last bytes is =
    let none : length bytes ≤ position_or_len (λ byte. byte == 10) bytes = grind (arith, nat_tests) in
    slice_split_none (λ byte. byte == 10) bytes
    (All-from_get_or (λ byte. (byte == 10) ≡ false) bytes 0 (λ i within. fails_before_first (λ byte. byte == 10) bytes i 0 (omega arith)))

pub map_of-lines : (bytes : List ℕ) → map_of bytes ≡ after_lines [] (lines_in bytes)
unfolding map_of
map_of-lines bytes = refl

pub store_next : (old new : StoreState) (cells : CellMap) → old ≡ store_of old.cells → new ≡ record old { cells = cells } → new ≡ store_of cells
store_next old new cells plain is = is ∙ ap (λ (s : StoreState). record s { cells = cells }) plain
