-- Bytes that are read as numbers, and when they are the bytes of the cell that was read.
use Rattle.std.proofs.Common.{◌≡◌, ℕ, zero, suc, ◌+◌, ◌*◌, ◌/◌, ◌%◌, ◌^◌, ◌<◌, ℤ, Bool, true, false, ◌&&◌, List, [], ◌∷◌, ◌++◌, length, take, drop, fold, get_or, Option, None, Some, is_some, refl, sym, ap, subst, ◌∙◌, rules, arith, Fits, length-take, length-drop}
use Rattle.std.specs.Int.{w8, w128, bytes_high_first, byte_at, cast_unsigned, cast_signed}
use Rattle.std.proofs.Math.Nat.{pow-suc, div-div-eq-div-mul}
use Rattle.std.proofs.lemmas.Int.{of_z-to_z}
use Rattle.std.proofs.lemmas.List.{drop-drop, take_all, take-append-drop}
use Rattle.cell_format.specs.declared.cell.Cell.{Cell}
use Rattle.cell_format.specs.Layout.{attempt_bytes, bytes_by, bytes_with, flags_of, has_flag, length_if, number_bytes, number_if, number_of, read_by, txid_bytes, value_place, version_if}
use Rattle.cell_format.proofs.LayoutLemmas.{byte_is, pieces, length-txid_bytes, length-attempt_bytes, length-number_bytes}

-- ---- the bytes of a number that was read

abbrev AreBytes : List ℕ → Type 0
AreBytes [] = Unit {0}
AreBytes (byte ∷ bytes) = (byte < 256) × AreBytes bytes

pub are_bytes : (bytes : List ℕ) → ((i : ℕ) → Fits w8 (get_or bytes i 0)) → AreBytes bytes
are_bytes [] fits = tt
are_bytes (byte ∷ bytes) fits = ((let here = fits 0 in search (rules, here)), are_bytes bytes (λ i. fits (suc i)))

take_bytes : (n : ℕ) (bytes : List ℕ) → AreBytes bytes → AreBytes (take n bytes)
take_bytes zero bytes are = tt
take_bytes (suc n) [] are = tt
take_bytes (suc n) (byte ∷ bytes) are = (are.0, take_bytes n bytes are.1)

drop_bytes : (n : ℕ) (bytes : List ℕ) → AreBytes bytes → AreBytes (drop n bytes)
drop_bytes zero bytes are = are
drop_bytes (suc n) [] are = tt
drop_bytes (suc n) (byte ∷ bytes) are = drop_bytes n bytes are.1

-- the number that is read on, after what was read before
abbrev read_on : ℕ → List ℕ → ℕ
read_on before bytes = fold (λ number byte. number * 256 + byte) before bytes

top : (bytes : List ℕ) (before : ℕ) → AreBytes bytes → read_on before bytes / 256 ^ length bytes ≡ before
top [] before are = omega arith
top (byte ∷ bytes) before are =
    let small = are.0 in
    let last : (before * 256 + byte) / 256 ≡ before = omega arith in
    ap (λ x. read_on before (byte ∷ bytes) / x) (pow-suc 256 (length bytes))
    ∙ sym (div-div-eq-div-mul (read_on before (byte ∷ bytes)) (256 ^ length bytes) 256)
    ∙ ap (λ x. x / 256) (top bytes (before * 256 + byte) are.1) ∙ last

written_back : (bytes : List ℕ) (before : ℕ) → AreBytes bytes → bytes_high_first (length bytes) (read_on before bytes) ≡ bytes
written_back [] before are = refl
written_back (byte ∷ bytes) before are =
    let small = are.0 in
    let last : (before * 256 + byte) % 256 ≡ byte = omega arith in
    let here : byte_at (length bytes) (read_on before (byte ∷ bytes)) ≡ byte =
    byte_is (length bytes) (read_on before (byte ∷ bytes)) ∙ ap (λ x. x % 256) (top bytes (before * 256 + byte) are.1) ∙ last in
    ap (λ b. b ∷ bytes_high_first (length bytes) (read_on before (byte ∷ bytes))) here
    ∙ ap (λ bs. byte ∷ bs) (written_back bytes (before * 256 + byte) are.1)

-- so many bytes are those of the number that they make
written_as : (n : ℕ) (bytes : List ℕ) → length bytes ≡ n → AreBytes bytes → bytes_high_first n (number_of bytes) ≡ bytes
written_as n bytes long are = subst (λ m. bytes_high_first m (number_of bytes) ≡ bytes) long (written_back bytes 0 are)

pub attempt_back : (bytes : List ℕ) → length bytes ≡ 4 → AreBytes bytes → attempt_bytes (number_of bytes) ≡ bytes
unfolding attempt_bytes
attempt_back bytes long are = written_as 4 bytes long are

pub txid_back : (bytes : List ℕ) → length bytes ≡ 8 → AreBytes bytes → txid_bytes (number_of bytes) ≡ bytes
unfolding txid_bytes
txid_back bytes long are = written_as 8 bytes long are

below_all : (bytes : List ℕ) → length bytes ≡ 16 → AreBytes bytes → number_of bytes < 2 ^ 128
below_all bytes long are =
    let none : number_of bytes / 256 ^ 16 ≡ 0 = ap (λ n. number_of bytes / 256 ^ n) (sym long) ∙ top bytes 0 are in omega arith

-- where there is a number, the bytes are its own
pub some_bytes : (bytes : List ℕ) (number : Option ℤ) → length bytes ≡ 16 → AreBytes bytes → is_some number ≡ true → number ≡ number_if (is_some number) bytes
    → bytes ≡ number_bytes number
unfolding number_bytes
some_bytes bytes None long are some read = cc
some_bytes bytes (Some number) long are some read =
    let same : number ≡ cast_signed w128 (number_of bytes) = cc in
    sym (ap (λ z. bytes_high_first 16 (cast_unsigned w128 z)) same
    ∙ ap (bytes_high_first 16) (of_z-to_z w128 (number_of bytes) (below_all bytes long are)) ∙ written_as 16 bytes long are)

-- where there is none, they are those of 0
pub none_bytes : (bytes : List ℕ) → length bytes ≡ 16 → AreBytes bytes → number_of bytes ≡ 0 → bytes ≡ number_bytes None
unfolding number_bytes
none_bytes bytes long are none = sym (written_as 16 bytes long are) ∙ ap (bytes_high_first 16) none

pub none_read : (bytes : List ℕ) → bytes ≡ number_bytes None → number_of bytes ≡ 0
unfolding number_bytes
none_read bytes is = ap number_of is

-- a number that was read by its flag is there exactly where the flag says so
by_itself : (flag : Bool) (bytes : List ℕ) (number : Option ℤ) → number ≡ number_if flag bytes → number ≡ number_if (is_some number) bytes
by_itself true bytes number is = subst (λ o. o ≡ number_if (is_some o) bytes) (sym is) refl
by_itself false bytes number is = subst (λ o. o ≡ number_if (is_some o) bytes) (sym is) refl

pub value_told : (b : Bool) (bytes : List ℕ) (cell : Cell) → cell ≡ read_by b bytes → cell.value ≡ number_if (is_some cell.value) (take 16 (drop (value_place b) bytes))
value_told b bytes cell is = by_itself (has_flag (get_or bytes 1 0) 1) (take 16 (drop (value_place b) bytes)) cell.value (ap (λ (c : Cell). c.value) is)

pub prev_told : (b : Bool) (bytes : List ℕ) (cell : Cell) → cell ≡ read_by b bytes → cell.prev ≡ number_if (is_some cell.prev) (take 16 (drop (value_place b + 16) bytes))
prev_told b bytes cell is = by_itself (has_flag (get_or bytes 1 0) 2) (take 16 (drop (value_place b + 16) bytes)) cell.prev (ap (λ (c : Cell). c.prev) is)

-- ---- the bytes of a cell that was read

-- 40 bytes fall into three pieces
three : (rest : List ℕ) → length rest ≡ 40 → rest ≡ take 8 rest ++ (take 16 (drop 8 rest) ++ take 16 (drop 24 rest))
three rest long =
    let left : length (drop 24 rest) ≡ 16 = omega (arith, length-drop 24 rest) in
    sym (ap (λ xs. take 8 rest ++ (take 16 (drop 8 rest) ++ xs)) (take_all 16 (drop 24 rest) (omega (arith, left)))
    ∙ ap (λ xs. take 8 rest ++ (take 16 (drop 8 rest) ++ xs)) (sym (drop-drop 16 8 rest))
    ∙ ap (λ xs. take 8 rest ++ xs) (take-append-drop 16 (drop 8 rest)) ∙ take-append-drop 8 rest)

-- 44 bytes fall into four pieces
four : (rest : List ℕ) → length rest ≡ 44 → rest ≡ take 8 rest ++ (take 4 (drop 8 rest) ++ (take 16 (drop 12 rest) ++ take 16 (drop 28 rest)))
four rest long =
    let left : length (drop 28 rest) ≡ 16 = omega (arith, length-drop 28 rest) in
    sym (ap (λ xs. take 8 rest ++ (take 4 (drop 8 rest) ++ (take 16 (drop 12 rest) ++ xs))) (take_all 16 (drop 28 rest) (omega (arith, left)))
    ∙ ap (λ xs. take 8 rest ++ (take 4 (drop 8 rest) ++ (take 16 (drop 12 rest) ++ xs))) (sym (drop-drop 16 12 rest))
    ∙ ap (λ xs. take 8 rest ++ (take 4 (drop 8 rest) ++ xs)) (take-append-drop 16 (drop 12 rest))
    ∙ ap (λ xs. take 8 rest ++ (take 4 (drop 8 rest) ++ xs)) (sym (drop-drop 4 8 rest))
    ∙ ap (λ xs. take 8 rest ++ xs) (take-append-drop 4 (drop 8 rest)) ∙ take-append-drop 8 rest)

-- the flags and the pieces decide whether bytes are a cell's
pub bytes_read : (b : Bool) (bytes : List ℕ) (cell : Cell) → length bytes ≡ length_if b → get_or bytes 0 0 ≡ version_if b → AreBytes bytes → cell ≡ read_by b bytes
    → get_or bytes 1 0 ≡ flags_of cell → take 16 (drop (value_place b) bytes) ≡ number_bytes cell.value → take 16 (drop (value_place b + 16) bytes) ≡ number_bytes cell.prev → bytes ≡ bytes_by b cell
unfolding bytes_with
bytes_read true (version ∷ flags ∷ rest) cell long first are is same_flags value prev =
    let txid : txid_bytes cell.txid ≡ take 8 rest =
    ap (λ (c : Cell). txid_bytes c.txid) is ∙ txid_back (take 8 rest) (omega (arith, length-take 8 rest)) (take_bytes 8 rest are.1.1) in
    let attempt : attempt_bytes cell.attempt ≡ take 4 (drop 8 rest) =
    ap (λ (c : Cell). attempt_bytes c.attempt) is ∙ attempt_back (take 4 (drop 8 rest)) (omega (arith, length-take 4 (drop 8 rest), length-drop 8 rest)) (take_bytes 4 (drop 8 rest) (drop_bytes 8 rest are.1.1)) in
    ap (λ xs. version ∷ flags ∷ xs) (four rest (omega arith))
    ∙ (rw (first, same_flags, txid, attempt, ← value, ← prev) refl)
bytes_read false (version ∷ flags ∷ rest) cell long first are is same_flags value prev =
    let txid : txid_bytes cell.txid ≡ take 8 rest =
    ap (λ (c : Cell). txid_bytes c.txid) is ∙ txid_back (take 8 rest) (omega (arith, length-take 8 rest)) (take_bytes 8 rest are.1.1) in
    ap (λ xs. version ∷ flags ∷ xs) (three rest (omega arith))
    ∙ (rw (first, same_flags, txid, ← value, ← prev) refl)
bytes_read true [] cell long first are is same_flags value prev = absurd (omega arith)
bytes_read true (byte ∷ []) cell long first are is same_flags value prev = absurd (omega arith)
bytes_read false [] cell long first are is same_flags value prev = absurd (omega arith)
bytes_read false (byte ∷ []) cell long first are is same_flags value prev = absurd (omega arith)

pub cell_pieces : (b : Bool) (bytes : List ℕ) (cell : Cell) → bytes ≡ bytes_by b cell
    → (get_or bytes 1 0 ≡ flags_of cell) × (take 16 (drop (value_place b) bytes) ≡ number_bytes cell.value) × (take 16 (drop (value_place b + 16) bytes) ≡ number_bytes cell.prev)
unfolding bytes_with
cell_pieces true bytes cell same =
    let at = pieces (txid_bytes cell.txid) (attempt_bytes cell.attempt) (number_bytes cell.value) (number_bytes cell.prev) 12 28 (length-txid_bytes cell.txid) (omega (arith, length-attempt_bytes cell.attempt)) (length-number_bytes cell.value) (length-number_bytes cell.prev) refl in
    (ap (λ xs. get_or xs 1 0) same, ap (λ xs. take 16 (drop 14 xs)) same ∙ at.2, ap (λ xs. take 16 (drop 30 xs)) same ∙ at.3)
cell_pieces false bytes cell same =
    let at = pieces (txid_bytes cell.txid) [] (number_bytes cell.value) (number_bytes cell.prev) 8 24 (length-txid_bytes cell.txid) refl (length-number_bytes cell.value) (length-number_bytes cell.prev) refl in
    (ap (λ xs. get_or xs 1 0) same, ap (λ xs. take 16 (drop 10 xs)) same ∙ at.2, ap (λ xs. take 16 (drop 26 xs)) same ∙ at.3)

-- ---- tests that are joined

pub both_true : (a b : Bool) → (a && b) ≡ true → (a ≡ true) × (b ≡ true)
both_true true b both = (refl, both)
both_true false b both = cc

pub all_true : (a b : Bool) → a ≡ true → b ≡ true → (a && b) ≡ true
all_true true b one other = other
all_true false b one other = cc
