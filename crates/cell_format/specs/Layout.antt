-- The bytes of a cell: 46 in format 2, which is written, and 42 in format 1, which is read too.
-- These are this project's own formats.
use Rattle.std.specs.Prelude.{◌≡◌, ◌≢◌, ◌⊎◌, ℕ, ◌+◌, ◌*◌, ◌<◌, ◌^◌, ◌==◌, ℤ, Bool, true, false, not, List, [], ◌∷◌, ◌++◌, length, take, drop, fold, replicate, slice_index_or, bit_and, Option, None, Some, IsSome, IsNone, IfSome, is_some, FitsSigned}
use Rattle.std.specs.Int.{w32, w64, w128, to_be_bytes, cast_unsigned, cast_signed}
use Rattle.tree_model.specs.topology_plan.declared.parts.Kind.{Kind}
use Rattle.tree_model.specs.topology_plan.declared.parts.Kind.TheVariants.{Transactional, Opaque}
use Rattle.cell_format.specs.declared.cell.Cell.{Cell}

-- the flag of something that is there
abbrev pub flag_if : Bool → ℕ → ℕ
flag_if true flag = flag
flag_if false flag = 0

abbrev pub kind_flag : Kind → ℕ
kind_flag Transactional = 0
kind_flag Opaque = 4

-- 1 where there is a value, 2 where there is a value before, 4 for an opaque cell, added up
abbrev pub flags_of : Cell → ℕ
flags_of cell = flag_if (is_some cell.value) 1 + flag_if (is_some cell.prev) 2 + kind_flag cell.kind

-- 128 bits in two's complement, the highest byte first, and all 0 where there is no number
unfoldable pub number_bytes : Option ℤ → List ℕ
number_bytes None = replicate 16 0
number_bytes (Some number) = to_be_bytes w128 (cast_unsigned w128 number)

-- the transaction, the highest byte first
unfoldable pub txid_bytes : ℕ → List ℕ
txid_bytes txid = to_be_bytes w64 txid

-- the attempt, the highest byte first
unfoldable pub attempt_bytes : ℕ → List ℕ
attempt_bytes attempt = to_be_bytes w32 attempt

-- the flags, the transaction, what format 2 has behind it, the value and the value before
unfoldable pub bytes_with : ℕ → List ℕ → Cell → List ℕ
bytes_with version attempt cell =
    version ∷ flags_of cell
    ∷ (txid_bytes cell.txid ++ (attempt ++ (number_bytes cell.value ++ number_bytes cell.prev)))

-- format 2, which has the attempt
abbrev pub bytes_of : Cell → List ℕ
bytes_of cell = bytes_with 2 (attempt_bytes cell.attempt) cell

-- format 1, which has no attempt
abbrev pub old_bytes_of : Cell → List ℕ
old_bytes_of cell = bytes_with 1 [] cell

-- the bytes are the cell's, in either format; the attempt of one of format 1 is not known
abbrev pub AreBytesOf : Cell → List ℕ → Type 0
AreBytesOf cell bytes =
    (bytes ≡ bytes_of cell) ⊎ ((bytes ≡ old_bytes_of cell) × (cell.attempt ≡ 0))

-- a transactional cell has a value, and none before
abbrev pub IsWhole : Kind → Option ℤ → Option ℤ → Type 0
IsWhole Transactional value prev = IsSome value × IsNone prev
IsWhole Opaque value prev = Unit {0}

-- a cell whose numbers fit their bytes
pub record IsCell (cell : Cell) : Type 0 where
  pub txid : cell.txid < 2 ^ 64
  pub attempt : cell.attempt < 2 ^ 32
  pub value : IfSome cell.value (FitsSigned w128)
  pub prev : IfSome cell.prev (FitsSigned w128)
  pub whole : IsWhole cell.kind cell.value cell.prev

-- ---- the same read back

-- the number whose bytes these are, the highest first
abbrev pub number_of : List ℕ → ℕ
number_of bytes = fold (λ number byte. number * 256 + byte) 0 bytes

abbrev pub has_flag : ℕ → ℕ → Bool
has_flag flags flag = not (bit_and flags flag == 0)

abbrev pub number_if : Bool → List ℕ → Option ℤ
number_if true bytes = Some (cast_signed w128 (number_of bytes))
number_if false bytes = None

abbrev pub kind_if : Bool → Kind
kind_if true = Opaque
kind_if false = Transactional

-- ---- the format of bytes, by whether there is an attempt

abbrev pub length_if : Bool → ℕ
length_if true = 46
length_if false = 42

abbrev pub version_if : Bool → ℕ
version_if true = 2
version_if false = 1

abbrev pub bytes_by : Bool → Cell → List ℕ
bytes_by true cell = bytes_of cell
bytes_by false cell = old_bytes_of cell

-- as many bytes as one of the formats has, and its version
abbrev pub HasVersion : List ℕ → Type 0
HasVersion bytes =
    ((length bytes ≡ 42) × (slice_index_or bytes 0 0 ≡ 1))
    ⊎ ((length bytes ≡ 46) × (slice_index_or bytes 0 0 ≡ 2))

-- as many bytes as one of the formats has, and another version
abbrev pub IsOtherVersion : List ℕ → Type 0
IsOtherVersion bytes =
    ((length bytes ≡ 42) × (slice_index_or bytes 0 0 ≢ 1))
    ⊎ ((length bytes ≡ 46) × (slice_index_or bytes 0 0 ≢ 2))

-- where the value stands: behind the attempt, if there is one
abbrev pub value_place : Bool → ℕ
value_place true = 14
value_place false = 10

abbrev pub attempt_if : Bool → List ℕ → ℕ
attempt_if true bytes = number_of (take 4 (drop 10 bytes))
attempt_if false bytes = 0

-- whether the version is that of format 2
abbrev pub has_attempt : List ℕ → Bool
has_attempt bytes = slice_index_or bytes 0 0 == 2

-- what the places of bytes of one of the formats say
abbrev pub read_by : Bool → List ℕ → Cell
read_by attempt bytes = record {
  txid = number_of (take 8 (drop 2 bytes));
  attempt = attempt_if attempt bytes;
  value = number_if (has_flag (slice_index_or bytes 1 0) 1)
      (take 16 (drop (value_place attempt) bytes));
  prev = number_if (has_flag (slice_index_or bytes 1 0) 2)
      (take 16 (drop (value_place attempt + 16) bytes));
  kind = kind_if (has_flag (slice_index_or bytes 1 0) 4);
}

-- what the places say, whether the bytes are a cell's or not
unfoldable pub read_of : List ℕ → Cell
read_of bytes = read_by (has_attempt bytes) bytes
