-- The fault and the records of an input, a line at a time.
use Rattle.std.proofs.Common.{◌≡◌, ℕ, zero, suc, ◌<◌, ◌≤◌, ◌==◌, ltb, Bool, true, false, cond, Option, Some, None, option_map, List, [], ◌∷◌, map, length, take, refl, ap, sym, ◌∙◌, arith}
use Rattle.std.proofs.lemmas.Bool.Decides.{nat_tests}
use Rattle.std.proofs.lemmas.List.{take_all, length-take}
use Rattle.storm_values.specs.declared.lines.LineFault.{LineFault}
use Rattle.storm_values.specs.declared.lines.InputFault.{InputFault}
use Rattle.storm_values.specs.declared.lines.InputFault.TheVariants.{TooBig, Line, TooMany}
use Rattle.storm_values.specs.Lines.{first_some, lines_of, before_first, line_fault, row_of, bad_line, input_fault, records_of}

-- the first fault of some lines, of which this many may stand, the first having this number
unfoldable pub fault_of_lines : ℕ → ℕ → ℕ → List (List ℕ) → Option InputFault
fault_of_lines want number most lines =
    first_some (bad_line want number (take most lines) ∷ cond (ltb most (length lines)) (Some TooMany) None ∷ [])

pub input_fault-TooBig : (bytes : List ℕ) (want : ℕ) → 67108864 < length bytes → input_fault bytes want ≡ Some TooBig
unfolding input_fault
input_fault-TooBig bytes want long =
    let over : ltb 67108864 (length bytes) ≡ true = grind (arith, nat_tests) in
    rw over

pub input_fault-lines : (bytes : List ℕ) (want : ℕ) → length bytes ≤ 67108864 → input_fault bytes want ≡ fault_of_lines want 1 1000000 (lines_of bytes)
unfolding input_fault fault_of_lines
input_fault-lines bytes want short =
    let within : ltb 67108864 (length bytes) ≡ false = grind (arith, nat_tests) in
    rw within

-- no line is left
pub fault_of_lines-nil : (want number most : ℕ) → fault_of_lines want number most [] ≡ None
unfolding fault_of_lines
fault_of_lines-nil want number zero = refl
fault_of_lines-nil want number (suc most) =
    let within : ltb (suc most) 0 ≡ false = grind (arith, nat_tests) in
    rw within

-- a line is left, and none may stand
pub fault_of_lines-TooMany : (want number : ℕ) (lines : List (List ℕ)) → 0 < length lines → fault_of_lines want number 0 lines ≡ Some TooMany
unfolding fault_of_lines
fault_of_lines-TooMany want number lines some =
    let over : ltb 0 (length lines) ≡ true = grind (arith, nat_tests) in
    rw over

line_told : (found : Option LineFault) (want number most : ℕ) (line : List ℕ) (lines : List (List ℕ)) (fault : InputFault)
    → line_fault line want ≡ found → option_map (Line number) found ≡ Some fault → fault_of_lines want number (suc most) (line ∷ lines) ≡ Some fault
unfolding fault_of_lines
line_told None want number most line lines fault is told = cc
line_told (Some bad) want number most line lines fault is told = rw is told

-- the next line is bad
pub fault_of_lines-Line : (want number most : ℕ) (line : List ℕ) (lines : List (List ℕ)) (fault : InputFault) → 0 < most
    → option_map (Line number) (line_fault line want) ≡ Some fault → fault_of_lines want number most (line ∷ lines) ≡ Some fault
fault_of_lines-Line want number zero line lines fault some told = absurd (omega arith)
fault_of_lines-Line want number (suc most) line lines fault some told = line_told (line_fault line want) want number most line lines fault refl told

as_many : (most count : ℕ) → ltb (suc most) (suc count) ≡ ltb most count
as_many most count = grind (arith, nat_tests)

-- the next line is good
pub fault_of_lines-cons : (want number most less : ℕ) (line : List ℕ) (lines : List (List ℕ)) → most ≡ suc less → line_fault line want ≡ None
    → fault_of_lines want number most (line ∷ lines) ≡ fault_of_lines want (suc number) less lines
unfolding fault_of_lines
fault_of_lines-cons want number most less line lines is good = rw (is, good, as_many less (length lines))

length-cond : (test : Bool) (these those : List (List ℕ)) → 0 < length these → 0 < length those → 0 < length (cond test these those)
length-cond true these those first second = first
length-cond false these those first second = second

length-before_first : (byte : ℕ) (lines : List (List ℕ)) → 0 < length (before_first byte lines)
length-before_first byte [] = omega arith
length-before_first byte (line ∷ lines) = omega arith

-- bytes have a line
pub length-lines_of : (bytes : List ℕ) → 0 < length bytes → 0 < length (lines_of bytes)
length-lines_of [] some = some
length-lines_of (byte ∷ bytes) some =
    length-cond (byte == 10) ([] ∷ lines_of bytes) (before_first byte (lines_of bytes)) (omega arith) (length-before_first byte (lines_of bytes))

pub records_of-lines : (bytes : List ℕ) → records_of bytes ≡ map row_of (lines_of bytes)
unfolding records_of
records_of-lines bytes = refl

-- ---- one byte more than the limit tells as much as all

taken_fault : (over : Bool) (bytes : List ℕ) (want : ℕ) → ltb 67108864 (length bytes) ≡ over → input_fault (take 67108865 bytes) want ≡ input_fault bytes want
taken_fault true bytes want is =
    let long : 67108864 < length bytes = grind (arith, nat_tests) in
    let taken : 67108864 < length (take 67108865 bytes) = rw length-take (omega arith) in
    input_fault-TooBig (take 67108865 bytes) want taken ∙ sym (input_fault-TooBig bytes want long)
taken_fault false bytes want is =
    let short : length bytes ≤ 67108865 = grind (arith, nat_tests) in
    ap (λ all. input_fault all want) (take_all 67108865 bytes short)

pub input_fault-take : (bytes : List ℕ) (want : ℕ) → input_fault (take 67108865 bytes) want ≡ input_fault bytes want
input_fault-take bytes want = taken_fault (ltb 67108864 (length bytes)) bytes want refl

taken_records : (over : Bool) (bytes : List ℕ) (want : ℕ) → ltb 67108864 (length bytes) ≡ over → input_fault bytes want ≡ None → records_of (take 67108865 bytes) ≡ records_of bytes
taken_records true bytes want is good =
    let long : 67108864 < length bytes = grind (arith, nat_tests) in
    let big = input_fault-TooBig bytes want long in
    cc
taken_records false bytes want is good =
    let short : length bytes ≤ 67108865 = grind (arith, nat_tests) in
    ap records_of (take_all 67108865 bytes short)

pub records_of-take : (bytes : List ℕ) (want : ℕ) → input_fault bytes want ≡ None → records_of (take 67108865 bytes) ≡ records_of bytes
records_of-take bytes want = taken_records (ltb 67108864 (length bytes)) bytes want refl
