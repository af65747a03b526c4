-- The number that digits say.
use Rattle.std.proofs.Common.{◌≡◌, ℕ, ◌+◌, ◌-◌, ◌*◌, ◌^◌, ◌<◌, ◌≤◌, Bool, true, false, ltb, IsTrue, List, length, get_or, take, ◌∙◌, refl, add-one, arith, lit<}
use Rattle.std.specs.Char.{is_ascii_digit, digit_value}
use Rattle.std.specs.List.{list_all}
use Rattle.std.specs.Str.Parse.{digits_value}
use Rattle.std.proofs.Math.Nat.{pow-suc, pow-le-pow_right}
use Rattle.std.proofs.lemmas.Bool.Decides.{nat_tests}
use Rattle.std.proofs.lemmas.Int.Digits.{digits_value_more}
use Rattle.std.proofs.lemmas.List.Folds.{list_all_at}

digit_by : (test : Bool) (digits : List ℕ) (i : ℕ) → i < length digits
    → IsTrue (list_all is_ascii_digit digits) → is_ascii_digit (get_or digits i 0) ≡ test
    → test ≡ true
digit_by true digits i within all is = refl
digit_by false digits i within all is =
    let other = list_all_at is_ascii_digit digits i 0 within is in
    cc

-- each of the digits is one
digit_at : (digits : List ℕ) (i : ℕ) → i < length digits → IsTrue (list_all is_ascii_digit digits)
    → is_ascii_digit (get_or digits i 0) ≡ true
digit_at digits i within all =
    digit_by (is_ascii_digit (get_or digits i 0)) digits i within all refl

digit_within : (byte : ℕ) → is_ascii_digit byte ≡ true → (48 ≤ byte) × (byte ≤ 57)
digit_within byte is = (grind (arith, nat_tests), grind (arith, nat_tests))

digit_value-decimal : (byte : ℕ) → 48 ≤ byte → byte ≤ 57 → digit_value byte ≡ byte - 48
digit_value-decimal byte least most =
    let above : ltb byte 48 ≡ false = grind (arith, nat_tests) in
    let below : ltb byte 58 ≡ true = grind (arith, nat_tests) in
    rw (above, below)

-- one digit more
pub value_more : (digits : List ℕ) (i : ℕ) → i < length digits
    → IsTrue (list_all is_ascii_digit digits)
    → digits_value 10 (take (i + 1) digits)
    ≡ 10 * digits_value 10 (take i digits) + (get_or digits i 0 - 48)
value_more digits i within all =
    let digit = digit_within (get_or digits i 0) (digit_at digits i within all) in
    let one = digit_value-decimal (get_or digits i 0) digit.0 digit.1 in
    digits_value_more 10 digits i within ∙ omega (arith, one)

-- it stays below the next power of ten
pub bound_more : (digits : List ℕ) (value i : ℕ) → i < length digits
    → IsTrue (list_all is_ascii_digit digits) → value < 10 ^ i
    → 10 * value + (get_or digits i 0 - 48) < 10 ^ (i + 1)
bound_more digits value i within all below =
    let digit = digit_within (get_or digits i 0) (digit_at digits i within all) in
    rw (add-one, pow-suc) (omega arith)

-- eight digits at most say less than this
pub value_within : (value n : ℕ) → n ≤ 8 → value < 10 ^ n → value < 100000000
value_within value n few below = omega (arith, pow-le-pow_right {n = 10} (lit< tt) few)
