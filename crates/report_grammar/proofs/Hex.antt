-- The hexadecimal text of a number is that of its bytes.
use Rattle.std.proofs.Common.{◌≡◌, ℕ, zero, suc, ◌+◌, ◌*◌, ◌/◌, ◌%◌, ◌^◌, ◌<◌, ◌==◌, ◌&&◌, Bool, true, inl, inr, [], ◌∷◌, ◌++◌, slice_index, refl, ap, ap₂, sym, ◌∙◌, arith}
use Rattle.std.specs.Int.{bytes_high_first, byte_at, to_be_bytes, w64}
use Rattle.std.proofs.Math.Nat.{div-div-eq-div-mul, pow-suc, pow-succ'}
use Rattle.std.proofs.lemmas.Bool.{and_parts, cases_lt, eqb-true}
use Rattle.hex.specs.Hex.{lower_digits, encode_with, encode_lower}
use Rattle.report_grammar.specs.Report.{hex_digit, hex_text}

-- ---- the highest digit first

high_first : (digits n : ℕ) → hex_text (suc digits) n ≡ hex_digit (n / 16 ^ digits % 16) ∷ hex_text digits n
unfolding hex_text
high_first zero n = let same : n / 1 ≡ n = omega arith in rw same refl
high_first (suc digits) n =
    let above : n / 16 / 16 ^ digits ≡ n / 16 ^ suc digits = div-div-eq-div-mul n 16 (16 ^ digits) ∙ ap (λ m. n / m) (sym (pow-succ' 16 digits)) in
    ap (λ text. text ++ hex_digit (n % 16) ∷ []) (high_first digits (n / 16)) ∙ ap (λ m. hex_digit (m % 16) ∷ hex_text (suc digits) n) above

-- ---- a byte's two digits

-- a test of the first n digits
abbrev are_digits : ℕ → Bool
are_digits zero = true
are_digits (suc n) = (slice_index lower_digits n == hex_digit n) && are_digits n

digit_below : (n d : ℕ) → are_digits n ≡ true → d < n → slice_index lower_digits d ≡ hex_digit d
digit_below zero d all below = absurd (omega arith)
digit_below (suc n) d all below =
    let parts = and_parts (slice_index lower_digits n == hex_digit n) (are_digits n) all in
    elim (cases_lt d n) [
      | inl lower ↦ digit_below n d parts.1 lower
      | inr top ↦
          let last : d ≡ n = omega arith in
          rw last (eqb-true (slice_index lower_digits n) (hex_digit n) parts.0)
    ]

digit_at : (d : ℕ) → d < 16 → slice_index lower_digits d ≡ hex_digit d
digit_at d low = digit_below 16 d refl low

-- the digits of a byte that stands above so many digits
byte_digits : (m : ℕ) → (slice_index lower_digits (m % 256 / 16) ≡ hex_digit (m / 16 % 16)) × (slice_index lower_digits (m % 256 % 16) ≡ hex_digit (m % 16))
byte_digits m =
    let high : m % 256 / 16 ≡ m / 16 % 16 = omega arith in
    let low : m % 256 % 16 ≡ m % 16 = omega arith in
    (ap (slice_index lower_digits) high ∙ digit_at (m / 16 % 16) (omega arith), ap (slice_index lower_digits) low ∙ digit_at (m % 16) (omega arith))

-- ---- all bytes

powers : (k : ℕ) → 256 ^ k ≡ 16 ^ (k + k)
powers zero = refl
powers (suc k) =
    let twice : suc k + suc k ≡ suc (suc (k + k)) = omega arith in
    let rest : 256 ^ k ≡ 16 ^ (k + k) = powers k in
    rw twice (pow-suc 256 k ∙ (ap (λ m. m * 256) rest ∙ (sixteens (16 ^ (k + k)) ∙ sym (pow-suc 16 (suc (k + k)) ∙ ap (λ m. m * 16) (pow-suc 16 (k + k))))))
  where
    sixteens : (m : ℕ) → m * 256 ≡ m * 16 * 16
    sixteens m = omega arith

byte_is : (k n : ℕ) → byte_at k n ≡ n / 16 ^ (k + k) % 256
byte_is zero n = let same : n / 1 ≡ n = omega arith in ap (λ m. m % 256) (sym same)
byte_is (suc k) n = ap (λ m. n / m % 256) (powers (suc k))

hex_none : (n : ℕ) → [] ≡ hex_text 0 n
unfolding hex_text
hex_none n = refl

pairs : (k n : ℕ) → encode_with lower_digits (bytes_high_first k n) ≡ hex_text (k + k) n
unfolding encode_with
pairs zero n = hex_none n
pairs (suc k) n =
    let twice : suc k + suc k ≡ suc (suc (k + k)) = omega arith in
    let byte = byte_is k n in
    let both = byte_digits (n / 16 ^ (k + k)) in
    let higher : n / 16 ^ (k + k) / 16 ≡ n / 16 ^ suc (k + k) = div-div-eq-div-mul n (16 ^ (k + k)) 16 ∙ ap (λ m. n / m) (sym (pow-suc 16 (k + k))) in
    let high : slice_index lower_digits (byte_at k n / 16) ≡ hex_digit (n / 16 ^ suc (k + k) % 16) = ap (λ b. slice_index lower_digits (b / 16)) byte ∙ (both.0 ∙ ap (λ m. hex_digit (m % 16)) higher) in
    let low : slice_index lower_digits (byte_at k n % 16) ≡ hex_digit (n / 16 ^ (k + k) % 16) = ap (λ b. slice_index lower_digits (b % 16)) byte ∙ both.1 in
    rw twice (ap₂ (λ x xs. x ∷ xs) high (ap₂ (λ x xs. x ∷ xs) low (pairs k n) ∙ sym (high_first (k + k) n)) ∙ sym (high_first (suc (k + k)) n))

pub digits_of_bytes : (n : ℕ) → encode_lower (to_be_bytes w64 n) ≡ hex_text 16 n
digits_of_bytes n = pairs 8 n
