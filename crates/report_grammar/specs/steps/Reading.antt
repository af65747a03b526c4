-- What is read from the front of a text. No public clause cites these.
use Rattle.std.specs.Prelude.{◌≡◌, ℕ, ◌==◌, ◌&&◌, ◌||◌, not, Bool, false, List, [], ◌∷◌, length, take, drop, nat_le, if◌then◌else◌, Option, Some, None, option_map, option_and_then}
use Rattle.std.specs.Char.{is_ascii_digit}
use Rattle.std.specs.List.{prefix_len}
use Rattle.std.specs.Str.{bytes_eq}
use Rattle.std.specs.Str.Parse.{digits_value}

-- what is read, and what is left
abbrev pub Reader : Type 0 → Type 0
Reader A = List ℕ → Option (A × List ℕ)

infixl 10 ◌>>=◌
abbrev pub ◌>>=◌ : {A B : Type 0} → Reader A → (A → Reader B) → Reader B
(first >>= next) text = option_and_then (λ r. next r.0 r.1) (first text)

module _ {A : Type 0} where
  abbrev pub gives : A → Reader A
  gives x text = Some (x, text)

  -- the text is at its end
  abbrev pub done : A → Reader A
  done x [] = Some (x, [])
  done x (byte ∷ bytes) = None

  -- a call that answered so left this of a text
  abbrev pub Takes : Option A → List ℕ → Option (A × List ℕ) → Type 0
  Takes result left read = option_map (λ x. (x, left)) result ≡ read

abbrev pub after_word : List ℕ → List ℕ → Option (List ℕ)
after_word word text =
    if bytes_eq (take (length word) text) word then Some (drop (length word) text) else None

unfoldable pub a_word : List ℕ → Reader (Unit {0})
a_word word text = option_map (λ rest. (tt, rest)) (after_word word text)

-- the digits in front
abbrev pub digits_of : List ℕ → List ℕ
digits_of text = take (prefix_len is_ascii_digit text) text

-- digits without a zero in front, and not too many of them
abbrev pub is_numeral : List ℕ → Bool
is_numeral [] = false
is_numeral (d ∷ ds) = nat_le (length ds) 19 && (not (d == 48) || length ds == 0)

abbrev pub number_in : ℕ → List ℕ → Option ℕ
number_in most ds =
    if is_numeral ds && nat_le (digits_value 10 ds) most then Some (digits_value 10 ds) else None

-- a decimal number up to the most
unfoldable pub a_number : ℕ → Reader ℕ
a_number most text =
    option_map (λ n. (n, drop (prefix_len is_ascii_digit text) text)) (number_in most (digits_of text))
