-- A number is read where its text stands in front, and what is read is its text.
use Rattle.std.proofs.Common.{◌≡◌, ◌≤◌, ◌<◌, ◌^◌, ◌+◌, ℕ, zero, suc, ◌&&◌, Bool, true, false, cond, nat_le, List, [], ◌∷◌, ◌++◌, length, take, drop, get_or, Option, Some, None, option_map, refl, sym, ap, ◌∙◌, arith, lit≤}
use Rattle.std.specs.Char.{is_ascii_digit}
use Rattle.std.specs.Fmt.{decimal}
use Rattle.std.specs.List.{list_all, prefix_len}
use Rattle.std.specs.Str.Parse.{digits_value}
use Rattle.std.proofs.Math.Seq.{take-append_seam}
use Rattle.std.proofs.lemmas.List.{take-append-drop}
use Rattle.std.proofs.lemmas.Bool.{and_parts, true≢false}
use Rattle.std.proofs.lemmas.Bool.Decides.{nat_tests}
use Rattle.std.proofs.lemmas.Fmt.{decimal-digits_value, decimal_nonempty, digits_decimal, digits_value-decimal, first_decimal, length-decimal-le}
use Rattle.std.proofs.lemmas.Option.{none-some, same_Some}
use Rattle.std.proofs.lemmas.Str.Parse.{IsNumeralModel, numerals_by_value, tells_all_ascii_digits}
use Rattle.report_grammar.specs.steps.Reading.{a_number, is_numeral, number_in}
use Rattle.report_grammar.proofs.Fronts.{all_taken}

abbrev pub AreDigits : List ℕ → Type 0
AreDigits ds = list_all is_ascii_digit ds ≡ true

pub own : IsNumeralModel AreDigits (digits_value 10)
own = numerals_by_value _ tells_all_ascii_digits

pub front_len : {X : Type 0} (p : X → Bool) (xs rest : List X) → list_all p xs ≡ true → prefix_len p rest ≡ 0 → prefix_len p (xs ++ rest) ≡ length xs
front_len p [] rest all ends = ends
front_len p (x ∷ xs) rest all ends =
    let h = and_parts (p x) (list_all p xs) all in
    let first = h.0 in
    let more = front_len p xs rest h.1 ends in
    let e : 1 + length xs ≡ suc (length xs) = omega arith in
    ap (λ b. cond b (1 + prefix_len p (xs ++ rest)) 0) first ∙ ap (λ n. 1 + n) more ∙ e

numeral : (ds : List ℕ) → 0 < length ds → length ds ≤ 20 → (get_or ds 0 0 ≡ 48 → length ds ≡ 1) → is_numeral ds ≡ true
numeral [] some few lead = absurd (omega arith)
numeral (d ∷ ds) some few lead = grind (arith, nat_tests, lead)

decimal_numeral : (n : ℕ) → n < 2 ^ 64 → is_numeral (decimal n) ≡ true
decimal_numeral n small =
    numeral (decimal n) (decimal_nonempty n small) (length-decimal-le 20 n (lit≤ tt) (omega arith) small) (lead n small)
  where
    lead : (m : ℕ) → m < 2 ^ 64 → get_or (decimal m) 0 0 ≡ 48 → length (decimal m) ≡ 1
    lead zero s e = omega (arith, length-decimal-le 1 0 (lit≤ tt) (lit≤ tt) s, decimal_nonempty 0 s)
    lead (suc m) s e = absurd (omega (arith, e, first_decimal (suc m) (omega arith) s))

pub in_of_decimal : (most n : ℕ) → n < 2 ^ 64 → n ≤ most → number_in most (decimal n) ≡ Some n
in_of_decimal most n small fits =
    let a = decimal_numeral n small in
    let b = digits_value-decimal own n small in
    let c : nat_le n most ≡ true = grind (arith, nat_tests) in
    rw (a, b, c) refl

pub drop_seam : {X : Type 0} (xs ys : List X) → drop (length xs) (xs ++ ys) ≡ ys
drop_seam [] ys = refl
drop_seam (x ∷ xs) ys = drop_seam xs ys

pub number_reads : (most n : ℕ) (rest : List ℕ) → n < 2 ^ 64 → n ≤ most → prefix_len is_ascii_digit rest ≡ 0
    → a_number most (decimal n ++ rest) ≡ Some (n, rest)
unfolding a_number
number_reads most n rest small fits ends =
    let ds : List ℕ = decimal n in
    let len = front_len is_ascii_digit ds rest (digits_decimal own n small) ends in
    ap (λ k. option_map (λ m. (m, drop k (ds ++ rest))) (number_in most (take k (ds ++ rest)))) len
    ∙ ap (λ t. option_map (λ m. (m, drop (length ds) (ds ++ rest))) (number_in most t)) (take-append_seam ds rest)
    ∙ ap (λ r. option_map (λ m. (m, drop (length ds) (ds ++ rest))) r) (in_of_decimal most n small fits)
    ∙ ap (λ r. Some (n, r)) (drop_seam ds rest)
