-- Each record is a row of one short text.
use Rattle.std.proofs.Common.{◌≡◌, ◌≤◌, ◌<◌, ◌+◌, ◌*◌, ◌%◌, ◌^◌, ℕ, zero, suc, List, [], ◌∷◌, ◌++◌, codes, decimal, length, All, lit≤, lit<, refl, ap, arith}
use Rattle.std.proofs.lemmas.Fmt.{length-decimal-le}
use Rattle.std.proofs.lemmas.List.{length-append}
use Rattle.std.proofs.lemmas.List.Elements.{All-cons, All-nil}
use Rattle.std.proofs.Math.Nat.{mod-lt}
use Rattle.storm_values.specs.declared.value.Value.{Value}
use Rattle.storm_values.specs.declared.value.Value.TheVariants.{Text}
use Rattle.storm_values.specs.Rows.{IsRow, IsShort}
use Rattle.load_source.specs.Records.{more_words, next_number, number_after, records_after, sentence_after, word_of}

short_word : (x : ℕ) → length (word_of x) ≤ 3
short_word x =
    let small : x % 50 < 50 = omega arith in
    let digits : length (decimal (x % 50)) ≤ 2 =
    length-decimal-le 2 (x % 50) (lit< tt) (omega arith) (omega arith)
    in omega (arith, length-append (codes "w") (decimal (x % 50)))

short_words : (k x : ℕ) → length (more_words k x) ≤ 4 * k
short_words zero x = lit≤ tt
short_words (suc k) x =
    let word : length (word_of (next_number x)) ≤ 3 = short_word (next_number x) in
    let rest : length (more_words k (next_number x)) ≤ 4 * k = short_words k (next_number x) in
    omega (arith, length-append (word_of (next_number x)) (more_words k (next_number x)), length-append (codes " ") (word_of (next_number x) ++ more_words k (next_number x)))

short_sentence : (x : ℕ) → length (sentence_after x) ≤ 4096
short_sentence x =
    let word : length (word_of (next_number x)) ≤ 3 = short_word (next_number x) in
    let rest : length (more_words 5 (next_number x)) ≤ 4 * 5 = short_words 5 (next_number x) in
    omega (arith, length-append (word_of (next_number x)) (more_words 5 (next_number x)))

one_row : (x : ℕ) → IsRow 1 (Text (sentence_after x) ∷ [])
one_row x = record {
  width = refl;
  short = All-cons IsShort (Text (sentence_after x)) [] (short_sentence x) (All-nil IsShort);
}

pub all_rows : (n x : ℕ) → All (IsRow 1) (records_after n x)
unfolding records_after
all_rows zero x = All-nil (IsRow 1)
all_rows (suc n) x =
    All-cons (IsRow 1) (Text (sentence_after x) ∷ []) (records_after n (number_after 6 x)) (one_row x)
    (all_rows n (number_after 6 x))

pub so_many : (n x : ℕ) → length (records_after n x) ≡ n
unfolding records_after
so_many zero x = refl
so_many (suc n) x = ap suc (so_many n (number_after 6 x))
