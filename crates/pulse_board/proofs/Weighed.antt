-- What books weigh: their marks, their halts, and the numbers that they drew.
use Rattle.std.proofs.Common.{◌≡◌, ℕ, zero, suc, ◌+◌, ◌≤◌, ◌||◌, Bool, true, false, List, [], ◌∷◌, set, length, sym, refl, ◌∙◌, arith}
use mathlib.Core.Option.{some}
use lib.ListN.{get_elem?}
use Rattle.counted_items.specs.Weights.{weigh}
use Rattle.counted_items.proofs.Weighing.{weigh-append, weigh-flat_map}
use Rattle.pass_numbers.proofs.Weights.{weigh-set}
use Rattle.pulse_board.specs.declared.rule.Book.{Book}
use Rattle.pulse_board.specs.Books.{one_to}
use Rattle.pulse_board.specs.Rule.{bit, drawn_of}

-- ---- weights of one book

abbrev pub mark_of : Book → ℕ
mark_of b = bit b.wrapped

abbrev pub halt_of : Book → ℕ
halt_of b = bit b.halted

abbrev pub made_of : Book → ℕ
made_of b = bit b.made

abbrev pub drawn_weight : (ℕ → ℕ) → Book → ℕ
drawn_weight f b = weigh f b.drawn

abbrev pub one : ℕ → ℕ
one n = 1

-- ---- all books

pub drawn-is : (f : ℕ → ℕ) (books : List Book) → weigh f (drawn_of books) ≡ weigh (drawn_weight f) books
drawn-is f books = weigh-flat_map f (λ (b : Book). b.drawn) books

pub weigh-one : (xs : List ℕ) → weigh one xs ≡ length xs
weigh-one [] = refl
weigh-one (x ∷ xs) = omega (arith, weigh-one xs)

pub drawn-length : (books : List Book) → length (drawn_of books) ≡ weigh (drawn_weight one) books
drawn-length books = sym (weigh-one (drawn_of books)) ∙ drawn-is one books

pub one_to-more : (f : ℕ → ℕ) (n : ℕ) → weigh f (one_to (suc n)) ≡ weigh f (one_to n) + f (suc n)
one_to-more f n = let e = weigh-append f (one_to n) (suc n ∷ []) in omega arith

pub one_to-one : (n : ℕ) → weigh one (one_to n) ≡ n
one_to-one zero = refl
one_to-one (suc n) = let e = one_to-more one n in let g = one_to-one n in omega arith

-- the numbers after one book is set
pub drawn-set : (f : ℕ → ℕ) (books : List Book) (id : ℕ) (v w : Book) → get_elem? books id ≡ some v → weigh f (drawn_of (set books id w)) + weigh f v.drawn ≡ weigh f (drawn_of books) + weigh f w.drawn
drawn-set f books id v w at = let e = weigh-set (drawn_weight f) books id v w at in let a = drawn-is f books in let b = drawn-is f (set books id w) in omega arith

-- ---- flags

pub set_bit : (flag : Bool) → 1 ≤ bit flag → flag ≡ true
set_bit true l = refl
set_bit false l = absurd (omega arith)

pub clear_bit : (flag : Bool) → ◌≡◌ {A = ℕ} (bit flag) 0 → flag ≡ false
clear_bit true e = absurd (omega arith)
clear_bit false e = refl

-- a flag that is one of two weighs no more than both, and no less than either
pub or_bits : (a b : Bool) → (bit (a || b) ≤ bit a + bit b) × (bit a ≤ bit (a || b)) × (bit b ≤ bit (a || b))
or_bits true true = (omega arith, omega arith, omega arith)
or_bits true false = (omega arith, omega arith, omega arith)
or_bits false true = (omega arith, omega arith, omega arith)
or_bits false false = (omega arith, omega arith, omega arith)

pub or_own : (a b c d : Bool) → (a ≡ true → c ≡ true) → (b ≡ true → d ≡ true) → (a || b) ≡ true → (c || d) ≡ true
or_own true b c d first second is = rw (first refl) refl
or_own false b true d first second is = refl
or_own false b false d first second is = second is
