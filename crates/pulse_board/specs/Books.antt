-- What the seats of a board know, and what each call adds to it.
use Rattle.std.specs.Prelude.{◌≡◌, ℕ, zero, suc, ◌-◌, ◌^◌, ◌≤◌, max, nat_lt, nat_le, Bool, true, false, ◌||◌, if◌then◌else◌, List, [], ◌∷◌, ◌++◌, length}
use Rattle.counted_items.specs.Weights.{Same}
use Rattle.pass_numbers.specs.declared.Number.{Number}
use Rattle.pass_numbers.specs.Numbers.{first_numbers, kept_numbers, cut_numbers}
use Rattle.pulse_board.specs.declared.rule.Book.{Book}

-- the numbers from 1 to n
abbrev pub one_to : ℕ → List ℕ
one_to zero = []
one_to (suc n) = one_to n ++ suc n ∷ []

-- the greatest count that a word can have
abbrev pub top : ℕ
top = 2 ^ 64 - 1

-- ---- books

abbrev pub book : ℕ → List ℕ → Bool → Bool → Bool → List Number → Book
book seen drawn halted made wrapped numbers =
    record {
      seen = seen;
      drawn = drawn;
      halted = halted;
      made = made;
      wrapped = wrapped;
      numbers = numbers;
    }

-- a seat's numbers
abbrev pub numbers_in : Book → List Number
numbers_in b = b.numbers

-- the book of a seat that is no more
abbrev pub no_book : Book
no_book = book 0 [] false false false []

-- the book of a board's first seat
abbrev pub first_book : Book
first_book = book 0 [] false false false first_numbers

-- the book that knows that the count wrapped
abbrev pub marked : Book → Book
marked b = book b.seen b.drawn b.halted b.made true b.numbers

-- the book with one more number, which is then the greatest seen
abbrev pub drew : Book → ℕ → Book
drew b number = book number (b.drawn ++ number ∷ []) b.halted b.made b.wrapped b.numbers

-- the book that has seen this count
abbrev pub saw : Book → ℕ → Book
saw b count = book count b.drawn b.halted b.made b.wrapped b.numbers

-- after a tick with this number: the count wrapped where the number is not above what was seen
abbrev pub ticked : Book → ℕ → Book
ticked b number = if nat_le number b.seen then marked b else drew b number

-- after a look that found this count: it wrapped where it is below what was seen
abbrev pub looked : Book → ℕ → Book
looked b count = if nat_lt count b.seen then marked b else saw b count

-- after a look that found a halt or none
abbrev pub with_halt : Book → Bool → Book
with_halt b halted = book b.seen b.drawn halted b.made b.wrapped b.numbers

-- after it made a halt
abbrev pub made_halt : Book → Book
made_halt b = book b.seen b.drawn true true b.wrapped b.numbers

-- after a split: what the seat keeps, and what the new one has, which has seen what its parent had
abbrev pub kept_of : Book → Book
kept_of b = book b.seen b.drawn b.halted b.made b.wrapped (kept_numbers b.numbers)

abbrev pub cut_of : Book → Book
cut_of b = book b.seen [] b.halted false b.wrapped (cut_numbers b.numbers)

-- after a join: both books in one
abbrev pub both_of : Book → Book → Book
both_of b c =
    book (max b.seen c.seen) (b.drawn ++ c.drawn) (b.halted || c.halted) (b.made || c.made)
    (b.wrapped || c.wrapped) (b.numbers ++ c.numbers)

-- ---- what a seat with all numbers knows

-- A marked book drew at least 2^64 - 1 numbers. A book that is not marked drew the numbers from 1
-- to some T, each once, and has seen at most T.
pub record Tells (b : Book) : Type 0 where
  pub marked : b.wrapped ≡ true → top ≤ length b.drawn
  pub drawn : b.wrapped ≡ false → Same b.drawn (one_to (length b.drawn))
  pub seen : b.wrapped ≡ false → b.seen ≤ length b.drawn
