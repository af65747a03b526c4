-- The rule of a board: what holds of its two words and of the books of all seats, between any two
-- steps. This project's own.
use Rattle.std.specs.Prelude.{◌≡◌, ◌⊎◌, ℕ, ◌≤◌, Bool, true, false, if◌then◌else◌, List, [], ◌∷◌, length}
use Rattle.std.specs.List.{AllByRecursion, flat_map}
use Rattle.counted_items.specs.Weights.{weigh, Same}
use Rattle.pass_numbers.specs.Numbers.{Numbered}
use Rattle.pulse_board.specs.declared.rule.Book.{Book}
use Rattle.pulse_board.specs.Books.{no_book, numbers_in, one_to, top}

-- a flag as a number
abbrev pub bit : Bool → ℕ
bit flag = if flag then 1 else 0

-- all numbers that were drawn, seat by seat
abbrev pub drawn_of : List Book → List ℕ
drawn_of books = flat_map (λ (b : Book). b.drawn) books

-- how many books are marked as wrapped
abbrev pub marks : List Book → ℕ
marks books = weigh (λ (b : Book). bit b.wrapped) books

-- how many books have seen or made a halt
abbrev pub halted_books : List Book → ℕ
halted_books books = weigh (λ (b : Book). bit b.halted) books

-- how many books have made a halt
abbrev pub makers : List Book → ℕ
makers books = weigh (λ (b : Book). bit b.made) books

-- no book is marked: the numbers in all books are 1 to the count, each in one book, and no seat has
-- seen more
pub record Steady (count : ℕ) (books : List Book) : Type 0 where
  pub unmarked : marks books ≡ 0
  pub drawn : Same (drawn_of books) (one_to count)
  pub low : AllByRecursion (λ (b : Book). b.seen ≤ count) books

-- some book is marked, and as many numbers were drawn as a word can count
pub record Wrapped (books : List Book) : Type 0 where
  pub marked : 1 ≤ marks books
  pub many : top ≤ length (drawn_of books)

-- a book without a number is empty
abbrev pub IsSpent : Book → Type 0
IsSpent b = b.numbers ≡ [] → b ≡ no_book

-- who made a halt has seen it
abbrev pub SawOwn : Book → Type 0
SawOwn b = b.made ≡ true → b.halted ≡ true

-- a halt was seen only where the board says so, which it does only where some book has made one
pub record KeepsHalt (flag : Bool) (books : List Book) : Type 0 where
  pub unset : flag ≡ false → halted_books books ≡ 0
  pub set : flag ≡ true → 1 ≤ makers books
  pub own : AllByRecursion SawOwn books

-- the two words are the count and the halt; the seats have all numbers, each once
pub record Kept (words : List ℕ) (books : List Book) : Type 0 where
  pub count : ℕ
  pub flag : Bool
  pub words_are : words ≡ count ∷ bit flag ∷ []
  pub numbered : Numbered numbers_in books
  pub spent : AllByRecursion IsSpent books
  pub halts : KeepsHalt flag books
  pub counts : Steady count books ⊎ Wrapped books
