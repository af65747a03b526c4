-- The rule of a ledger: what holds of its words and of the books of all seats, between any two
-- steps. This project's own.
use Rattle.std.specs.Prelude.{◌≡◌, ℕ, ◌+◌, ◌*◌, ◌<◌, ◌≤◌, min, true, List, [], length, slice_index}
use Rattle.std.specs.List.{AllByRecursion}
use Rattle.counted_items.specs.Weights.{weigh}
use Rattle.pass_numbers.specs.Numbers.{Numbered}
use Rattle.shared_ledger.specs.declared.rule.Book.{Book}
use Rattle.shared_ledger.specs.Books.{no_book, numbers_in, word_of, fails_of, inits_of, has_seen}
use Rattle.shared_ledger.specs.Xors.{xor_by}

-- a book without a number is empty
abbrev pub IsSpent : Book → Type 0
IsSpent b = b.numbers ≡ [] → b ≡ no_book

-- the XOR of the words that all books have for a root
abbrev pub words_of : ℕ → List Book → ℕ
words_of root books = xor_by (word_of root) books

-- how many fails of a root all books have
abbrev pub all_fails : ℕ → List Book → ℕ
all_fails root books = weigh (fails_of root) books

-- how many inits of a root all books have
abbrev pub all_inits : ℕ → List Book → ℕ
all_inits root books = weigh (inits_of root) books

-- the roots whose init a seat has seen have one in some of these books
abbrev pub SawInits : List Book → Book → Type 0
SawInits books b = (root : ℕ) → has_seen root b ≡ true → 1 ≤ all_inits root books

-- Root r has the words 2 * r and 2 * r + 1. The first is the XOR of the words that all books
-- have for it, the second is 1 exactly where some book has a fail of it; the seats have all
-- numbers, each once; and they have seen no init that no book has.
pub record Kept (roots : ℕ) (words : List ℕ) (books : List Book) : Type 0 where
  pub wide : length words ≡ 2 * roots
  pub numbered : Numbered numbers_in books
  pub spent : AllByRecursion IsSpent books
  pub xors : (root : ℕ) → root < roots → slice_index words (2 * root) ≡ words_of root books
  pub fails : (root : ℕ) → root < roots
      → slice_index words (2 * root + 1) ≡ min 1 (all_fails root books)
  pub saw : AllByRecursion (SawInits books) books
