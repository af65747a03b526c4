-- What the seats of a ledger know, and what each call adds to it. This project's own.
use Rattle.std.specs.Prelude.{ℕ, ◌==◌, Bool, ◌||◌, false, if◌then◌else◌, List, [], ◌∷◌, ◌++◌}
use Rattle.counted_items.specs.Weights.{weigh}
use Rattle.pass_numbers.specs.declared.Number.{Number}
use Rattle.pass_numbers.specs.Numbers.{first_numbers, kept_numbers, cut_numbers}
use Rattle.shared_ledger.specs.declared.rule.CallKind.{CallKind}
use Rattle.shared_ledger.specs.declared.rule.CallKind.TheVariants as kind
use Rattle.shared_ledger.specs.declared.rule.Call.{Call}
use Rattle.shared_ledger.specs.declared.rule.Book.{Book}
use Rattle.shared_ledger.specs.Xors.{xor_by}

-- ---- calls

abbrev pub init_of : ℕ → ℕ → Call
init_of root word = record { kind = kind.Init; root = root; word = word }

abbrev pub ack_of : ℕ → ℕ → Call
ack_of root word = record { kind = kind.Ack; root = root; word = word }

abbrev pub fail_of : ℕ → Call
fail_of root = record { kind = kind.Fail; root = root; word = 0 }

-- by what a call toggles its root's XOR word; a fail leaves it
abbrev pub toggles : CallKind → ℕ → ℕ
toggles kind.Init word = word
toggles kind.Ack word = word
toggles kind.Fail word = 0

-- 1 where it is a fail
abbrev pub fail_weight : CallKind → ℕ
fail_weight kind.Init = 0
fail_weight kind.Ack = 0
fail_weight kind.Fail = 1

-- 1 where it is an init
abbrev pub init_weight : CallKind → ℕ
init_weight kind.Init = 1
init_weight kind.Ack = 0
init_weight kind.Fail = 0

-- by what a call toggles the XOR word of this root
abbrev pub word_at : ℕ → Call → ℕ
word_at root c = if c.root == root then toggles c.kind c.word else 0

-- 1 where it is a fail of this root
abbrev pub fail_at : ℕ → Call → ℕ
fail_at root c = if c.root == root then fail_weight c.kind else 0

-- 1 where it is an init of this root
abbrev pub init_at : ℕ → Call → ℕ
init_at root c = if c.root == root then init_weight c.kind else 0

-- ---- books

abbrev pub book : List Call → List ℕ → ℕ → List Number → Book
book calls seen last_word numbers =
    record { calls = calls; seen = seen; last_word = last_word; numbers = numbers }

-- a seat's numbers
abbrev pub numbers_in : Book → List Number
numbers_in b = b.numbers

-- what the seat's last `init` or `ack` made of the root's word
abbrev pub last_word_in : Book → ℕ
last_word_in b = b.last_word

-- the XOR of the words that a book has for a root
abbrev pub word_of : ℕ → Book → ℕ
word_of root b = xor_by (word_at root) b.calls

-- how many fails of a root a book has
abbrev pub fails_of : ℕ → Book → ℕ
fails_of root b = weigh (fail_at root) b.calls

-- how many inits of a root a book has
abbrev pub inits_of : ℕ → Book → ℕ
inits_of root b = weigh (init_at root) b.calls

-- whether a root is among these
abbrev pub is_among : ℕ → List ℕ → Bool
is_among root [] = false
is_among root (r ∷ rs) = (r == root) || is_among root rs

-- whether the seat has seen the root's `init`
abbrev pub has_seen : ℕ → Book → Bool
has_seen root b = is_among root b.seen

-- the book of a seat that is no more
abbrev pub no_book : Book
no_book = book [] [] 0 []

-- the book of a ledger's first seat
abbrev pub first_book : Book
first_book = book [] [] 0 first_numbers

-- after a call that made this of the root's word: an init, which the seat has then seen, or an ack
abbrev pub inited : Book → ℕ → ℕ → ℕ → Book
inited b root word after = book (b.calls ++ init_of root word ∷ []) (root ∷ b.seen) after b.numbers

abbrev pub acked : Book → ℕ → ℕ → ℕ → Book
acked b root word after = book (b.calls ++ ack_of root word ∷ []) b.seen after b.numbers

-- after a fail
abbrev pub failed : Book → ℕ → Book
failed b root = book (b.calls ++ fail_of root ∷ []) b.seen b.last_word b.numbers

-- after a split: what the seat keeps, and what the new one has, which has seen what its parent had
abbrev pub kept_of : Book → Book
kept_of b = book b.calls b.seen b.last_word (kept_numbers b.numbers)

abbrev pub cut_of : Book → Book
cut_of b = book [] b.seen 0 (cut_numbers b.numbers)

-- after a join: the second book behind the first
abbrev pub both_of : Book → Book → Book
both_of b c =
    book (b.calls ++ c.calls) (b.seen ++ c.seen) b.last_word (b.numbers ++ c.numbers)
