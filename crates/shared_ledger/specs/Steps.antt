-- What each kind of step tells the seat that makes it: of its book before, the word that was found,
-- and its book after. Root r has the words 2 * r and 2 * r + 1.
use Rattle.std.specs.Prelude.{◌≡◌, ℕ, ◌/◌, ◌≤◌, min, bit_xor}
use Rattle.atomic_table.specs.Table.{Step, Me}
use Rattle.pass_numbers.specs.Numbers.{IsWhole}
use Rattle.shared_ledger.specs.declared.rule.Book.{Book}
use Rattle.shared_ledger.specs.Books.{numbers_in, word_of, fails_of, inited, acked, failed}

module _ {S : Type 0} where
  -- the book after an init, with the word after the step, which a seat with all numbers knows
  abbrev pub Inits : Step S → Me S Book → ℕ → Me S Book → Type 0
  Inits step v found w =
      (w.1 ≡ v.1) × (w.0 ≡ inited v.0 (step.word / 2) step.first (bit_xor found step.first))
      × (IsWhole (numbers_in v.0) → bit_xor found step.first ≡ word_of (step.word / 2) w.0)

  -- the same after an ack
  abbrev pub Acks : Step S → Me S Book → ℕ → Me S Book → Type 0
  Acks step v found w =
      (w.1 ≡ v.1) × (w.0 ≡ acked v.0 (step.word / 2) step.first (bit_xor found step.first))
      × (IsWhole (numbers_in v.0) → bit_xor found step.first ≡ word_of (step.word / 2) w.0)

  -- the book after a fail
  abbrev pub Fails : Step S → Me S Book → ℕ → Me S Book → Type 0
  Fails step v found w = (w.1 ≡ v.1) × (w.0 ≡ failed v.0 (step.word / 2))

  -- the book stays, and a seat with all numbers knows the word
  abbrev pub LooksAtWord : Step S → Me S Book → ℕ → Me S Book → Type 0
  LooksAtWord step v found w =
      (w ≡ v) × (IsWhole (numbers_in v.0) → found ≡ word_of (step.word / 2) v.0)

  -- the book stays; its own fails are found, and a seat with all numbers knows the word
  abbrev pub LooksAtFail : Step S → Me S Book → ℕ → Me S Book → Type 0
  LooksAtFail step v found w =
      (w ≡ v) × (1 ≤ fails_of (step.word / 2) v.0 → found ≡ 1)
      × (IsWhole (numbers_in v.0) → found ≡ min 1 (fails_of (step.word / 2) v.0))
