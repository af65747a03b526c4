-- What each kind of step tells the seat that makes it: of its book before, the word that was found,
-- and its book after.
use Rattle.std.specs.Prelude.{◌≡◌, ℕ, ◌+◌, ◌%◌, ◌^◌, Bool, true, false, length}
use Rattle.atomic_table.specs.Table.{Step, Me}
use Rattle.pass_numbers.specs.Numbers.{IsWhole}
use Rattle.pulse_board.specs.declared.rule.Book.{Book}
use Rattle.pulse_board.specs.Books.{numbers_in, Tells, ticked, looked, with_halt, made_halt}
use Rattle.pulse_board.specs.Rule.{bit}

module _ {S : Type 0} where
  -- the book after a tick by one
  abbrev pub Ticks : Step S → Me S Book → ℕ → Me S Book → Type 0
  Ticks step v found w =
      (w.1 ≡ v.1) × (w.0 ≡ ticked v.0 ((found + 1) % 2 ^ 64))
      × (IsWhole (numbers_in v.0) → Tells w.0)

  -- the book after a look at the count, which a seat with all numbers knows already
  abbrev pub Looks : Step S → Me S Book → ℕ → Me S Book → Type 0
  Looks step v found w =
      (w.1 ≡ v.1) × (w.0 ≡ looked v.0 found)
      × (IsWhole (numbers_in v.0) → Tells w.0 × (w.0.wrapped ≡ false → found ≡ length w.0.drawn))

  -- the book stays, and a seat with all numbers learns what it says
  abbrev pub Learns : Step S → Me S Book → ℕ → Me S Book → Type 0
  Learns step v found w = (w ≡ v) × (IsWhole (numbers_in v.0) → Tells v.0)

  -- the book after a halt
  abbrev pub Halts : Step S → Me S Book → ℕ → Me S Book → Type 0
  Halts step v found w = (w.1 ≡ v.1) × (w.0 ≡ made_halt v.0)

  -- the book after a look at the halt, which stays, and which a seat with all numbers knows already
  abbrev pub SeesHalt : Step S → Me S Book → ℕ → Me S Book → Type 0
  SeesHalt step v found w =
      (halted : Bool) × (found ≡ bit halted) × (w.1 ≡ v.1) × (w.0 ≡ with_halt v.0 halted)
      × (v.0.halted ≡ true → halted ≡ true) × (IsWhole (numbers_in v.0) → halted ≡ v.0.halted)
