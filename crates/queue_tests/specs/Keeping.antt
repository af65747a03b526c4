-- What a function that is lent a pass, or given one and gives it back, leaves of it.
use Rattle.std.specs.Prelude.{List, ◌∷◌}
use Rattle.pass_numbers.specs.Numbers.{Numbered}
use Rattle.task_queues.specs.declared.rule.View.{View}
use Rattle.task_queues.specs.Books.{numbers_of}

-- where this pass and others had all numbers, it has them with the same others after that
abbrev pub KeepsNumbers : {M : Type 0} → View M → View M → Type 0
KeepsNumbers {M} v w =
    (others : List (View M)) → Numbered numbers_of (v ∷ others) → Numbered numbers_of (w ∷ others)
