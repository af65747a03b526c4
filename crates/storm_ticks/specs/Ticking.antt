-- How ticks are handed out. This project's own.
use Rattle.std.specs.Prelude.{ℕ, ◌+◌, ◌-◌, ◌/◌, ◌^◌, List, [], ◌∷◌, min}

-- how many ticks were handed out with one more answer, in a count that ends at 2^64 - 1
abbrev pub handed_on : ℕ → ℕ → ℕ
handed_on before answer = min (before + answer) (2 ^ 64 - 1)

-- the next of the answers to come, which is 0 where there is none left
abbrev pub first_answer : List ℕ → ℕ
first_answer [] = 0
first_answer (answer ∷ _) = answer

-- how many ticks pass in so many seconds: one each 10 seconds
abbrev pub ticks_in : ℕ → ℕ
ticks_in seconds = seconds / 10

-- those of them that are not handed out yet, at most 2^32 - 1 at once
abbrev pub ticks_due : ℕ → ℕ → ℕ
ticks_due seconds handed_out = min (ticks_in seconds - handed_out) (2 ^ 32 - 1)
