-- Calls of one kind, some of which are to fail.
use Rattle.std.specs.Prelude.{ℕ, ◌+◌, ◌%◌, ◌^◌, ◌==◌, List, [], ◌∷◌, ◌++◌, Option, option_map, find, IsSome}

-- how many calls were made, modulo 2^64, and those that fail, by their numbers counted from 1, each
-- with its fate
pub record CallLog (F : Type 0) : Type 0 where
  pub made : ℕ
  pub failing : List (ℕ × F)

module _ {F : Type 0} where
  -- no call yet, and none fails
  abbrev pub no_calls : CallLog F
  no_calls = record { made = 0; failing = [] }

  -- the call of this number fails too, with this fate
  abbrev pub failing_as : CallLog F → ℕ → F → CallLog F
  failing_as calls number fate =
      record calls { failing = calls.failing ++ (number, fate) ∷ [] }

  -- one call more
  abbrev pub counted : CallLog F → CallLog F
  counted calls = record calls { made = (calls.made + 1) % 2 ^ 64 }

  -- the fate of the call of a number, where it is one that fails
  abbrev pub fate_in : List (ℕ × F) → ℕ → Option F
  fate_in failing number =
      option_map (λ (call : ℕ × F). call.1) (find (λ (call : ℕ × F). call.0 == number) failing)

  -- the same of the next call
  abbrev pub next_fate : CallLog F → Option F
  next_fate calls = fate_in calls.failing ((calls.made + 1) % 2 ^ 64)

  -- the next call is one that fails
  abbrev pub NextFails : CallLog F → Type 0
  NextFails calls = IsSome (next_fate calls)

-- a call whose fate is nothing, so that it is told by its number alone
abbrev pub NoFate : Type 0
NoFate = Unit {0}

-- the call of this number fails too
abbrev pub failing_at : CallLog NoFate → ℕ → CallLog NoFate
failing_at calls number = failing_as calls number tt
