-- What a command comes to before its text is written.
use Rattle.std.specs.Prelude.{◌≡◌, ◌⊎◌, ℕ, List, [], string_bytes}
use Rattle.storm_answers.specs.declared.status.Status.{Status}
use Rattle.storm_answers.specs.declared.status.Status.TheVariants as status
use Rattle.storm_answers.specs.declared.early_end.EarlyEnd.{EarlyEnd}
use Rattle.storm_answers.specs.declared.early_end.EarlyEnd.TheVariants.{Memory, Told}
use Rattle.storm_answers.specs.Ends.{HasText}
use Rattle.storm_answers.specs.Outside.{SinkUse, SinkFailed, TookText, TookFront}

-- the stop is one of those that statuses come to
abbrev pub Stops : (Status → List ℕ → Type 0) → EarlyEnd → Type 0
Stops Comes Memory = Comes status.Memory []
Stops Comes (Told ending line) = HasText ending × Comes ending (string_bytes line)

-- the fact holds of the status and the line of the stop, where it has these
abbrev pub IfTold : EarlyEnd → (Status → List ℕ → Type 0) → Type 0
IfTold Memory P = Unit {0}
IfTold (Told ending line) P = P ending (string_bytes line)

-- a text of a status was written, and the status is answered; or it was cut short
abbrev pub IsWritten : Status → List ℕ → SinkUse → Status → Type 0
IsWritten ending text sink answer =
    ((answer ≡ ending) × TookText sink text)
    ⊎ ((answer ≡ status.WriteFault) × SinkFailed sink × TookFront sink text)

-- the text of a stop was written
abbrev pub IsStopWritten : EarlyEnd → SinkUse → Status → Type 0
IsStopWritten Memory sink answer = (answer ≡ status.Memory) × (sink.taken_after ≡ sink.taken_before)
IsStopWritten (Told ending line) sink answer = IsWritten ending (string_bytes line) sink answer

-- it is want of memory
abbrev pub IsMemory : EarlyEnd → Type 0
IsMemory Memory = Unit {0}
IsMemory (Told ending line) = ⊥
