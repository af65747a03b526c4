-- A sink in memory.
use Rattle.std.specs.Prelude.{ℕ, ◌≡◌, ◌-◌, ◌⊎◌, List, [], length}
use Rattle.call_log.specs.Calls.{CallLog, NextFails, NoFate, no_calls}

-- the bytes taken, the most that one write takes, and the most that there is room for in all
pub record SinkState : Type 0 where
  pub taken : List ℕ
  pub longest : ℕ
  pub room : ℕ
  pub writes : CallLog NoFate
  pub faults : ℕ

abbrev pub empty_sink : ℕ → ℕ → SinkState
empty_sink longest room =
    record { taken = []; longest = longest; room = room; writes = no_calls; faults = 0 }

-- how many bytes there is still room for
abbrev pub free : SinkState → ℕ
free sink = sink.room - length sink.taken

-- the next write fails: it is one that was to fail, or there is no room
abbrev pub WriteFails : SinkState → Type 0
WriteFails sink = NextFails sink.writes ⊎ (free sink ≡ 0)
