-- A log in memory.
use Rattle.std.specs.Prelude.{ℕ, ◌-◌, ◌<◌, ◌⊎◌, min, List, length, Option, unwrap_or, IsSome}
use Rattle.call_log.specs.Calls.{CallLog, NoFate, counted, failing_as, next_fate, no_calls}

-- the appends, and of each that is cut short how many bytes it adds at most
abbrev pub AppendLog : Type 0
AppendLog = CallLog ℕ

-- the bytes, and the most that there is room for in all
pub record LogState : Type 0 where
  pub bytes : List ℕ
  pub room : ℕ
  pub reads : CallLog NoFate
  pub appends : AppendLog
  pub faults : ℕ

-- a log with these bytes, whose calls do not fail while there is room
abbrev pub log_of : List ℕ → ℕ → LogState
log_of bytes room =
    record {
      bytes = bytes;
      room = room;
      reads = no_calls;
      appends = no_calls;
      faults = 0;
    }

-- one append more
abbrev pub appended : AppendLog → AppendLog
appended = counted

-- an append that is cut short: its number, and the most bytes that it adds
pub record Cut : Type 0 where
  pub number : ℕ
  pub count : ℕ

-- this append is cut short too
abbrev pub cut_at : AppendLog → Cut → AppendLog
cut_at appends cut = failing_as appends cut.number cut.count

-- how many bytes the next append adds at most, where it is one that is cut short
abbrev pub next_cut : AppendLog → Option ℕ
next_cut = next_fate

-- how many bytes there is still room for
abbrev pub free : LogState → ℕ
free log = log.room - length log.bytes

-- the next append of a piece fails: it is one that is cut short, or there is no room for all of it
abbrev pub AppendFails : LogState → List ℕ → Type 0
AppendFails log piece = IsSome (next_cut log.appends) ⊎ (free log < length piece)

-- how many bytes of a piece the next append adds
abbrev pub added : LogState → List ℕ → ℕ
added log piece =
    min (unwrap_or (next_cut log.appends) (length piece)) (min (free log) (length piece))
