-- What the lines of a schedule say, which fault a schedule has, and its events. This project's own.
use Rattle.std.specs.Prelude.{◌≡◌, IsTrue, ℕ, suc, ◌≤◌, ◌++◌, List, [], ◌∷◌, length, take, drop, ◌&&◌, nat_lt, nat_le, if◌then◌else◌, Option, Some, None, option_map, option_and_then, codes}
use Rattle.std.specs.Char.{is_ascii_digit}
use Rattle.std.specs.List.{list_all, filter_map}
use Rattle.std.specs.Option.{option_or}
use Rattle.std.specs.Str.{bytes_eq}
use Rattle.std.specs.Str.Parse.{digits_value}
use Rattle.storm_values.specs.Lines.{first_some, lines_of}
use Rattle.topology_plan.specs.Topology.{Topology}
use Rattle.schedule_reader.specs.Events.{fits_event}
use Rattle.schedule_reader.specs.Limits.{most_schedule_bytes, most_digits, most_rounds}
use Rattle.schedule_reader.specs.declared.event.Event.{Event}
use Rattle.schedule_reader.specs.declared.event.Event.TheVariants.{Task, Acker, Coord, Tick, Shut, Open, Rounds}
use Rattle.schedule_reader.specs.declared.fault.ScheduleFault.{ScheduleFault}
use Rattle.schedule_reader.specs.declared.fault.ScheduleFault.TheVariants.{TooLong, Line, NoTask}

-- ---- a line, which comes without its byte 10

-- one to eight decimal digits; zeros may lead
abbrev pub AreDigits : List ℕ → Type 0
AreDigits digits =
    (1 ≤ length digits) × (length digits ≤ most_digits) × IsTrue (list_all is_ascii_digit digits)

-- a word with its space, and then a number
abbrev pub SaysNumber : List ℕ → ℕ → List ℕ → Type 0
SaysNumber word n line =
    (digits : List ℕ) × AreDigits digits × (n ≡ digits_value 10 digits) × (line ≡ word ++ digits)

-- a line says an event
abbrev pub Says : List ℕ → Event → Type 0
Says line (Task n) = SaysNumber (codes "task ") n line
Says line (Acker n) = SaysNumber (codes "acker ") n line
Says line Coord = line ≡ codes "coord"
Says line Tick = line ≡ codes "tick"
Says line (Shut n) = SaysNumber (codes "shut ") n line
Says line (Open n) = SaysNumber (codes "open ") n line
Says line (Rounds n) = SaysNumber (codes "rounds ") n line × (n ≤ most_rounds)

-- the number that one to eight decimal digits say; zeros may lead
abbrev pub number_of : List ℕ → Option ℕ
number_of digits =
    if nat_le 1 (length digits) && nat_le (length digits) most_digits
    && list_all is_ascii_digit digits
    then Some (digits_value 10 digits) else None

-- what follows a word that a line begins with
abbrev pub after_word : List ℕ → List ℕ → Option (List ℕ)
after_word word line =
    if bytes_eq (take (length word) line) word then Some (drop (length word) line) else None

-- the number after a word that a line begins with
abbrev pub number_after : List ℕ → List ℕ → Option ℕ
number_after word line = option_and_then number_of (after_word word line)

-- an event that is said by a word alone
abbrev pub said_by : List ℕ → Event → List ℕ → Option Event
said_by word event line = if bytes_eq line word then Some event else None

-- that many rounds, where they are not too many
abbrev pub few_rounds : ℕ → Option Event
few_rounds n = if nat_le n most_rounds then Some (Rounds n) else None

-- the event that a line says
unfoldable pub event_of : List ℕ → Option Event
event_of line =
    first_some
    (option_map Task (number_after (codes "task ") line)
    ∷ option_map Acker (number_after (codes "acker ") line)
    ∷ said_by (codes "coord") Coord line
    ∷ said_by (codes "tick") Tick line
    ∷ option_map Shut (number_after (codes "shut ") line)
    ∷ option_map Open (number_after (codes "open ") line)
    ∷ option_and_then few_rounds (number_after (codes "rounds ") line)
    ∷ [])

-- ---- a schedule

abbrev pub too_long : List ℕ → Option ScheduleFault
too_long bytes = if nat_lt most_schedule_bytes (length bytes) then Some TooLong else None

-- the fault of the line with this number, which says this event or none
abbrev pub step_fault : Topology → ℕ → Option Event → Option ScheduleFault
step_fault t number None = Some (Line number)
step_fault t number (Some event) = if fits_event t event then None else Some (NoTask number)

-- the fault of the first bad line, the first of the lines having this number
abbrev pub bad_line : Topology → ℕ → List (List ℕ) → Option ScheduleFault
bad_line t number [] = None
bad_line t number (line ∷ lines) =
    option_or (step_fault t number (event_of line)) (bad_line t (suc number) lines)

-- the first fault of a schedule over a topology
unfoldable pub schedule_fault : List ℕ → Topology → Option ScheduleFault
schedule_fault bytes t = first_some (too_long bytes ∷ bad_line t 1 (lines_of bytes) ∷ [])

-- the events of a schedule, in the order of its lines
unfoldable pub events_of : List ℕ → List Event
events_of bytes = filter_map event_of (lines_of bytes)
