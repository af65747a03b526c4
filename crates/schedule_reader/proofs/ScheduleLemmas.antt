-- The fault and the events of a schedule, a line at a time.
use Rattle.std.proofs.Common.{◌≡◌, ℕ, suc, ◌<◌, ◌≤◌, ltb, Bool, true, false, Option, Some, None, List, [], ◌∷◌, ◌++◌, length, take, refl, ap, sym, ◌∙◌, arith}
use Rattle.std.specs.List.{AllByRecursion, filter_map}
use Rattle.std.proofs.lemmas.Bool.Decides.{nat_tests}
use Rattle.std.proofs.lemmas.List.{take_all, length-take}
use Rattle.storm_values.specs.Lines.{first_some, lines_of}
use Rattle.topology_plan.specs.Topology.{Topology}
use Rattle.schedule_reader.specs.Events.{FitsEvent}
use Rattle.schedule_reader.specs.Schedules.{event_of, step_fault, bad_line, schedule_fault, events_of}
use Rattle.schedule_reader.specs.declared.event.Event.{Event}
use Rattle.schedule_reader.specs.declared.fault.ScheduleFault.{ScheduleFault}
use Rattle.schedule_reader.specs.declared.fault.ScheduleFault.TheVariants.{TooLong}

pub schedule_fault-TooLong : (bytes : List ℕ) (t : Topology) → 1048576 < length bytes
    → schedule_fault bytes t ≡ Some TooLong
unfolding schedule_fault
schedule_fault-TooLong bytes t long =
    let over : ltb 1048576 (length bytes) ≡ true = grind (arith, nat_tests) in
    rw over

one : (found : Option ScheduleFault) → first_some (found ∷ []) ≡ found
one None = refl
one (Some fault) = refl

-- where the length is no fault
pub schedule_fault-lines : (bytes : List ℕ) (t : Topology) → length bytes ≤ 1048576
    → schedule_fault bytes t ≡ bad_line t 1 (lines_of bytes)
unfolding schedule_fault
schedule_fault-lines bytes t short =
    let within : ltb 1048576 (length bytes) ≡ false = grind (arith, nat_tests) in
    rw within (one (bad_line t 1 (lines_of bytes)))

-- the next line is bad
pub bad_line-here : (t : Topology) (number : ℕ) (line : List ℕ) (lines : List (List ℕ))
    → (fault : ScheduleFault) → step_fault t number (event_of line) ≡ Some fault
    → bad_line t number (line ∷ lines) ≡ Some fault
bad_line-here t number line lines fault bad = rw bad

-- the next line is good
pub bad_line-later : (t : Topology) (number : ℕ) (line : List ℕ) (lines : List (List ℕ))
    → step_fault t number (event_of line) ≡ None
    → bad_line t number (line ∷ lines) ≡ bad_line t (suc number) lines
bad_line-later t number line lines good = rw good

-- the event of the next line
pub events-next : (line : List ℕ) (lines : List (List ℕ)) (event : Event)
    → event_of line ≡ Some event
    → filter_map event_of (line ∷ lines) ≡ event ∷ filter_map event_of lines
events-next line lines event is = rw is

pub events_of-lines : (bytes : List ℕ) → events_of bytes ≡ filter_map event_of (lines_of bytes)
unfolding events_of
events_of-lines bytes = refl

-- one event more that fits
pub fits-push : (t : Topology) (events : List Event) (event : Event)
    → AllByRecursion (FitsEvent t) events → FitsEvent t event
    → AllByRecursion (FitsEvent t) (events ++ event ∷ [])
fits-push t [] event each fits = (fits, tt)
fits-push t (first ∷ events) event each fits = (each.0, fits-push t events event each.1 fits)

-- ---- one byte more than the limit tells as much as all

taken_fault : (over : Bool) (bytes : List ℕ) (t : Topology) → ltb 1048576 (length bytes) ≡ over
    → schedule_fault (take 1048577 bytes) t ≡ schedule_fault bytes t
taken_fault true bytes t is =
    let long : 1048576 < length bytes = grind (arith, nat_tests) in
    let taken : 1048576 < length (take 1048577 bytes) = rw length-take (omega arith) in
    schedule_fault-TooLong (take 1048577 bytes) t taken ∙ sym (schedule_fault-TooLong bytes t long)
taken_fault false bytes t is =
    let short : length bytes ≤ 1048577 = grind (arith, nat_tests) in
    ap (λ all. schedule_fault all t) (take_all 1048577 bytes short)

pub schedule_fault-take : (bytes : List ℕ) (t : Topology)
    → schedule_fault (take 1048577 bytes) t ≡ schedule_fault bytes t
schedule_fault-take bytes t = taken_fault (ltb 1048576 (length bytes)) bytes t refl

taken_events : (over : Bool) (bytes : List ℕ) (t : Topology) → ltb 1048576 (length bytes) ≡ over
    → schedule_fault bytes t ≡ None → events_of (take 1048577 bytes) ≡ events_of bytes
taken_events true bytes t is good =
    let long : 1048576 < length bytes = grind (arith, nat_tests) in
    let over = schedule_fault-TooLong bytes t long in
    cc
taken_events false bytes t is good =
    let short : length bytes ≤ 1048577 = grind (arith, nat_tests) in
    ap events_of (take_all 1048577 bytes short)

pub events_of-take : (bytes : List ℕ) (t : Topology) → schedule_fault bytes t ≡ None
    → events_of (take 1048577 bytes) ≡ events_of bytes
events_of-take bytes t = taken_events (ltb 1048576 (length bytes)) bytes t refl
