use Rattle.std.proofs.Common.{◌≡◌, suc, ◌+◌, ◌≤◌, ◌++◌, length}
use Rattle.std.specs.List.{AllByRecursion, filter_map}
use Rattle.storm_values.specs.Lines.{lines_of}
use Rattle.schedule_reader.specs.Events.{FitsEvent}
use Rattle.schedule_reader.specs.Schedules.{event_of, bad_line}
use Rattle.schedule_reader.proofs.reading.read_schedule.Given as goal

abbrev pub invariant-loop-rest : goal.invariant-loop-rest
invariant-loop-rest l = record {
  events : l.events ++ filter_map event_of (lines_of l.rest)
      ≡ filter_map event_of (lines_of l.bytes);
  fault : bad_line l.plan (suc (length l.events)) (lines_of l.rest)
      ≡ bad_line l.plan 1 (lines_of l.bytes);
  fits : AllByRecursion (FitsEvent l.plan) l.events;
  few : length l.events + length l.rest ≤ length l.bytes;
}

abbrev pub decreases-loop-rest : goal.decreases-loop-rest
decreases-loop-rest l = length l.rest
