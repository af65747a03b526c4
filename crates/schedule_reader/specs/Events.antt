-- Events over a topology. This project's own.
use Rattle.std.specs.Prelude.{◌<◌, Bool, true, nat_lt}
use Rattle.topology_plan.specs.Topology.{Topology, tasks_in_all}
use Rattle.schedule_reader.specs.declared.event.Event.{Event}
use Rattle.schedule_reader.specs.declared.event.Event.TheVariants.{Task, Acker, Coord, Tick, Shut, Open, Rounds}

-- the task, the acker or the partition that an event names is one of the topology's
abbrev pub FitsEvent : Topology → Event → Type 0
FitsEvent t (Task n) = n < tasks_in_all t
FitsEvent t (Acker n) = n < t.ackers
FitsEvent t Coord = Unit {0}
FitsEvent t Tick = Unit {0}
FitsEvent t (Shut n) = n < t.partitions
FitsEvent t (Open n) = n < t.partitions
FitsEvent t (Rounds n) = Unit {0}

-- the same as a test
abbrev pub fits_event : Topology → Event → Bool
fits_event t (Task n) = nat_lt n (tasks_in_all t)
fits_event t (Acker n) = nat_lt n t.ackers
fits_event t Coord = true
fits_event t Tick = true
fits_event t (Shut n) = nat_lt n t.partitions
fits_event t (Open n) = nat_lt n t.partitions
fits_event t (Rounds n) = true
