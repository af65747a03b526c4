use Rattle.std.proofs.Common.{◌≡◌, ◌+◌, length}
use Rattle.event_worlds.specs.topology_plan.Topology.{tasks_in_all}
use Rattle.worker_stretches.proofs.Seating.{Desking}
use Rattle.worker_stretches.proofs.desks.desks_of.Given as goal

abbrev pub invariant-loop-number : goal.invariant-loop-number
invariant-loop-number g l = record {
  desking : Desking l.plan l.fn.seats.items l.rest.items l.desks.items;
  count : length l.desks.items ≡ l.number;
  left : length l.rest.items + l.number ≡ tasks_in_all l.plan;
}
