use Rattle.std.proofs.Common.{◌≡◌, ◌+◌, length}
use Rattle.worker_stretches.proofs.Offices.{Opening}
use Rattle.worker_stretches.proofs.ackers.offices_of.Given as goal

abbrev pub invariant-loop-number : goal.invariant-loop-number
invariant-loop-number l = record {
  opening : Opening l.plan l.fn.seats.items l.rest.items l.desks.items;
  count : length l.desks.items ≡ l.number;
  left : length l.rest.items + l.number ≡ l.plan.ackers;
}
