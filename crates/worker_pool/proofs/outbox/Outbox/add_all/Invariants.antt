use Rattle.std.proofs.Common.{length}
use Rattle.std.specs.List.{AllByRecursion}
use Rattle.event_worlds.specs.Orderly.{FitsParcel}
use Rattle.worker_pool.specs.Outboxes.{IsOutbox}
use Rattle.worker_pool.proofs.Outboxing.{Added}
use Rattle.worker_pool.proofs.outbox.Outbox.add_all.Given as goal

abbrev pub invariant-loop-parcel : goal.invariant-loop-parcel
invariant-loop-parcel l = record {
  outbox : IsOutbox l.plan l.self;
  fit : AllByRecursion (FitsParcel l.plan) l.rest.items;
  added : Added l.fn.parcels l.fn.self l.self l.rest.items;
}

abbrev pub decreases-loop-parcel : goal.decreases-loop-parcel
decreases-loop-parcel l = length l.rest.items
