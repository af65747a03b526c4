use Rattle.std.proofs.Common.{◌≡◌, ◌++◌, length}
use Rattle.std.specs.List.{flat_map}
use Rattle.worker_pool.specs.declared.outbox.Run.{Run}
use Rattle.worker_pool.proofs.outbox.Outbox.into_parcels.Given as goal

abbrev pub invariant-loop-run : goal.invariant-loop-run
invariant-loop-run l =
    l.all.items ++ flat_map (λ (r : Run). r.parcels) l.rest.items ≡ flat_map (λ (r : Run). r.parcels) l.fn.self

abbrev pub decreases-loop-run : goal.decreases-loop-run
decreases-loop-run l = length l.rest.items
