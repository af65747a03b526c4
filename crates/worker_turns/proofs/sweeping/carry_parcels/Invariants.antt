use Rattle.std.proofs.Common.{length}
use Rattle.std.specs.List.{AllByRecursion}
use Rattle.worker_stretches.specs.event_engine.Engines.{cut_in}
use Rattle.event_worlds.specs.Orderly.{FitsParcel}
use Rattle.worker_turns.specs.Carrying.{weigh_all}
use Rattle.worker_turns.proofs.Sweeps.{Carrying}
use Rattle.worker_turns.proofs.sweeping.carry_parcels.Given as goal

abbrev pub invariant-loop-first : goal.invariant-loop-first
invariant-loop-first g l = record {
  carrying : Carrying l.posts.plan.now (cut_in l.fn.engine) l.posts.boxes.items l.fn.engine l.engine l.fn.row.items l.row.items (weigh_all l.fn.parcels.items) (weigh_all l.left.items);
  fits : AllByRecursion (FitsParcel l.posts.plan.now) l.left.items;
}

abbrev pub decreases-loop-first : goal.decreases-loop-first
decreases-loop-first g l = length l.left.items
