use Rattle.std.proofs.Common.{◌≡◌, ◌<◌, ◌++◌, length}
use Rattle.std.specs.List.Sorted.{IsPermutation}
use Rattle.worker_stretches.specs.Hands.{items_in}
use Rattle.worker_stretches.proofs.Handing.{Turning}
use Rattle.worker_stretches.proofs.hands.deal.Given as goal

abbrev pub invariant-loop-item : goal.invariant-loop-item
invariant-loop-item g l = record {
  many : length l.hands.items ≡ l.count;
  place : l.at < l.count;
  turning : Turning l.first l.count l.fn.items.items l.rest.items l.hands.items l.at;
  dealt : IsPermutation l.fn.items.items (items_in l.hands.items ++ l.rest.items);
}

abbrev pub decreases-loop-item : goal.decreases-loop-item
decreases-loop-item g l = length l.rest.items
