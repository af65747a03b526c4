use Rattle.std.proofs.Common.{◌≡◌, ◌≤◌, [], length}
use Rattle.std.specs.Prelude.{vec_capacity}
use Rattle.worker_stretches.specs.Hands.{items_in}
use Rattle.worker_stretches.proofs.hands.empty_hands.Given as goal

abbrev pub invariant-loop-next : goal.invariant-loop-next
invariant-loop-next g l = record {
  many : length l.hands.items ≡ l._next;
  room : l.fn.count ≤ vec_capacity l.hands;
  empty : items_in l.hands.items ≡ [];
}
