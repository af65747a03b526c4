use Rattle.std.proofs.Common.{◌≡◌, ◌+◌, length}
use Rattle.acker_core.specs.Orders.{all_open, last_path}
use Rattle.acker_core.proofs.Walks.{IsWalked}
use Rattle.acker_core.proofs.follow.follow.Given as goal

abbrev pub invariant-loop : goal.invariant-loop
invariant-loop l = record {
  walked : IsWalked l.list l.firsts l.walk.order.items (last_path l.walk.last) (all_open l.walk.pending.items);
  count : length l.walk.order.items + 1 ≡ l.counter;
}
