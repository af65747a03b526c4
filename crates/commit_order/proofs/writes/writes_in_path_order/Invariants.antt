use Rattle.std.proofs.Common.{◌≡◌, ◌++◌, drop}
use Rattle.commit_writes.specs.Writes.{dones_at, writes_in}
use Rattle.commit_order.proofs.writes.writes_in_path_order.Given as goal

abbrev pub invariant-loop-place : goal.invariant-loop-place
invariant-loop-place l = l.writes ++ writes_in (dones_at l.list (drop l.place-index l.order)) ≡ writes_in (dones_at l.list l.order)
