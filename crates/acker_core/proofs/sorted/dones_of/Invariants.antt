use Rattle.std.proofs.Common.{◌≡◌, ◌++◌, drop, map}
use Rattle.std.specs.List.{AllByRecursion}
use Rattle.commit_writes.specs.Writes.{dones_in}
use Rattle.acker_core.specs.Orders.{StandsIn, done_beside}
use Rattle.acker_core.proofs.sorted.dones_of.Given as goal

abbrev pub invariant-loop-place : goal.invariant-loop-place
invariant-loop-place l = record {
  all : map done_beside l.dones.items ++ dones_in (drop l.place l.list) ≡ dones_in l.list;
  there : AllByRecursion (StandsIn l.list) l.dones.items;
}
