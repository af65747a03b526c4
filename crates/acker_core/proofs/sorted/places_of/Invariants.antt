use Rattle.std.proofs.Common.{◌≡◌, ◌++◌, drop, map}
use Rattle.acker_core.specs.Orders.{place_of}
use Rattle.acker_core.proofs.sorted.places_of.Given as goal

abbrev pub invariant-loop-done : goal.invariant-loop-done
invariant-loop-done l = l.places.items ++ map place_of (drop l.done-index l.dones) ≡ map place_of l.dones
