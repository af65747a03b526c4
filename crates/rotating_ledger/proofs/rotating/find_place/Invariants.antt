use Rattle.std.proofs.Common.{◌≡◌, drop}
use Rattle.rotating_ledger.specs.Slots.{place_from}
use Rattle.rotating_ledger.proofs.rotating.find_place.Given as goal

abbrev pub invariant-loop-i : goal.invariant-loop-i
invariant-loop-i g l = place_from l.i l.root (drop l.i l.buckets) ≡ place_from 0 l.root l.buckets
