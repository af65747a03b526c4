use Rattle.std.proofs.Common.{◌≡◌, map}
use Rattle.std.specs.Prelude.{replicate}
use Rattle.std.specs.List.{AllByRecursion}
use Rattle.event_engine.specs.Seats.{HasBuckets, acker_side}
use Rattle.event_worlds.specs.Worlds.{no_acker}
use Rattle.event_engine.proofs.start.start_ackers.Given as goal

abbrev pub invariant-loop : goal.invariant-loop
invariant-loop l = record {
  sides : map acker_side l.ackers.items ≡ replicate l.counter no_acker;
  buckets : AllByRecursion (HasBuckets l.plan.buckets) l.ackers.items;
}
