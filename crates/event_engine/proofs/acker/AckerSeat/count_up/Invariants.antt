use Rattle.std.proofs.Common.{◌≡◌}
use Rattle.event_engine.specs.Seats.{acker_side, buckets_in}
use Rattle.event_worlds.specs.Worlds.{aged}
use Rattle.event_engine.proofs.acker.AckerSeat.count_up.Given as goal

abbrev pub invariant-loop : goal.invariant-loop
invariant-loop l = record {
  side : acker_side l.self ≡ record (acker_side l.fn.self) { entries = aged l.buckets l.counter (acker_side l.fn.self).entries };
  buckets : buckets_in l.self ≡ l.buckets;
}
