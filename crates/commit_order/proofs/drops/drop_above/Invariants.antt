use Rattle.std.proofs.Common.{◌≡◌, filter, length}
use Rattle.std.specs.List.{AllByRecursion}
use Rattle.commit_order.specs.Offices.{AreWithin, DropsSome, Settled}
use Rattle.record_offers.specs.Offers.{with_gone}
use Rattle.replay_pending.specs.InFlight.{is_above}
use Rattle.replay_pending.specs.declared.entry.Entry.{Entry}
use Rattle.commit_order.proofs.drops.drop_above.Given as goal

abbrev pub invariant-loop-entry : goal.invariant-loop-entry
invariant-loop-entry l = record {
  rest : l.flight ≡ record l.fn.flight { pending = l.flight.pending };
  offers : l.offers ≡ with_gone l.fn.offers l.offers.gone;
  within : AllByRecursion (λ (e : Entry Settled). AreWithin (length l.fn.offers.records) e.spans) l.flight.pending;
  some : DropsSome l.first l.fn.flight.tick l.fn.flight.pending l.flight.pending l.fn.offers.gone l.offers.gone l.fn.fates l.fates;
}

abbrev pub decreases-loop-entry : goal.decreases-loop-entry
decreases-loop-entry l = length (filter (is_above l.first.txid) l.flight.pending)
