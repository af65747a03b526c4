use Rattle.std.proofs.Common.{length}
use Rattle.event_engine.proofs.ExchangeLemmas.{Receiving}
use Rattle.event_engine.proofs.engine.Engine.receive.Given as goal

abbrev pub invariant-loop-parcel : goal.invariant-loop-parcel
invariant-loop-parcel g l = Receiving l.fn.parcels l.rest.items l.fn.self l.self

abbrev pub decreases-loop-parcel : goal.decreases-loop-parcel
decreases-loop-parcel g l = length l.rest.items
