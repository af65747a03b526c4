use Rattle.std.proofs.Common.{refl}
use Rattle.worker_stretches.proofs.Seating.{at_seat, seat_orderly}
use Rattle.worker_stretches.proofs.desks.seat_of.Goals as goal

pub returns-clause-orderly : goal.returns-clause-orderly
returns-clause-orderly g c =
    seat_orderly c.args.plan.now (record { task = c.args.desk.task; inbox = c.args.desk.inbox; outbox = c.in_ok-parcels.parcels }) c.args.desk c.requires refl refl c.in_ok-parcels.ensures

pub returns-clause-same : goal.returns-clause-same
returns-clause-same g c =
    at_seat c.args.plan.now (record { task = c.args.desk.task; inbox = c.args.desk.inbox; outbox = c.in_ok-parcels.parcels }) c.args.desk refl refl c.in_ok-parcels.ensures
