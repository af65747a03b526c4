use Rattle.std.proofs.Common.{rules, ◌≡◌, ◌∷◌, subst}
use Rattle.std.specs.List.{AllByRecursion}
use Rattle.event_worlds.specs.Orderly.{FitsParcel}
use Rattle.worker_pool.proofs.Outboxing.{Added, added-more}
use Rattle.worker_pool.proofs.outbox.Outbox.add_all.Goals as goal

pub loop-parcel-preserved : goal.loop-parcel-preserved
loop-parcel-preserved c =
    let inv = c.loop-parcel.invariant in
    let front : c.loop-parcel.rest.items ≡ c.in-Some.parcel ∷ c.pop_front.new.self.items = search rules in
    let fit = subst (AllByRecursion (FitsParcel c.args.plan.now)) front inv.fit in record {
      outbox = c.in_ok-add.ensures.outbox;
      fit = fit.1;
      added = added-more c.args.parcels c.args.self.now c.loop-parcel.self c.add.new.self c.in-Some.parcel c.pop_front.new.self.items
          (subst (Added c.args.parcels c.args.self.now c.loop-parcel.self) front inv.added) c.in_ok-add.ensures.adds;
    }
