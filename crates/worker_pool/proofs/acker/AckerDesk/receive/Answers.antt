use Rattle.std.proofs.Common.{rules, ◌≡◌, ◌∷◌, refl, subst}
use Rattle.worker_pool.proofs.Acking.{Noting, noting-more}
use Rattle.worker_pool.proofs.acker.AckerDesk.receive.Goals as goal

pub loop-parcel-preserved : goal.loop-parcel-preserved
loop-parcel-preserved c =
    let inv = c.loop-parcel.invariant in
    let front : c.loop-parcel.rest.items ≡ c.in-Some.parcel ∷ c.pop_front.new.self.items = search rules in record {
      noting = noting-more c.args.plan.now c.args.run c.args.self.now c.loop-parcel.self (record c.loop-parcel.self { inbox = c.push_back.new.self }) c.in-Some.parcel c.message_in.result c.pop_front.new.self.items
          (subst (Noting c.args.plan.now c.args.run c.args.self.now c.loop-parcel.self) front inv.noting) c.message_in.ensures (search rules) refl refl refl refl;
    }
