use Rattle.std.proofs.Common.{rules, ◌≡◌, ◌∷◌, refl, subst}
use Rattle.worker_pool.proofs.Desking.{Receiving, receiving-more}
use Rattle.worker_pool.proofs.desk.TaskDesk.receive.Goals as goal

pub loop-parcel-preserved : goal.loop-parcel-preserved
loop-parcel-preserved g c =
    let inv = c.loop-parcel.invariant in
    let front : c.loop-parcel.rest.items ≡ c.in-Some.parcel ∷ c.pop_front.new.self.items = search rules in record {
      receiving = receiving-more c.args.plan.now c.args.run c.args.self.now c.loop-parcel.self (record c.loop-parcel.self { inbox = c.push_back.new.self }) c.in-Some.parcel c.tuple_in.result c.pop_front.new.self.items
          (subst (Receiving c.args.plan.now c.args.run c.args.self.now c.loop-parcel.self) front inv.receiving) c.tuple_in.ensures.is c.tuple_in.ensures.for_it (search rules) refl refl refl;
    }
