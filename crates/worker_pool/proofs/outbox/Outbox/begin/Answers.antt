use Rattle.std.proofs.Common.{rules, ◌≡◌, ◌∷◌, ◌++◌, [], sym, subst}
use Rattle.worker_pool.specs.declared.outbox.Run.{Run}
use Rattle.worker_pool.specs.Outboxes.{AddsAll}
use Rattle.worker_pool.proofs.Outboxing.{begin_adds}
use Rattle.worker_pool.proofs.outbox.Outbox.begin.Goals as goal

pub returns-clause-adds : goal.returns-clause-adds
returns-clause-adds c =
    let made : Run = record { at = c.args.at; parcels = c.from_vec.result } in
    let e : c.push_back.new.self.items ≡ c.args.self.now ++ made ∷ [] = search rules in
    let p : c.from_vec.result ≡ c.args.parcel ∷ [] = search rules in
    subst (AddsAll (c.args.parcel ∷ []) c.args.self.now) (sym e) (begin_adds c.args.self.now made c.args.parcel p)
