use Rattle.std.proofs.Common.{rules, ◌≡◌, ◌∷◌, [], refl, set, subst}
use Rattle.box_rows.proofs.Weighing.{at-some}
use Rattle.worker_pool.specs.Outboxes.{AddsAll, HasRoom}
use Rattle.worker_pool.proofs.Outboxing.{get-below, put_adds, put_fits}
use Rattle.worker_pool.proofs.outbox.Outbox.put_in.Goals as goal

pub returns-clause-outbox : goal.returns-clause-outbox
returns-clause-outbox c =
    let same : c.args.self.now ≡ c.self.inside.runs.items = search rules in
    let room = subst (HasRoom c.args.at c.args.n) same c.requires.room in
    let below = get-below c.self.inside.runs.items c.args.n room.run room.there in
    put_fits c.args.plan.now c.self.inside.runs.items c.args.at c.args.n c.index_mut.result.now (record { at = c.index_mut.result.now.at; parcels = c.push.new.self }) c.args.parcel
    (search rules) room (at-some c.self.inside.runs.items c.args.n c.index_mut.result.now below (search rules)) refl c.in_ok-push.ensures.ok c.requires.is_true

pub returns-clause-adds : goal.returns-clause-adds
returns-clause-adds c =
    let same : c.args.self.now ≡ c.self.inside.runs.items = search rules in
    let room = subst (HasRoom c.args.at c.args.n) same c.requires.room in
    let below = get-below c.self.inside.runs.items c.args.n room.run room.there in
    let back : c.self.inside.runs.items ≡ c.args.self.now = search rules in
    subst (λ rs. AddsAll (c.args.parcel ∷ []) rs (set c.self.inside.runs.items c.args.n (record { at = c.index_mut.result.now.at; parcels = c.push.new.self }))) back
    (put_adds c.self.inside.runs.items c.args.n c.index_mut.result.now (record { at = c.index_mut.result.now.at; parcels = c.push.new.self }) c.args.parcel
    (at-some c.self.inside.runs.items c.args.n c.index_mut.result.now below (search rules)) c.in_ok-push.ensures.ok)
