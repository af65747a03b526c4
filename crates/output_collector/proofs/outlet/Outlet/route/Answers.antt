use Rattle.std.proofs.Common.{◌≡◌, ◌<◌, length, Some, slice_get, ap, ◌∙◌, arith}
use Rattle.tuple_account.specs.topology_plan.Topology.{subs_of}
use Rattle.output_collector.specs.Outlets.{Outlet}
use Rattle.output_collector.proofs.Lanes.{length-subs, AreLanesOf-routed, few_targets, index_at}
use Rattle.output_collector.proofs.outlet.Outlet.route.Goals as goal

pub bounds-subs-sub : goal.bounds-subs-sub
bounds-subs-sub c = omega (arith, length-subs c.self.inside.plan.now c.self.inside.from c.self.inside.router c.self.invariant, ap length c.subs.ensures.value, ap (λ (o : Outlet). length o.lanes) c.self.view_is)

pub bounds-subs-sub-2 : goal.bounds-subs-sub-2
bounds-subs-sub-2 c = omega (arith, length-subs c.self.inside.plan.now c.self.inside.from c.self.inside.router c.self.invariant, ap length c.subs.ensures.value, ap (λ (o : Outlet). length o.lanes) c.self.view_is)

pub invariant_of-self : goal.invariant_of-self
invariant_of-self c =
    let within : c.args.sub < length c.self.inside.router = omega (arith, ap (λ (o : Outlet). length o.lanes) c.self.view_is) in
    AreLanesOf-routed c.self.inside.plan.now c.self.inside.from c.self.inside.router c.route.new.self c.args.sub c.self.invariant within c.route.ensures.moved

pub returns-clause-along : goal.returns-clause-along
returns-clause-along c =
    λ s lane there is.
    let sub_there : slice_get c.subs.result.now c.args.sub ≡ Some s =
    ap (λ subs. slice_get subs c.args.sub) c.subs.ensures.value ∙ ap (λ (o : Outlet). slice_get (subs_of o.topology o.from) c.args.sub) c.self.view_is ∙ there in
    let lane_there : slice_get c.self.inside.router c.args.sub ≡ Some lane = ap (λ (o : Outlet). slice_get o.lanes c.args.sub) c.self.view_is ∙ is in
    let sub_is = index_at c.subs.result.now c.args.sub c.index-subs-sub.result s sub_there in
    let told_is = c.route.ensures.target lane lane_there in
    (λ i. record { component = (sub_is i).to; targets = told_is i })

pub returns-clause-few : goal.returns-clause-few
returns-clause-few c =
    let within : c.args.sub < length c.self.inside.router = omega (arith, ap (λ (o : Outlet). length o.lanes) c.self.view_is) in
    few_targets c.self.inside.router c.args.row.now c.args.sub c.route.result c.facts.ensures within c.route.ensures.target
