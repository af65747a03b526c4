use Rattle.std.proofs.Common.{◌≡◌, ◌+◌, ◌-◌, suc, Ok, sym, ap, ◌∙◌, arith}
use Rattle.commit_order.proofs.Opening.{began_with, fills_end, fills_more, fills_none, none_more, own_after}
use Rattle.commit_order.specs.Offices.{Office}
use Rattle.commit_order.specs.Orders.{cut_of, desk_of, plan_of}
use Rattle.commit_turns.specs.Turns.{filled, next_wait}
use Rattle.commit_order.proofs.coordinator.Coordinator.fill.Goals as goal
use Rattle.commit_order.proofs.coordinator.Coordinator.fill.Goals.{else-loop-test, then-loop-test+in_ok-begun+in-None}

pub loop-init : goal.loop-init
loop-init g c =
    let places = (plan_of c.args.self.now).pending in
    let same : places - 0 ≡ places = omega arith in
    fills_none g.I.Ids.tells c.args.shut places (places - 0) c.args.self.now _ same c.new-parcels.ensures c.requires

pub open-requires : goal.open-requires
open-requires g c =
    let at = c.loop.self in
    let began = began_with (next_wait (plan_of at) (cut_of at) c.args.shut (desk_of at)) c.in-Some.begun.root c.in-Some.begun.rows at.office c.begin_next.new.self
    (c.begin_next.ensures.some c.in-Some.begun (c.in_ok-begun.was ∙ ap Ok c.in-Some.is)) in
    own_after at c.begin_next.new.self c.loop.invariant.own (ap (λ (o : Office). o.topology) began.office)

pub loop-preserved : goal.loop-preserved
loop-preserved g c =
    let old = c.args.self.now in
    let at = c.loop.self in
    let began = began_with (next_wait (plan_of at) (cut_of at) c.args.shut (desk_of at)) c.in-Some.begun.root c.in-Some.begun.rows at.office c.begin_next.new.self
    (c.begin_next.ensures.some c.in-Some.begun (c.in_ok-begun.was ∙ ap Ok c.in-Some.is)) in
    let so = c.loop.invariant in
    let to = c.in_ok-open-in-Some.ensures in
    let places = (plan_of old).pending in
    let more : places - c.loop.counter ≡ suc (places - (c.loop.counter + 1)) =
    let below = c.loop-test.true in let end = c.most_pending-end.ensures in omega arith in
    let source = c.requires.topology ∙ sym (ap (λ (o : Office). o.topology) so.office) ∙ sym so.own.topology in
    let adds = rw (ap (λ (o : Office). o.cut) began.office) at to.begun in
    fills_more g.I.Ids.tells c.args.shut places (places - c.loop.counter) (places - (c.loop.counter + 1)) old at c.open.new.self c.loop.parcels c.open.new.into began.wait
    more so began.next (to.office ∙ began.office) (adds began.wait began.root_is began.rows_are) to.has_memory to.own source

pub returns-clause-begun : goal.returns-clause-begun
returns-clause-begun g c =
    let old = c.args.self.now in
    let at = c.loop.self in
    let so = c.loop.invariant in
    let places = (plan_of old).pending in
    elim c.loop-test.branch [
      | else-loop-test w ↦
          let none : places - c.loop.counter ≡ 0 = let end = c.most_pending-end.ensures in let far = w.loop-test.false in omega arith in
          rw w.self-is
          (fills_end g.I.Ids.tells c.args.shut places (places - c.loop.counter) old at c.loop.parcels so
          (ap (λ n. (filled (plan_of old) (cut_of old) c.args.shut n (desk_of at)).begun) none))
      | then-loop-test+in_ok-begun+in-None w ↦
          let stops = w.begin_next.ensures.none (w.in_ok-begun.was ∙ ap Ok w.in-None.is) in
          let topology = ap (λ (o : Office). o.topology) so.office in
          let cut = ap (λ (o : Office). o.cut) so.office in
          rw w.self-is
          (fills_end g.I.Ids.tells c.args.shut places (places - c.loop.counter) old at c.loop.parcels so
          (none_more g.I.Ids.tells c.args.shut (plan_of old) (cut_of old) (places - c.loop.counter) (desk_of at) (rw (topology, cut) at stops.1)))
    ]
