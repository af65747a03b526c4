use Rattle.std.proofs.Common.{◌≡◌, ◌+◌, ◌<◌, length, map, Result, Ok, Err, OnOk, refl, subst, ◌∙◌, arith}
use Rattle.std.specs.declared.alloc.AllocError.{AllocError}
use Rattle.groupings.specs.Routing.{moved}
use Rattle.output_collector.specs.Sending.{sent}
use Rattle.output_collector.proofs.Rows.{with_routed, within_routed, routed_more, routed_whole, nodes_left, tasks_left, part_at, goes_along, sends_last, sends_nowhere}
use Rattle.output_collector.proofs.Sending.{Goes, Goes-first, BeginsWith-then, BeginsWith-itself}
use Rattle.output_collector.proofs.collector.Collector.emit_row.Goals as goal

pub returns-in_default-clause-sends : goal.returns-in_default-clause-sends
returns-in_default-clause-sends g c =
    let none : length c.args.self.now.outlet.lanes ≡ 0 = omega (arith, c.subs_len.ensures, c.in_default.ensures) in
    sends_nowhere g.I.Ids.tells c.args.below.now.root c.args.below.now.path.now c.args.self.now.outlet c.args.row (sent c.args.self.now c.args.edges.now c.args.into.now) c.facts.ensures.lanes none

pub loop-sub-init : goal.loop-sub-init
loop-sub-init g c =
    let o = c.args.self.now.outlet in
    record {
      goes = Goes-first g.I.Ids.tells c.args.below.now.root c.args.below.now.path.now (nodes_left o c.args.row 0) (tasks_left o c.args.row 0) (sent c.args.self.now c.args.edges.now c.args.into.now);
      outlet = refl;
      source = refl;
      kept = BeginsWith-itself c.args.into.now;
    }

pub route-route-requires : goal.route-route-requires
route-route-requires g c =
    omega (arith, within_routed c.args.self.now.outlet c.loop-sub.self.outlet c.loop-sub.sub c.loop-sub.invariant.outlet, c.subs_len.ensures, c.in-Some.ensures)

pub loop-sub-preserved : goal.loop-sub-preserved
loop-sub-preserved g c =
    let o = c.args.self.now.outlet in
    let now = c.loop-sub.self.outlet in
    let i = c.loop-sub.sub in
    let within : i < length o.lanes = omega (arith, c.subs_len.ensures, c.in-Some.ensures) in
    let part = part_at o now c.args.row i c.route-route.result c.facts.ensures.lanes within c.loop-sub.invariant.outlet c.route-route.ensures.along in
    record {
      goes = goes_along g.I.Ids.tells c.args.below.now.root c.args.below.now.path.now o c.args.row i c.route-route.result (sent c.args.self.now c.args.edges.now c.args.into.now)
          (sent c.loop-sub.self c.loop-sub.edges c.loop-sub.into) (sent c.send_copies.new.self c.send_copies.new.edges c.send_copies.new.into) part c.loop-sub.invariant.goes c.in_ok-send_copies.ensures.sends;
      outlet = c.send_copies.ensures.outlet ∙ routed_more o now c.route-route.new.self i within c.loop-sub.invariant.outlet c.route-route.ensures.moved;
      source = c.send_copies.ensures.source ∙ c.loop-sub.invariant.source;
      kept = BeginsWith-then c.args.into.now c.loop-sub.into c.send_copies.new.into c.loop-sub.invariant.kept c.send_copies.ensures.kept;
    }

pub route-route-requires-2 : goal.route-route-requires-2
route-route-requires-2 g c =
    omega (arith, within_routed c.args.self.now.outlet c.loop-sub.self.outlet c.loop-sub.sub c.loop-sub.invariant.outlet, c.subs_len.ensures, c.in-Some.ensures)

on_ok : (P Q : Type 0) → (P → Q) → (r : Result (Unit {0}) AllocError) → OnOk r P → OnOk r Q
on_ok P Q f (Ok x) p = f p
on_ok P Q f (Err e) p = tt

on_any : (Q : Type 0) → Q → (r : Result (Unit {0}) AllocError) → OnOk r Q
on_any Q q (Ok x) = q
on_any Q q (Err e) = tt

pub returns-clause-sends : goal.returns-clause-sends
returns-clause-sends g c =
    let o = c.args.self.now.outlet in
    let now = c.loop-sub.self.outlet in
    let last = c.in-Some.last in
    let start = sent c.args.self.now c.args.edges.now c.args.into.now in
    let a = sent c.loop-sub.self c.loop-sub.edges c.loop-sub.into in
    let b = sent c.send_last.new.self c.send_last.new.edges c.send_last.new.into in
    let at : c.loop-sub.sub ≡ last = omega (arith, c.loop-sub-test.false, c.loop-sub.auto.sub-end) in
    let all : last + 1 ≡ length o.lanes = omega (arith, c.subs_len.ensures, c.in-Some.ensures) in
    let within : last < length o.lanes = omega arith in
    let is : now ≡ with_routed last o = subst (λ k. now ≡ with_routed k o) at c.loop-sub.invariant.outlet in
    let part = part_at o now c.args.row last c.route-route-2.result c.facts.ensures.lanes within is c.route-route-2.ensures.along in
    let goes = subst (λ k. Goes g.I.Ids.tells c.args.below.now.root c.args.below.now.path.now (nodes_left o c.args.row 0) (tasks_left o c.args.row 0) start (nodes_left o c.args.row k) (tasks_left o c.args.row k) a) at c.loop-sub.invariant.goes in
    on_ok _ _ (sends_last g.I.Ids.tells c.args.below.now.root c.args.below.now.path.now o c.args.row last c.route-route-2.result start a b c.facts.ensures.lanes all part goes) c.send_last.result c.send_last.ensures.sends

pub returns-clause-outlet : goal.returns-clause-outlet
returns-clause-outlet g c =
    let o = c.args.self.now.outlet in
    let now = c.loop-sub.self.outlet in
    let last = c.in-Some.last in
    let at : c.loop-sub.sub ≡ last = omega (arith, c.loop-sub-test.false, c.loop-sub.auto.sub-end) in
    let all : last + 1 ≡ length o.lanes = omega (arith, c.subs_len.ensures, c.in-Some.ensures) in
    let within : last < length o.lanes = omega arith in
    let is : now ≡ with_routed last o = subst (λ k. now ≡ with_routed k o) at c.loop-sub.invariant.outlet in
    let new = c.route-route-2.new.self in
    on_any (c.send_last.new.self.outlet ≡ record o { lanes = map moved o.lanes })
    (c.send_last.ensures.outlet ∙ routed_whole o new last all (routed_more o now new last within is c.route-route-2.ensures.moved)) c.send_last.result
