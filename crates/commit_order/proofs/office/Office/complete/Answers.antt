use Rattle.std.proofs.Common.{◌≡◌, length, Some, sym, ap, ◌∙◌}
use Rattle.std.specs.Prelude.{is_some, option_copied}
use Rattle.commit_order.proofs.Ending.{closed_true, left_false, settles, still_goes}
use Rattle.commit_order.proofs.Steps.{office_by, settle_step, timed_found, timed_none, within_settled}
use Rattle.commit_order.specs.Offices.{wait_of}
use Rattle.commit_turns.specs.Desks.{timed_of}
use Rattle.replay_pending.specs.InFlight as flight
use Rattle.commit_order.proofs.office.Office.complete.Goals as goal

pub returns-in_default-clause-ok : goal.returns-in_default-clause-ok
returns-in_default-clause-ok c =
    let f = c.self.inside in
    rw (← c.self.view_is)
    (rw (timed_none f.flight.pending c.args.root c.timed.result c.timed.ensures c.in_default.is)
    (still_goes (office_by f.plan.now f.began f.offers f.committed f.flight f.out f.exhausted) c.args.fates.now))

pub returns-in-Closed-clause-ok : goal.returns-in-Closed-clause-ok
returns-in-Closed-clause-ok c =
    let f = c.self.inside in
    let both = timed_found f.flight.pending c.args.root c.timed.result c.in-Some.field-0 c.timed.ensures c.in-Some.is in
    let on = c.settle.ensures.timed ∙ ap is_some (sym c.timed.ensures ∙ ap option_copied c.in-Some.is) in
    let list = ap (λ l. record f.flight { pending = flight.settled c.args.root l f.flight.pending }) c.new.ensures in
    let step = settle_step f.plan.now f.began f.offers f.committed f.flight c.settle.new.self f.out f.exhausted c.args.root c.args.list (c.settle.ensures.settled on ∙ list) in
    rw (← c.self.view_is)
    (settles (office_by f.plan.now f.began f.offers f.committed f.flight f.out f.exhausted) _ c.args.root (wait_of c.in-Some.field-0.now) c.args.list c.args.fates.now
    both.0 both.1 (closed_true c.args.list (rw c.in-Closed.is at c.in_ok-order.ensures).0) step)

pub returns-clause-ok : goal.returns-clause-ok
returns-clause-ok c =
    let both = timed_found c.self.inside.flight.pending c.args.root c.timed.result c.in-Some.field-0 c.timed.ensures c.in-Some.is in
    let timed : timed_of c.args.root c.args.self.now.desk.pending ≡ Some (wait_of c.in-Some.field-0.now) = rw (← c.self.view_is) both.0 in
    let left = rw c.in-Left.is at c.in_ok-order.ensures in
    rw (timed, left_false c.args.list _ left.0 left.1) (rw timed at c.end_timed.ensures.ok)

pub returns-clause-err : goal.returns-clause-err
returns-clause-err c =
    let both = timed_found c.self.inside.flight.pending c.args.root c.timed.result c.in-Some.field-0 c.timed.ensures c.in-Some.is in
    let timed : timed_of c.args.root c.args.self.now.desk.pending ≡ Some (wait_of c.in-Some.field-0.now) = rw (← c.self.view_is) both.0 in
    let left = rw c.in-Left.is at c.in_ok-order.ensures in
    rw (timed, left_false c.args.list _ left.0 left.1) (rw timed at c.end_timed.ensures.err)

pub invariant_of-self : goal.invariant_of-self
invariant_of-self c =
    let f = c.self.inside in
    let on = c.settle.ensures.timed ∙ ap is_some (sym c.timed.ensures ∙ ap option_copied c.in-Some.is) in
    rw (c.settle.ensures.settled on) (record {
      cap = c.self.invariant.cap;
      buckets = c.self.invariant.buckets;
      spans = within_settled (length f.offers.records) c.args.root _ f.flight.pending c.self.invariant.spans;
    })
