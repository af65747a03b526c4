use Rattle.std.proofs.Common.{refl, sym, ap}
use Rattle.std.specs.Prelude.{is_some}
use Rattle.commit_order.proofs.Ending.{second_is_some}
use Rattle.commit_order.proofs.Steps.{is_next, next_found, next_none, office_by}
use Rattle.commit_order.specs.Offices.{wait_of, waits}
use Rattle.replay_pending.proofs.Found.{passes}
use Rattle.commit_order.proofs.office.Office.order.Goals as goal

pub returns-in_default-clause-commit : goal.returns-in_default-clause-commit
returns-in_default-clause-commit c =
    let f = c.self.inside in
    let none = next_none f.flight.pending f.committed c.settled_after.result c.settled_after.ensures c.in_default.is in
    rw (← c.self.view_is) (rw none refl)

pub returns-in_default-clause-ok : goal.returns-in_default-clause-ok
returns-in_default-clause-ok c =
    let f = c.self.inside in
    let none = next_none f.flight.pending f.committed c.settled_after.result c.settled_after.ensures c.in_default.is in
    rw (← c.self.view_is) (ap (λ o. office_by f.plan.now f.began f.offers f.committed f.flight (is_some o) f.exhausted) (sym none))

pub commit_of-requires : goal.commit_of-requires
commit_of-requires c =
    let f = c.self.inside in
    let at = next_found f.flight.pending f.committed c.settled_after.result c.in-Some.entry c.settled_after.ensures c.in-Some.is in
    second_is_some f.committed (wait_of c.in-Some.entry.now) (passes (is_next f.committed) (waits f.flight.pending) (wait_of c.in-Some.entry.now) at)

pub returns-clause-commit : goal.returns-clause-commit
returns-clause-commit c =
    let f = c.self.inside in
    let at = next_found f.flight.pending f.committed c.settled_after.result c.in-Some.entry c.settled_after.ensures c.in-Some.is in
    rw (← c.self.view_is) (rw at c.in_ok-commit.ensures)

pub returns-clause-ok : goal.returns-clause-ok
returns-clause-ok c =
    let f = c.self.inside in
    let at = next_found f.flight.pending f.committed c.settled_after.result c.in-Some.entry c.settled_after.ensures c.in-Some.is in
    rw (← c.self.view_is) (ap (λ o. office_by f.plan.now f.began f.offers f.committed f.flight (is_some o) f.exhausted) (sym at))
