use Rattle.commit_order.proofs.Ending.{on_ok}
use Rattle.commit_order.proofs.Steps.{next_there}
use Rattle.commit_order.specs.Offices.{waits}
use Rattle.commit_order.proofs.office.Office.decide.Goals as goal

pub returns-in-Done-clause-ok : goal.returns-in-Done-clause-ok
returns-in-Done-clause-ok c =
    let f = c.self.inside in
    let at = next_there (waits f.flight.pending) f.committed c.next_to_commit.result c.in-Some.root c.next_to_commit.ensures c.in-Some.is in
    rw (← c.self.view_is)
    (rw (c.in-Done.is, at.1) (on_ok c.end_committed.result (λ goes. record { office = goes.office; fates = goes.fates }) (c.end_committed.ensures.ok at.0 at.1)))
