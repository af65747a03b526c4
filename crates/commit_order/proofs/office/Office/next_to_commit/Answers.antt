use Rattle.std.proofs.Common.{sym, ap}
use Rattle.std.specs.Option.{option_map}
use Rattle.commit_order.proofs.Steps.{next_found, next_none}
use Rattle.commit_turns.specs.declared.wait.Wait.{Wait}
use Rattle.commit_order.proofs.office.Office.next_to_commit.Goals as goal

pub returns-in-Some : goal.returns-in-Some
returns-in-Some c =
    let f = c.self.inside in
    rw (← c.self.view_is)
    (sym (ap (option_map (λ (w : Wait). w.root)) (next_found f.flight.pending f.committed c.settled_after.result c.in-Some.entry c.settled_after.ensures c.in-Some.is)))

pub returns-in-None : goal.returns-in-None
returns-in-None c =
    let f = c.self.inside in
    rw (← c.self.view_is)
    (sym (ap (option_map (λ (w : Wait). w.root)) (next_none f.flight.pending f.committed c.settled_after.result c.settled_after.ensures c.in-None.is)))
