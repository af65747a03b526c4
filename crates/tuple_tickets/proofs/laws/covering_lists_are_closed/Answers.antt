use Rattle.tuple_tickets.proofs.Covering.{closed, no_failure}
use Rattle.tuple_tickets.proofs.laws.covering_lists_are_closed.Goals as goal

pub returns-clause-closed : goal.returns-clause-closed
returns-clause-closed g c = closed

pub returns-clause-none_failed : goal.returns-clause-none_failed
returns-clause-none_failed g c = λ growth root list all_true single steady. no_failure growth root list all_true
