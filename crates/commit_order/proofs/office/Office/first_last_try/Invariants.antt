use Rattle.std.proofs.Common.{◌≡◌, drop, map}
use Rattle.commit_order.specs.Offices.{try_at}
use Rattle.tuple_account.specs.storm_values.Lines.{first_some}
use Rattle.commit_order.proofs.office.Office.first_last_try.Given as goal

abbrev pub invariant-loop-entry : goal.invariant-loop-entry
invariant-loop-entry l =
    first_some (map (try_at l.fn.self.topology l.fn.self.desk.tries) l.late)
    ≡ first_some (map (try_at l.fn.self.topology l.fn.self.desk.tries) (drop l.entry-index l.late))
