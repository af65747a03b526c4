use Rattle.std.proofs.Common.{Some}
use Rattle.commit_order.proofs.Ending.{on_err}
use Rattle.commit_order.proofs.Passing.{adds_back, adds_front, on_err_of}
use Rattle.commit_turns.specs.Turns.{heard, ticked}
use Rattle.commit_order.proofs.office.Office.listen.Goals as goal
use Rattle.commit_order.proofs.office.Office.listen.Goals.{in-Some+in_ok-hear, in_default}

pub returns-in_err-hear-clause-err : goal.returns-in_err-hear-clause-err
returns-in_err-hear-clause-err c =
    let o = c.args.self.now in
    rw c.in-Some.is
    (on_err c.from_residual.result
    (adds_front _ (ticked o.topology o.cut c.args.ticks (heard o.topology o.cut (Some c.in-Some.told) o.desk).desk).ended c.args.fates.now c.hear.new.fates
    c.in_err-hear.ensures.err))

pub returns-clause-err : goal.returns-clause-err
returns-clause-err c =
    let o = c.args.self.now in
    elim c.match-verdict.branch [
      | in-Some+in_ok-hear w ↦
          let to = heard o.topology o.cut (Some w.in-Some.told) o.desk in
          let at = rw (w.self-is, w.fates-is, w.in_ok-hear.ensures.ok.office, w.in_ok-hear.ensures.ok.fates) at c.pass.ensures.err in
          rw w.in-Some.is (on_err_of c.pass.result (adds_back to.ended (ticked o.topology o.cut c.args.ticks to.desk).ended c.args.fates.now c.pass.new.fates) at)
      | in_default w ↦
          let at = rw (w.self-is, w.fates-is) at c.pass.ensures.err in
          rw w.in_default.is at
    ]
