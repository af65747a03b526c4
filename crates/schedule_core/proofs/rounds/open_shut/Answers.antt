use Rattle.schedule_core.proofs.Resting.{opens_there, same_run_after}
use Rattle.schedule_core.proofs.rounds.open_shut.Goals as goal

pub returns-clause-opens : goal.returns-clause-opens
returns-clause-opens g c =
    let old = c.args.engine.now in
    let mid = c.shut_by.new.self in record {
      between = mid;
      goes = c.shut_by.ensures.goes (g.O.RowOp.meaning c.args.custom.now);
      opens = opens_there g.I.Ids.tells (g.O.RowOp.meaning c.args.custom.now) old mid c.open_boosted.new.engine (same_run_after old mid c.shut_by.ensures.ready) c.in_ok-open_boosted.ensures.opens;
    }
