use Rattle.event_engine.proofs.LoopLemmas.{still_then}
use Rattle.schedule_core.proofs.Looping.{once_there}
use Rattle.schedule_core.proofs.Resting.{goes_there, on_err, same_run_then}
use Rattle.schedule_core.specs.Rounding.{opening_steps}
use Rattle.schedule_core.proofs.drive.open_boosted.Goals as goal

pub returns-clause-same_run : goal.returns-clause-same_run
returns-clause-same_run g c = same_run_then c.args.engine.now c.boost.new.engine c.open_round.new.engine c.in_ok-boost.ensures.same_run c.in_ok-open_round.ensures.same_run

pub returns-clause-opens : goal.returns-clause-opens
returns-clause-opens g c =
    let boosted = c.in_ok-boost.ensures in record {
      between = c.boost.new.engine;
      boosts = boosted.boosts;
      goes = goes_there g.I.Ids.tells (g.O.RowOp.meaning c.args.custom.now) opening_steps c.args.engine.now c.boost.new.engine c.open_round.new.engine boosted.same_run c.in_ok-open_round.ensures.goes;
    }

pub returns-clause-still : goal.returns-clause-still
returns-clause-still g c = still_then c.args.engine.now c.boost.new.engine c.open_round.new.engine c.boost.ensures.still c.open_round.ensures.still

pub returns-in_err-open_round-clause-still : goal.returns-in_err-open_round-clause-still
returns-in_err-open_round-clause-still g c = still_then c.args.engine.now c.boost.new.engine c.open_round.new.engine c.boost.ensures.still c.open_round.ensures.still

pub returns-in_err-open_round-clause-once : goal.returns-in_err-open_round-clause-once
returns-in_err-open_round-clause-once g c =
    on_err c.from_residual-in_err-open_round.result (once_there c.args.engine.now c.boost.new.engine c.in_ok-boost.ensures.same_run c.open_round.new.engine c.in_err-open_round.ensures.once)
