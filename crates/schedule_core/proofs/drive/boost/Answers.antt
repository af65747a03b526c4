use Rattle.schedule_core.proofs.Resting.{at_rest_after, same_run_after}
use Rattle.schedule_core.proofs.drive.boost.Goals as goal

pub returns-clause-at_rest : goal.returns-clause-at_rest
returns-clause-at_rest g c = at_rest_after c.args.engine.now c.boost.new.self c.requires c.in_ok-boost.ensures.ready c.boost.ensures.still

pub returns-clause-same_run : goal.returns-clause-same_run
returns-clause-same_run g c = same_run_after c.args.engine.now c.boost.new.self c.in_ok-boost.ensures.ready
