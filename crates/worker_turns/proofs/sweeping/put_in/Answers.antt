use Rattle.worker_stretches.specs.event_engine.Engines.{shape, topology_in}
use Rattle.worker_turns.proofs.Sweeps.{brings-run-mail, brings-verdict-mail}
use Rattle.worker_turns.proofs.sweeping.put_in.Goals as goal

pub returns-in_ok-receive-in-Run-clause-brings : goal.returns-in_ok-receive-in-Run-clause-brings
returns-in_ok-receive-in-Run-clause-brings g c =
    brings-run-mail (topology_in c.args.engine.now) c.args.mail c.in-Run.parcels (shape c.args.engine.now) (shape c.receive.new.self) c.in-Run.is c.requires.fits c.requires.ready.orderly c.in_ok-receive-in-Run.ensures.receives.same

pub returns-in_ok-hear-in-Verdict-clause-brings : goal.returns-in_ok-hear-in-Verdict-clause-brings
returns-in_ok-hear-in-Verdict-clause-brings g c =
    brings-verdict-mail c.args.mail c.in-Verdict.verdict (shape c.args.engine.now) (shape c.hear.new.self) c.in-Verdict.is c.in_ok-hear-in-Verdict.ensures.hears.same
