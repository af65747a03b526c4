use Rattle.event_engine.proofs.ShutLemmas.{or_shuts}
use Rattle.event_engine.proofs.shutting.with_shut.Goals as goal

pub returns : goal.returns
returns c = or_shuts c.args.partition c.args.shut c.requires
