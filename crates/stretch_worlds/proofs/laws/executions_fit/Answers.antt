use Rattle.event_worlds.proofs.Orderly.{sent-fits}
use Rattle.stretch_worlds.proofs.laws.executions_fit.Goals as goal

pub returns : goal.returns
returns c = λ t custom valid wired keeps e well fits. sent-fits t custom valid wired keeps e well fits.1
