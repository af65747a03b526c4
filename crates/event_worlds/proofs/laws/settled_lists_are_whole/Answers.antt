use Rattle.event_worlds.proofs.Ending.{settled-whole}
use Rattle.event_worlds.specs.Accounted.{station_of}
use Rattle.event_worlds.proofs.laws.settled_lists_are_whole.Goals as goal

pub returns : goal.returns
returns c = λ t custom cut words k input accounted. settled-whole t custom cut words input accounted.0 k (station_of k) accounted.1
