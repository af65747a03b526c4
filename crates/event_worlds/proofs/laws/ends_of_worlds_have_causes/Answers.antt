use Rattle.std.proofs.Common.{refl}
use Rattle.event_worlds.proofs.Ending.{ends-caused}
use Rattle.event_worlds.specs.Accounted.{station_of}
use Rattle.event_worlds.proofs.laws.ends_of_worlds_have_causes.Goals as goal

pub returns : goal.returns
returns c = λ t custom cut words k input accounted.
    ends-caused t custom cut words input accounted.0 k (station_of k) accounted.1 (λ s j. refl) (c.nodes_of_joined_rows.ensures.sum t custom)
