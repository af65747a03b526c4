use Rattle.std.proofs.Common.{arith}
use Rattle.event_worlds.proofs.Ending.{ends-caused, settled-whole}
use Rattle.event_worlds.specs.Accounted.{station_of}
use Rattle.event_worlds.specs.Beside.{waits}
use Rattle.commit_order.specs.tuple_account.Moves.{beside}
use Rattle.event_worlds.proofs.laws.worlds_with_others_are_accounted.Goals as goal

pub returns-clause-causes : goal.returns-clause-causes
returns-clause-causes c = λ t custom cut words weight h k input led.
    ends-caused t custom cut words input h k (beside (waits weight) (station_of k)) led (λ s j. omega arith) (c.nodes_of_joined_rows.ensures.sum t custom)

pub returns-clause-settled : goal.returns-clause-settled
returns-clause-settled c = λ t custom cut words all h k input led. settled-whole t custom cut words input h k all led
