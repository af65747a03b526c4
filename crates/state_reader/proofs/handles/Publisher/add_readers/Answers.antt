use Rattle.state_reader.specs.Lists.{shown_by, shown_by_each}
use Rattle.state_reader.proofs.Several.{first-empty}
use Rattle.state_reader.proofs.handles.Publisher.add_readers.Goals as goal

pub add_pair-requires-clause-list : goal.add_pair-requires-clause-list
add_pair-requires-clause-list g c =
    let self = c.loop.self in first-empty c.loop.counter (shown_by self.first) (shown_by_each self.others.items) c.loop.invariant.0
