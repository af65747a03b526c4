use Rattle.std.proofs.Common.{length}
use Rattle.state_reader.proofs.handles.Publisher.end.Given as goal

abbrev pub decreases-loop-pair : goal.decreases-loop-pair
decreases-loop-pair g l = length l.others.items
