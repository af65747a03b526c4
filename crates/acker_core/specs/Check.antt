-- The check of a list: the path order where it is closed, and the open edges where it is not.
use Rattle.std.specs.Prelude.{◌≢◌, List, []}
use Rattle.tree_model.specs.declared.messages.AckMsg.{AckMsg}
use Rattle.tree_model.specs.Lists.{occurrences, IsClosed}
use Rattle.commit_writes.specs.Writes.{IsPathOrderOf}
use Rattle.acker_core.specs.Edges.{AreLeft}
use Rattle.acker_core.specs.declared.check.Check.{Check}
use Rattle.acker_core.specs.declared.check.Check.TheVariants.{Closed, Left}

-- closed exactly where no edge is open, with the places of its dones in path order, and else the
-- open edges, in order
abbrev pub IsCheckOf : List AckMsg → Check → Type 0
IsCheckOf list (Closed order) = IsClosed list × IsPathOrderOf list order
IsCheckOf list (Left edges) = AreLeft (occurrences list) edges × (edges ≢ [])
