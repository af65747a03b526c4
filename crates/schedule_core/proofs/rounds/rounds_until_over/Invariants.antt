use Rattle.schedule_core.proofs.Following.{SoFar}
use Rattle.schedule_core.proofs.RunByRounds.{Turning}
use Rattle.schedule_core.proofs.rounds.rounds_until_over.Given as goal

abbrev pub invariant-loop : goal.invariant-loop
invariant-loop g l = record {
  turning : Turning g.I.Ids.tells g.C.CellStore.tells g.C.CellStore.fault_count g.T.Ticks.handed_out g.T.Ticks.tells g.V.Avail.tells (g.O.RowOp.meaning l.custom) l.fn.engine l.engine l.fn.parts l.parts l.fn.ticks l.ticks l.fn.avail l.avail;
  told : SoFar g.W.Follow.tells g.W.Follow.takes g.W.Follow.fault_count l.fn.engine l.engine l.fn.follow l.follow;
}
