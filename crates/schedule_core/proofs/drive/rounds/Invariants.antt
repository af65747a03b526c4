use Rattle.event_engine.specs.Engines.{topology_in}
use Rattle.event_worlds.specs.Worlds.{rounds_steps}
use Rattle.schedule_core.proofs.Following.{SoFar}
use Rattle.schedule_core.proofs.Looping.{Driven}
use Rattle.schedule_core.proofs.drive.rounds.Given as goal

abbrev pub invariant-loop-done : goal.invariant-loop-done
invariant-loop-done g l = record {
  driven : Driven g.I.Ids.tells g.C.CellStore.tells g.C.CellStore.fault_count (g.O.RowOp.meaning l.custom) (rounds_steps (topology_in l.fn.engine) l.done) l.fn.engine l.engine l.fn.parts l.parts;
  told : SoFar g.W.Follow.tells g.W.Follow.takes g.W.Follow.fault_count l.fn.engine l.engine l.fn.follow l.follow;
}
