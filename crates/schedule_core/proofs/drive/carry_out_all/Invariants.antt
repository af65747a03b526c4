use Rattle.std.proofs.Common.{take}
use Rattle.event_engine.specs.Engines.{topology_in}
use Rattle.schedule_core.specs.Schedules.{all_steps}
use Rattle.schedule_core.proofs.Following.{SoFar}
use Rattle.schedule_core.proofs.Looping.{Driven}
use Rattle.schedule_core.proofs.drive.carry_out_all.Given as goal

abbrev pub invariant-loop-event : goal.invariant-loop-event
invariant-loop-event g l = record {
  driven : Driven g.I.Ids.tells g.C.CellStore.tells g.C.CellStore.fault_count (g.O.RowOp.meaning l.custom) (all_steps (topology_in l.fn.engine) (take l.event-index l.events)) l.fn.engine l.engine l.fn.parts l.parts;
  told : SoFar g.W.Follow.tells g.W.Follow.takes g.W.Follow.fault_count l.fn.engine l.engine l.fn.follow l.follow;
}
