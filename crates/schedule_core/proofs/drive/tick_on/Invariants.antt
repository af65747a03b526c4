use Rattle.std.specs.Prelude.{replicate}
use Rattle.event_worlds.specs.bolt_ops.RowOp.{Custom}
use Rattle.event_engine.specs.Engines.{Goes, IsReady, IsStill, cut_in, topology_in}
use Rattle.event_worlds.specs.Worlds.{of_tick}
use Rattle.schedule_core.proofs.drive.tick_on.Given as goal

abbrev pub invariant-loop-ticked : goal.invariant-loop-ticked
invariant-loop-ticked g l = record {
  ready : IsReady (topology_in l.fn.engine) (cut_in l.fn.engine) l.engine;
  goes : (custom : Custom) → Goes g.I.Ids.tells (topology_in l.fn.engine) custom (cut_in l.fn.engine) (replicate l.ticked of_tick) l.fn.engine l.engine;
  still : IsStill l.fn.engine l.engine;
}
