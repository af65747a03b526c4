use Rattle.std.specs.Prelude.{replicate}
use Rattle.event_worlds.specs.bolt_ops.RowOp.{Custom}
use Rattle.event_engine.specs.Engines.{Goes, IsReady, IsStill, cut_in, topology_in}
use Rattle.event_worlds.specs.Worlds.{of_acker}
use Rattle.event_engine.proofs.engine.Engine.acker_often.Given as goal

abbrev pub invariant-loop-done : goal.invariant-loop-done
invariant-loop-done g l = record {
  ready : IsReady (topology_in l.fn.self) (cut_in l.fn.self) l.self;
  goes : (custom : Custom) → Goes g.I.Ids.tells (topology_in l.fn.self) custom (cut_in l.fn.self) (replicate l.done (of_acker l.n)) l.fn.self l.self;
  still : IsStill l.fn.self l.self;
}
