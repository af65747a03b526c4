use Rattle.std.specs.Prelude.{◌*◌}
use Rattle.event_engine.specs.Boosts.{GoesBeside}
use Rattle.event_engine.specs.Engines.{IsReady, IsStill, cut_in, topology_in}
use Rattle.event_worlds.specs.bolt_ops.RowOp.{Custom}
use Rattle.event_engine.proofs.engine.Engine.write_often.Given as goal

abbrev pub invariant-loop : goal.invariant-loop
invariant-loop g l = record {
  ready : IsReady (topology_in l.fn.self) (cut_in l.fn.self) l.self;
  goes : (custom : Custom) → GoesBeside g.I.Ids.tells (topology_in l.fn.self) custom (cut_in l.fn.self) (2 * l.counter) l.n l.fn.self l.self;
  still : IsStill l.fn.self l.self;
}
