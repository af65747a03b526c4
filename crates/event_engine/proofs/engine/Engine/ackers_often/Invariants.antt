use Rattle.event_worlds.specs.bolt_ops.RowOp.{Custom}
use Rattle.event_engine.specs.Boosts.{AckerRests, GoesUpTo, InTurn}
use Rattle.event_engine.specs.Engines.{IsReady, IsStill, cut_in, topology_in}
use Rattle.event_worlds.specs.Worlds.{of_acker}
use Rattle.event_engine.proofs.engine.Engine.ackers_often.Given as goal

abbrev pub invariant-loop-n : goal.invariant-loop-n
invariant-loop-n g l = record {
  ready : IsReady (topology_in l.fn.self) (cut_in l.fn.self) l.self;
  boosts : (custom : Custom) → InTurn (λ n was is. GoesUpTo g.I.Ids.tells (topology_in l.fn.self) custom (cut_in l.fn.self) l.most (of_acker n) (AckerRests n) was is) l.n l.fn.self l.self;
  still : IsStill l.fn.self l.self;
}
