use Rattle.event_engine.specs.Boosts.{InTurn, TaskBoost}
use Rattle.event_engine.specs.Engines.{IsReady, IsStill, cut_in, topology_in}
use Rattle.event_engine.proofs.engine.Engine.tasks_often.Given as goal

abbrev pub invariant-loop-n : goal.invariant-loop-n
invariant-loop-n g l = record {
  ready : IsReady (topology_in l.fn.self) (cut_in l.fn.self) l.self;
  boosts : InTurn (λ n was is. TaskBoost g.I.Ids.tells (topology_in l.fn.self) (g.O.RowOp.meaning l.custom) (cut_in l.fn.self) l.most n was is) l.n l.fn.self l.self;
  still : IsStill l.fn.self l.self;
}
