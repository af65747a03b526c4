use Rattle.std.proofs.Common.{map}
use Rattle.std.specs.List.{range_with_len}
use Rattle.event_engine.specs.Engines.{Goes, IsReady, IsStill, cut_in, topology_in}
use Rattle.event_worlds.specs.Worlds.{of_task}
use Rattle.event_engine.proofs.engine.Engine.all_tasks.Given as goal

abbrev pub invariant-loop-n : goal.invariant-loop-n
invariant-loop-n g l = record {
  ready : IsReady (topology_in l.fn.self) (cut_in l.fn.self) l.self;
  goes : Goes g.I.Ids.tells (topology_in l.fn.self) (g.O.RowOp.meaning l.custom) (cut_in l.fn.self) (map of_task (range_with_len 0 l.n)) l.fn.self l.self;
  still : IsStill l.fn.self l.self;
}
