use Rattle.std.proofs.Common.{map}
use Rattle.std.specs.List.{range_with_len}
use Rattle.event_engine.specs.Engines.{Goes, IsReady, IsStill, cut_in, topology_in}
use Rattle.event_engine.specs.Shutting.{shutting}
use Rattle.event_worlds.specs.bolt_ops.RowOp.{Custom}
use Rattle.event_engine.proofs.engine.Engine.shut_by.Given as goal

abbrev pub invariant-loop-partition : goal.invariant-loop-partition
invariant-loop-partition g l = record {
  ready : IsReady (topology_in l.fn.self) (cut_in l.fn.self) l.self;
  goes : (custom : Custom) → Goes g.I.Ids.tells (topology_in l.fn.self) custom (cut_in l.fn.self) (map (shutting l.shut) (range_with_len 0 l.partition)) l.fn.self l.self;
  still : IsStill l.fn.self l.self;
}
