use Rattle.std.proofs.Common.{map}
use Rattle.std.specs.List.{range_with_len}
use Rattle.event_worlds.specs.bolt_ops.RowOp.{Custom}
use Rattle.event_engine.specs.Engines.{Goes, IsReady, IsStill, cut_in, topology_in}
use Rattle.event_worlds.specs.Worlds.{of_acker}
use Rattle.event_engine.proofs.engine.Engine.all_ackers.Given as goal

abbrev pub invariant-loop-n : goal.invariant-loop-n
invariant-loop-n g l = record {
  ready : IsReady (topology_in l.fn.self) (cut_in l.fn.self) l.self;
  goes : (custom : Custom) → Goes g.I.Ids.tells (topology_in l.fn.self) custom (cut_in l.fn.self) (map of_acker (range_with_len 0 l.n)) l.fn.self l.self;
  still : IsStill l.fn.self l.self;
}
