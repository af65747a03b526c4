use Rattle.std.proofs.Common.{map}
use Rattle.std.specs.List.{range_with_len}
use Rattle.worker_stretches.specs.event_engine.Engines.{Goes, IsReady, IsStill, cut_in}
use Rattle.event_worlds.specs.Worlds.{of_task}
use Rattle.worker_rounds.proofs.round.act_all.Given as goal

abbrev pub invariant-loop-n : goal.invariant-loop-n
invariant-loop-n g l = record {
  ready : IsReady l.plan (cut_in l.fn.engine) l.engine;
  goes : Goes g.I.Ids.tells l.plan (g.O.RowOp.meaning l.custom) (cut_in l.fn.engine) (map of_task (range_with_len 0 l.n)) l.fn.engine l.engine;
  still : IsStill l.fn.engine l.engine;
}
