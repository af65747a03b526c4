use Rattle.std.proofs.Common.{[], ◌∷◌, refl, map, arith}
use Rattle.std.specs.List.{range_with_len}
use Rattle.std.proofs.lemmas.List.FromFn.{map-range_with_len_more}
use Rattle.event_engine.specs.Engines.{cut_in, topology_in}
use Rattle.event_engine.proofs.FatesLemmas.{on_err}
use Rattle.event_engine.proofs.GoesLemmas.{goes-none, goes-then}
use Rattle.event_engine.proofs.LoopLemmas.{goes_there, ready_here, ready_there, still_then}
use Rattle.event_engine.proofs.TurnEvents.{once_still}
use Rattle.event_worlds.specs.Worlds.{of_task}
use Rattle.event_engine.proofs.engine.Engine.all_tasks.Goals as goal

pub loop-n-init : goal.loop-n-init
loop-n-init g c =
    let old = c.args.self.now in
    record { ready = c.requires; goes = goes-none g.I.Ids.tells (topology_in old) (g.O.RowOp.meaning c.args.custom.now) (cut_in old) old; still = record { coordinator = refl; fates = refl } }

pub task-requires-clause-ready : goal.task-requires-clause-ready
task-requires-clause-ready g c = λ lives bounds. let old = c.args.self.now in ready_here (topology_in old) (cut_in old) c.loop-n.self c.loop-n.invariant.ready

pub loop-n-preserved : goal.loop-n-preserved
loop-n-preserved g c =
    let old = c.args.self.now in
    let t = topology_in old in
    let cut = cut_in old in
    let custom = g.O.RowOp.meaning c.args.custom.now in
    let mid = c.loop-n.self in
    let new = c.task.new.self in
    let kept = c.loop-n.invariant in
    let now = c.in_ok-task.ensures in record {
      ready = ready_there t cut mid kept.ready new now.ready;
      goes =
          rw (map-range_with_len_more of_task 0 c.loop-n.n c.loop-n.n (omega arith))
          (goes-then g.I.Ids.tells t custom cut (map of_task (range_with_len 0 c.loop-n.n)) (of_task c.loop-n.n ∷ []) old mid new kept.goes (goes_there t cut mid kept.ready g.I.Ids.tells custom (of_task c.loop-n.n ∷ []) new now.goes));
      still = still_then old mid new kept.still c.task.ensures.still;
    }

pub returns-in_err-task-clause-once : goal.returns-in_err-task-clause-once
returns-in_err-task-clause-once g c =
    let old = c.args.self.now in
    on_err c.from_residual.result
    (once_still (topology_in old) (cut_in old) old c.task.new.self c.requires (still_then old c.loop-n.self c.task.new.self c.loop-n.invariant.still c.task.ensures.still))
