use Rattle.std.proofs.Common.{[], ◌∷◌, refl, map, arith, rules}
use Rattle.std.specs.List.{range_with_len}
use Rattle.std.proofs.lemmas.List.FromFn.{map-range_with_len_more}
use Rattle.worker_stretches.proofs.event_engine.GoesLemmas.{goes-none, goes-then}
use Rattle.worker_stretches.proofs.event_engine.LoopLemmas.{goes_there, ready_here, ready_there, still_then}
use Rattle.worker_stretches.specs.event_engine.Engines.{cut_in}
use Rattle.event_worlds.specs.Worlds.{of_task}
use Rattle.worker_rounds.proofs.Calling.{task-there}
use Rattle.worker_rounds.proofs.round.act_all.Goals as goal

pub loop-n-init : goal.loop-n-init
loop-n-init g c =
    let old = c.args.engine.now in
    record { ready = c.requires.ready; goes = goes-none g.I.Ids.tells c.args.plan.now (g.O.RowOp.meaning c.args.custom.now) (cut_in old) old; still = record { coordinator = refl; fates = refl } }

pub pass_and_act-requires-clause-there : goal.pass_and_act-requires-clause-there
pass_and_act-requires-clause-there g c =
    let there = task-there c.args.plan.now (cut_in c.args.engine.now) c.loop-n.engine c.loop-n.n c.loop-n.invariant.ready in search (rules, there)

pub pass_and_act-requires-clause-ready : goal.pass_and_act-requires-clause-ready
pass_and_act-requires-clause-ready g c =
    let ready = ready_here c.args.plan.now (cut_in c.args.engine.now) c.loop-n.engine c.loop-n.invariant.ready in search (rules, ready)

pub loop-n-preserved : goal.loop-n-preserved
loop-n-preserved g c =
    let old = c.args.engine.now in
    let t = c.args.plan.now in
    let cut = cut_in old in
    let custom = g.O.RowOp.meaning c.args.custom.now in
    let mid = c.loop-n.engine in
    let new = c.pass_and_act.new.engine in
    let kept = c.loop-n.invariant in
    let now = c.in_ok-pass_and_act.ensures in record {
      ready = ready_there t cut mid kept.ready new now.ready;
      goes =
          rw (map-range_with_len_more of_task 0 c.loop-n.n c.loop-n.n (omega arith))
          (goes-then g.I.Ids.tells t custom cut (map of_task (range_with_len 0 c.loop-n.n)) (of_task c.loop-n.n ∷ []) old mid new kept.goes (goes_there t cut mid kept.ready g.I.Ids.tells custom (of_task c.loop-n.n ∷ []) new now.goes));
      still = still_then old mid new kept.still c.pass_and_act.ensures.still;
    }
