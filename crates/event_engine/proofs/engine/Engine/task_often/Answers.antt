use Rattle.std.proofs.Common.{refl, subst, arith}
use Rattle.event_engine.specs.Boosts.{TaskRests}
use Rattle.event_engine.specs.Engines.{cut_in, shape, topology_in}
use Rattle.event_engine.proofs.BoostLemmas.{task_again, task_here, task_of_its_own, task_ready_again, up_to_all, up_to_rest}
use Rattle.event_engine.proofs.GoesLemmas.{goes-none}
use Rattle.event_engine.proofs.LoopLemmas.{ready_here, still_then}
use Rattle.event_worlds.specs.Worlds.{of_task}
use Rattle.event_worlds.specs.topology_plan.Topology.{Topology}
use Rattle.event_engine.proofs.engine.Engine.task_often.Goals as goal

pub loop-done-init : goal.loop-done-init
loop-done-init g c =
    let old = c.args.self.now in
    record { ready = c.requires.ready; goes = goes-none g.I.Ids.tells (topology_in old) (g.O.RowOp.meaning c.args.custom.now) (cut_in old) old; still = record { coordinator = refl; fates = refl } }

pub task_rests-requires : goal.task_rests-requires
task_rests-requires g c = let old = c.args.self.now in task_here (topology_in old) (cut_in old) c.loop-done.self c.loop-done.invariant.ready c.args.n c.requires.there

pub task_event-requires-clause-there : goal.task_event-requires-clause-there
task_event-requires-clause-there g c = λ lives bounds. let old = c.args.self.now in task_of_its_own (topology_in old) (cut_in old) c.loop-done.self c.loop-done.invariant.ready c.args.n c.requires.there

pub task_event-requires-clause-ready : goal.task_event-requires-clause-ready
task_event-requires-clause-ready g c = λ lives bounds. let old = c.args.self.now in ready_here (topology_in old) (cut_in old) c.loop-done.self c.loop-done.invariant.ready

pub returns-then-task_rests-clause-goes : goal.returns-then-task_rests-clause-goes
returns-then-task_rests-clause-goes g c =
    let old = c.args.self.now in
    let t = topology_in old in
    let mid = c.loop-done.self in
    let kept = c.loop-done.invariant in
    up_to_rest g.I.Ids.tells t (g.O.RowOp.meaning c.args.custom.now) (cut_in old) c.args.most c.loop-done.done (of_task c.args.n) (TaskRests t c.args.n) old mid (let near = c.loop-done.auto.done-end in omega arith)
    (subst (λ (u : Topology). TaskRests u c.args.n (shape mid)) kept.ready.seated.of_topology (c.task_rests.ensures c.if-task_rests.true)) kept.goes

pub loop-done-preserved : goal.loop-done-preserved
loop-done-preserved g c =
    let old = c.args.self.now in
    let t = topology_in old in
    let cut = cut_in old in
    let custom = g.O.RowOp.meaning c.args.custom.now in
    let mid = c.loop-done.self in
    let new = c.task_event.new.self in
    let kept = c.loop-done.invariant in
    let next = c.task_event.ensures.still in
    let now = c.in_ok-task_event.ensures in record {
      ready = task_ready_again g.I.Ids.tells t cut old mid new kept.ready kept.still c.requires.goes_on next custom c.args.n now.done (g.O.RowOp.keeps c.args.custom.now) c.requires.there now.seated;
      goes = task_again g.I.Ids.tells t cut old mid new kept.ready kept.still c.requires.goes_on next custom c.args.n now.done c.loop-done.done kept.goes;
      still = still_then old mid new kept.still next;
    }

pub returns-in_err-task_event-clause-still : goal.returns-in_err-task_event-clause-still
returns-in_err-task_event-clause-still g c = still_then c.args.self.now c.loop-done.self c.task_event.new.self c.loop-done.invariant.still c.task_event.ensures.still

pub returns-clause-goes : goal.returns-clause-goes
returns-clause-goes g c =
    let old = c.args.self.now in
    let t = topology_in old in
    up_to_all g.I.Ids.tells t (g.O.RowOp.meaning c.args.custom.now) (cut_in old) c.args.most c.loop-done.done (of_task c.args.n) (TaskRests t c.args.n) old c.loop-done.self
    (let far = c.loop-done-test.false in let near = c.loop-done.auto.done-end in omega arith) c.loop-done.invariant.goes
