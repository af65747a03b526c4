use Rattle.std.proofs.Common.{◌≡◌, ℕ, ◌∙◌, ap, refl, subst, arith}
use Rattle.event_engine.specs.Boosts.{InTurn, TaskBoost, TaskRests}
use Rattle.event_engine.specs.Engines.{IsReady, cut_in, topology_in}
use Rattle.event_engine.proofs.BoostLemmas.{goes_on_still, turn-more, up_to_there}
use Rattle.event_engine.proofs.LoopLemmas.{ready_here, ready_there, still_then}
use Rattle.event_engine.proofs.WriteLemmas.{beside_there}
use Rattle.event_worlds.specs.Worlds.{of_task}
use Rattle.event_worlds.specs.topology_plan.Topology.{Topology, tasks_in_all}
use Rattle.event_engine.proofs.engine.Engine.tasks_often.Goals as goal

pub loop-n-init : goal.loop-n-init
loop-n-init g c = record { ready = c.requires.ready; boosts = refl; still = record { coordinator = refl; fates = refl } }

pub write_often-requires-clause-ready : goal.write_often-requires-clause-ready
write_often-requires-clause-ready g c = let old = c.args.self.now in ready_here (topology_in old) (cut_in old) c.loop-n.self c.loop-n.invariant.ready

pub write_often-requires-clause-goes_on : goal.write_often-requires-clause-goes_on
write_often-requires-clause-goes_on g c = goes_on_still c.args.self.now c.loop-n.self c.loop-n.invariant.still c.requires.goes_on

pub task_often-requires-clause-ready : goal.task_often-requires-clause-ready
task_often-requires-clause-ready g c = λ lives bounds.
    let old = c.args.self.now in
    let mid = c.loop-n.self in
    let first = c.write_often.new.self in
    ready_here (topology_in old) (cut_in old) first (ready_there (topology_in old) (cut_in old) mid c.loop-n.invariant.ready first c.in_ok-write_often.ensures.ready)

pub task_often-requires-clause-goes_on : goal.task_often-requires-clause-goes_on
task_often-requires-clause-goes_on g c = λ lives bounds.
    goes_on_still c.args.self.now c.write_often.new.self (still_then c.args.self.now c.loop-n.self c.write_often.new.self c.loop-n.invariant.still c.write_often.ensures.still) c.requires.goes_on

pub loop-n-preserved : goal.loop-n-preserved
loop-n-preserved g c =
    let old = c.args.self.now in
    let t = topology_in old in
    let cut = cut_in old in
    let custom = g.O.RowOp.meaning c.args.custom.now in
    let mid = c.loop-n.self in
    let first = c.write_often.new.self in
    let new = c.task_often.new.self in
    let kept = c.loop-n.invariant in
    let wrote = c.in_ok-write_often.ensures in
    let now = c.in_ok-task_often.ensures in
    let ready : IsReady t cut first = ready_there t cut mid kept.ready first wrote.ready in record {
      ready = ready_there t cut first ready new now.ready;
      boosts =
          turn-more (λ n was is. TaskBoost g.I.Ids.tells t custom cut c.args.most n was is) c.loop-n.n old mid new kept.boosts
          (record {
            written = first;
            writes = beside_there g.I.Ids.tells t cut mid first kept.ready custom c.args.most c.loop-n.n (wrote.goes custom);
            events = up_to_there g.I.Ids.tells t cut first new ready custom c.args.most (of_task c.loop-n.n) (λ u. TaskRests u c.loop-n.n) now.goes;
          });
      still = still_then old first new (still_then old mid first kept.still c.write_often.ensures.still) c.task_often.ensures.still;
    }

pub returns-in_err-write_often-clause-still : goal.returns-in_err-write_often-clause-still
returns-in_err-write_often-clause-still g c = still_then c.args.self.now c.loop-n.self c.write_often.new.self c.loop-n.invariant.still c.write_often.ensures.still

pub returns-in_err-task_often-clause-still : goal.returns-in_err-task_often-clause-still
returns-in_err-task_often-clause-still g c =
    still_then c.args.self.now c.write_often.new.self c.task_often.new.self (still_then c.args.self.now c.loop-n.self c.write_often.new.self c.loop-n.invariant.still c.write_often.ensures.still) c.task_often.ensures.still

pub returns-clause-boosts : goal.returns-clause-boosts
returns-clause-boosts g c =
    let old = c.args.self.now in
    let t = topology_in old in
    let end : c.loop-n.n ≡ tasks_in_all t =
    (let e : c.loop-n.n ≡ c.tasks-n-end.result = let far = c.loop-n-test.false in let near = c.loop-n.auto.n-end in omega arith in e) ∙ c.tasks-n-end.ensures ∙ ap (λ (u : Topology). tasks_in_all u) c.requires.ready.seated.plan in
    subst (λ (k : ℕ). InTurn (λ n was is. TaskBoost g.I.Ids.tells t (g.O.RowOp.meaning c.args.custom.now) (cut_in old) c.args.most n was is) k old c.loop-n.self) end c.loop-n.invariant.boosts
