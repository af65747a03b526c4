use Rattle.std.proofs.Common.{◌+◌, ◌*◌, refl, arith}
use Rattle.event_engine.specs.Engines.{cut_in, topology_in}
use Rattle.event_engine.proofs.BoostLemmas.{goes_on_still, task_of_its_own}
use Rattle.event_engine.proofs.LoopLemmas.{ready_here, ready_there, still_then}
use Rattle.event_engine.proofs.WriteLemmas.{beside-fewer, beside-none, beside-then, beside_there}
use Rattle.event_engine.proofs.engine.Engine.write_often.Goals as goal

pub loop-init : goal.loop-init
loop-init g c = let old = c.args.self.now in record {
  ready = c.requires.ready;
  goes = λ custom. beside-none g.I.Ids.tells (topology_in old) custom (cut_in old) c.args.n (2 * 0) old;
  still = record { coordinator = refl; fates = refl };
}

pub write_event-requires-clause-there : goal.write_event-requires-clause-there
write_event-requires-clause-there g c = let old = c.args.self.now in task_of_its_own (topology_in old) (cut_in old) c.loop.self c.loop.invariant.ready c.args.n c.requires.there

pub write_event-requires-clause-ready : goal.write_event-requires-clause-ready
write_event-requires-clause-ready g c = let old = c.args.self.now in ready_here (topology_in old) (cut_in old) c.loop.self c.loop.invariant.ready

pub write_event-requires-clause-goes_on : goal.write_event-requires-clause-goes_on
write_event-requires-clause-goes_on g c = goes_on_still c.args.self.now c.loop.self c.loop.invariant.still c.requires.goes_on

pub returns-then-not-branch-clause-goes : goal.returns-then-not-branch-clause-goes
returns-then-not-branch-clause-goes g c custom =
    let old = c.args.self.now in
    let t = topology_in old in
    let cut = cut_in old in
    let tells = g.I.Ids.tells in
    let mid = c.loop.self in
    let new = c.write_event.new.self in
    let kept = c.loop.invariant in
    let next = beside_there tells t cut mid new kept.ready custom 2 c.args.n (c.in_ok-write_event.ensures.goes custom) in
    beside-fewer tells t custom cut c.args.n (2 * c.loop.counter + 2) c.args.most old new (let near = c.loop-test.true in omega arith) (beside-then tells t custom cut c.args.n (2 * c.loop.counter) 2 old mid new (kept.goes custom) next)

pub loop-preserved : goal.loop-preserved
loop-preserved g c =
    let old = c.args.self.now in
    let t = topology_in old in
    let cut = cut_in old in
    let tells = g.I.Ids.tells in
    let mid = c.loop.self in
    let new = c.write_event.new.self in
    let kept = c.loop.invariant in
    let now = c.in_ok-write_event.ensures in record {
      ready = ready_there t cut mid kept.ready new now.ready;
      goes = λ custom.
          beside-fewer tells t custom cut c.args.n (2 * c.loop.counter + 2) (2 * (c.loop.counter + 1)) old new (omega arith)
          (beside-then tells t custom cut c.args.n (2 * c.loop.counter) 2 old mid new (kept.goes custom) (beside_there tells t cut mid new kept.ready custom 2 c.args.n (now.goes custom)));
      still = still_then old mid new kept.still c.write_event.ensures.still;
    }

pub returns-clause-goes : goal.returns-clause-goes
returns-clause-goes g c custom =
    let old = c.args.self.now in
    beside-fewer g.I.Ids.tells (topology_in old) custom (cut_in old) c.args.n (2 * c.loop.counter) c.args.most old c.loop.self (let near = c.loop.auto.counter-end in omega arith) (c.loop.invariant.goes custom)
