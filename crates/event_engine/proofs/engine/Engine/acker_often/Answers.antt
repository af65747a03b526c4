use Rattle.std.proofs.Common.{refl, arith}
use Rattle.event_engine.specs.Boosts.{AckerRests}
use Rattle.event_engine.specs.Engines.{cut_in, topology_in}
use Rattle.event_engine.proofs.BoostLemmas.{acker_again, acker_here, acker_of_its_own, acker_ready_again, up_to_all, up_to_rest}
use Rattle.event_engine.proofs.GoesLemmas.{goes-none}
use Rattle.event_engine.proofs.LoopLemmas.{ready_here, still_then}
use Rattle.event_worlds.specs.Worlds.{of_acker}
use Rattle.event_engine.proofs.engine.Engine.acker_often.Goals as goal

pub loop-done-init : goal.loop-done-init
loop-done-init g c =
    let old = c.args.self.now in
    record { ready = c.requires.ready; goes = λ custom. goes-none g.I.Ids.tells (topology_in old) custom (cut_in old) old; still = record { coordinator = refl; fates = refl } }

pub acker_rests-requires : goal.acker_rests-requires
acker_rests-requires g c = let old = c.args.self.now in acker_here (topology_in old) (cut_in old) c.loop-done.self c.loop-done.invariant.ready c.args.n c.requires.there

pub acker_event-requires-clause-there : goal.acker_event-requires-clause-there
acker_event-requires-clause-there g c = let old = c.args.self.now in acker_of_its_own (topology_in old) (cut_in old) c.loop-done.self c.loop-done.invariant.ready c.args.n c.requires.there

pub acker_event-requires-clause-ready : goal.acker_event-requires-clause-ready
acker_event-requires-clause-ready g c = let old = c.args.self.now in ready_here (topology_in old) (cut_in old) c.loop-done.self c.loop-done.invariant.ready

pub returns-then-acker_rests-clause-goes : goal.returns-then-acker_rests-clause-goes
returns-then-acker_rests-clause-goes g c = λ custom.
    let old = c.args.self.now in
    up_to_rest g.I.Ids.tells (topology_in old) custom (cut_in old) c.args.most c.loop-done.done (of_acker c.args.n) (AckerRests c.args.n) old c.loop-done.self (let near = c.loop-done.auto.done-end in omega arith)
    (c.acker_rests.ensures c.if-acker_rests.true) (c.loop-done.invariant.goes custom)

pub loop-done-preserved : goal.loop-done-preserved
loop-done-preserved g c =
    let old = c.args.self.now in
    let t = topology_in old in
    let cut = cut_in old in
    let mid = c.loop-done.self in
    let new = c.acker_event.new.self in
    let kept = c.loop-done.invariant in
    let next = c.acker_event.ensures.still in
    let now = c.in_ok-acker_event.ensures in record {
      ready = acker_ready_again g.I.Ids.tells t cut old mid new kept.ready kept.still c.requires.goes_on next c.args.n now.done now.seated;
      goes = λ custom. acker_again g.I.Ids.tells t cut old mid new kept.ready kept.still c.requires.goes_on next c.args.n now.done custom c.loop-done.done now.sources (kept.goes custom);
      still = still_then old mid new kept.still next;
    }

pub returns-in_err-acker_event-clause-still : goal.returns-in_err-acker_event-clause-still
returns-in_err-acker_event-clause-still g c = still_then c.args.self.now c.loop-done.self c.acker_event.new.self c.loop-done.invariant.still c.acker_event.ensures.still

pub returns-clause-goes : goal.returns-clause-goes
returns-clause-goes g c = λ custom.
    let old = c.args.self.now in
    up_to_all g.I.Ids.tells (topology_in old) custom (cut_in old) c.args.most c.loop-done.done (of_acker c.args.n) (AckerRests c.args.n) old c.loop-done.self
    (let far = c.loop-done-test.false in let near = c.loop-done.auto.done-end in omega arith) (c.loop-done.invariant.goes custom)
