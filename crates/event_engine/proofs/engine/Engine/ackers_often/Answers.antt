use Rattle.std.proofs.Common.{◌≡◌, ℕ, ◌∙◌, ap, refl, subst, arith}
use Rattle.event_engine.specs.Boosts.{AckerRests, GoesUpTo, InTurn}
use Rattle.event_engine.specs.Engines.{cut_in, topology_in}
use Rattle.event_engine.proofs.BoostLemmas.{goes_on_still, turn-more, up_to_there}
use Rattle.event_engine.proofs.LoopLemmas.{ready_here, ready_there, still_then}
use Rattle.event_worlds.specs.Worlds.{of_acker}
use Rattle.event_worlds.specs.topology_plan.Topology.{Topology}
use Rattle.event_engine.proofs.engine.Engine.ackers_often.Goals as goal

pub loop-n-init : goal.loop-n-init
loop-n-init g c = record { ready = c.requires.ready; boosts = λ custom. refl; still = record { coordinator = refl; fates = refl } }

pub acker_often-requires-clause-ready : goal.acker_often-requires-clause-ready
acker_often-requires-clause-ready g c = let old = c.args.self.now in ready_here (topology_in old) (cut_in old) c.loop-n.self c.loop-n.invariant.ready

pub acker_often-requires-clause-goes_on : goal.acker_often-requires-clause-goes_on
acker_often-requires-clause-goes_on g c = goes_on_still c.args.self.now c.loop-n.self c.loop-n.invariant.still c.requires.goes_on

pub loop-n-preserved : goal.loop-n-preserved
loop-n-preserved g c =
    let old = c.args.self.now in
    let t = topology_in old in
    let cut = cut_in old in
    let mid = c.loop-n.self in
    let new = c.acker_often.new.self in
    let kept = c.loop-n.invariant in
    let now = c.in_ok-acker_often.ensures in record {
      ready = ready_there t cut mid kept.ready new now.ready;
      boosts = λ custom.
          turn-more (λ n was is. GoesUpTo g.I.Ids.tells t custom cut c.args.most (of_acker n) (AckerRests n) was is) c.loop-n.n old mid new (kept.boosts custom)
          (up_to_there g.I.Ids.tells t cut mid new kept.ready custom c.args.most (of_acker c.loop-n.n) (λ u. AckerRests c.loop-n.n) (now.goes custom));
      still = still_then old mid new kept.still c.acker_often.ensures.still;
    }

pub returns-in_err-acker_often-clause-still : goal.returns-in_err-acker_often-clause-still
returns-in_err-acker_often-clause-still g c = still_then c.args.self.now c.loop-n.self c.acker_often.new.self c.loop-n.invariant.still c.acker_often.ensures.still

pub returns-clause-boosts : goal.returns-clause-boosts
returns-clause-boosts g c = λ custom.
    let old = c.args.self.now in
    let t = topology_in old in
    let end : c.loop-n.n ≡ t.ackers =
    (let e : c.loop-n.n ≡ c.ackers-n-end.result = let far = c.loop-n-test.false in let near = c.loop-n.auto.n-end in omega arith in e) ∙ c.ackers-n-end.ensures ∙ ap (λ (u : Topology). u.ackers) c.requires.ready.seated.plan in
    subst (λ (k : ℕ). InTurn (λ n was is. GoesUpTo g.I.Ids.tells t custom (cut_in old) c.args.most (of_acker n) (AckerRests n) was is) k old c.loop-n.self) end (c.loop-n.invariant.boosts custom)
