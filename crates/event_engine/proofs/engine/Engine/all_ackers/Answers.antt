use Rattle.std.proofs.Common.{◌≡◌, ℕ, [], ◌∷◌, ◌∙◌, ap, refl, subst, map, arith}
use Rattle.std.specs.List.{range_with_len}
use Rattle.std.proofs.lemmas.List.FromFn.{map-range_with_len_more}
use Rattle.event_engine.specs.Engines.{Goes, cut_in, topology_in}
use Rattle.event_engine.proofs.FatesLemmas.{on_err}
use Rattle.event_engine.proofs.GoesLemmas.{goes-none, goes-then}
use Rattle.event_engine.proofs.LoopLemmas.{goes_there, ready_here, ready_there, still_then}
use Rattle.event_engine.proofs.TurnEvents.{once_still}
use Rattle.event_worlds.specs.Worlds.{of_acker}
use Rattle.event_worlds.specs.topology_plan.Topology.{Topology}
use Rattle.event_engine.proofs.engine.Engine.all_ackers.Goals as goal

pub loop-n-init : goal.loop-n-init
loop-n-init g c =
    let old = c.args.self.now in
    record { ready = c.requires; goes = λ custom. goes-none g.I.Ids.tells (topology_in old) custom (cut_in old) old; still = record { coordinator = refl; fates = refl } }

pub acker-requires-clause-ready : goal.acker-requires-clause-ready
acker-requires-clause-ready g c = let old = c.args.self.now in ready_here (topology_in old) (cut_in old) c.loop-n.self c.loop-n.invariant.ready

pub loop-n-preserved : goal.loop-n-preserved
loop-n-preserved g c =
    let old = c.args.self.now in
    let t = topology_in old in
    let cut = cut_in old in
    let mid = c.loop-n.self in
    let new = c.acker.new.self in
    let kept = c.loop-n.invariant in
    let now = c.in_ok-acker.ensures in record {
      ready = ready_there t cut mid kept.ready new now.ready;
      goes = λ custom.
          rw (map-range_with_len_more of_acker 0 c.loop-n.n c.loop-n.n (omega arith))
          (goes-then g.I.Ids.tells t custom cut (map of_acker (range_with_len 0 c.loop-n.n)) (of_acker c.loop-n.n ∷ []) old mid new (kept.goes custom) (goes_there t cut mid kept.ready g.I.Ids.tells custom (of_acker c.loop-n.n ∷ []) new (now.goes custom)));
      still = still_then old mid new kept.still c.acker.ensures.still;
    }

pub returns-clause-goes : goal.returns-clause-goes
returns-clause-goes g c = λ custom.
    let old = c.args.self.now in
    let t = topology_in old in
    let cut = cut_in old in
    let end : c.loop-n.n ≡ t.ackers =
    (let e : c.loop-n.n ≡ c.ackers-n-end.result = let far = c.loop-n-test.false in let near = c.loop-n.auto.n-end in omega arith in e) ∙ c.ackers-n-end.ensures ∙ ap (λ (u : Topology). u.ackers) c.requires.seated.plan in
    subst (λ (k : ℕ). Goes g.I.Ids.tells t custom cut (map of_acker (range_with_len 0 k)) old c.loop-n.self) end (c.loop-n.invariant.goes custom)

pub returns-in_err-acker-clause-once : goal.returns-in_err-acker-clause-once
returns-in_err-acker-clause-once g c =
    let old = c.args.self.now in
    on_err c.from_residual.result
    (once_still (topology_in old) (cut_in old) old c.acker.new.self c.requires (still_then old c.loop-n.self c.acker.new.self c.loop-n.invariant.still c.acker.ensures.still))
