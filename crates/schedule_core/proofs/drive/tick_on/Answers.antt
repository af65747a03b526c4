use Rattle.std.proofs.Common.{◌≡◌, ℕ, [], ◌∷◌, refl, subst, arith}
use Rattle.std.specs.Prelude.{replicate}
use Rattle.std.proofs.lemmas.List.{replicate-append-replicate}
use Rattle.event_engine.proofs.GoesLemmas.{goes-none, goes-then}
use Rattle.event_engine.proofs.LoopLemmas.{goes_there, ready_here, ready_there, still_then}
use Rattle.event_engine.specs.Engines.{Goes, cut_in, topology_in}
use Rattle.event_worlds.specs.Worlds.{of_tick}
use Rattle.schedule_core.proofs.Resting.{at_rest_after, same_run_after}
use Rattle.schedule_core.proofs.drive.tick_on.Goals as goal

pub loop-ticked-init : goal.loop-ticked-init
loop-ticked-init g c =
    let old = c.args.engine.now in
    record { ready = c.requires.ready; goes = λ custom. goes-none g.I.Ids.tells (topology_in old) custom (cut_in old) old; still = record { coordinator = refl; fates = refl } }

pub tick-requires : goal.tick-requires
tick-requires g c = let old = c.args.engine.now in ready_here (topology_in old) (cut_in old) c.loop-ticked.engine c.loop-ticked.invariant.ready

pub loop-ticked-preserved : goal.loop-ticked-preserved
loop-ticked-preserved g c =
    let old = c.args.engine.now in
    let t = topology_in old in
    let cut = cut_in old in
    let mid = c.loop-ticked.engine in
    let new = c.tick.new.self in
    let kept = c.loop-ticked.invariant in
    let n = c.loop-ticked.ticked in record {
      ready = ready_there t cut mid kept.ready new c.tick.ensures.ready;
      goes = λ custom.
          rw (← replicate-append-replicate n 1 of_tick)
          (goes-then g.I.Ids.tells t custom cut (replicate n of_tick) (of_tick ∷ []) old mid new (kept.goes custom) (goes_there t cut mid kept.ready g.I.Ids.tells custom (of_tick ∷ []) new (c.tick.ensures.goes custom)));
      still = still_then old mid new kept.still c.tick.ensures.still;
    }

pub returns-clause-at_rest : goal.returns-clause-at_rest
returns-clause-at_rest g c = at_rest_after c.args.engine.now c.loop-ticked.engine c.requires c.loop-ticked.invariant.ready c.loop-ticked.invariant.still

pub returns-clause-same_run : goal.returns-clause-same_run
returns-clause-same_run g c = same_run_after c.args.engine.now c.loop-ticked.engine c.loop-ticked.invariant.ready

pub returns-clause-goes : goal.returns-clause-goes
returns-clause-goes g c = λ custom.
    let old = c.args.engine.now in
    let end : c.loop-ticked.ticked ≡ c.args.count = (let far = c.loop-ticked-test.false in let near = c.loop-ticked.auto.ticked-end in omega arith) in
    subst (λ (k : ℕ). Goes g.I.Ids.tells (topology_in old) custom (cut_in old) (replicate k of_tick) old c.loop-ticked.engine) end (c.loop-ticked.invariant.goes custom)
