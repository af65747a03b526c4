use Rattle.std.proofs.Common.{◌≡◌, [], ◌∷◌, refl, map, arith, ap, subst, ◌∙◌}
use Rattle.std.specs.List.{range_with_len}
use Rattle.std.proofs.lemmas.List.FromFn.{map-range_with_len_more}
use Rattle.event_engine.specs.Engines.{Goes, cut_in, topology_in}
use Rattle.event_engine.specs.Shutting.{shutting}
use Rattle.event_worlds.specs.topology_plan.Topology.{Topology}
use Rattle.event_engine.proofs.GoesLemmas.{goes-none, goes-then}
use Rattle.event_engine.proofs.LoopLemmas.{goes_there, ready_here, ready_there, still_then}
use Rattle.event_engine.proofs.engine.Engine.shut_by.Goals as goal

pub loop-partition-init : goal.loop-partition-init
loop-partition-init g c =
    let old = c.args.self.now in
    record { ready = c.requires; goes = λ custom. goes-none g.I.Ids.tells (topology_in old) custom (cut_in old) old; still = record { coordinator = refl; fates = refl } }

pub shut_one-requires-clause-ready : goal.shut_one-requires-clause-ready
shut_one-requires-clause-ready g c = let old = c.args.self.now in ready_here (topology_in old) (cut_in old) c.loop-partition.self c.loop-partition.invariant.ready

pub loop-partition-preserved : goal.loop-partition-preserved
loop-partition-preserved g c =
    let old = c.args.self.now in
    let t = topology_in old in
    let cut = cut_in old in
    let mid = c.loop-partition.self in
    let new = c.shut_one.new.self in
    let kept = c.loop-partition.invariant in
    let now = c.shut_one.ensures in
    let step = shutting c.args.shut in record {
      ready = ready_there t cut mid kept.ready new now.ready;
      goes = λ custom.
          rw (map-range_with_len_more step 0 c.loop-partition.partition c.loop-partition.partition (omega arith))
          (goes-then g.I.Ids.tells t custom cut (map step (range_with_len 0 c.loop-partition.partition)) (step c.loop-partition.partition ∷ []) old mid new (kept.goes custom) (goes_there t cut mid kept.ready g.I.Ids.tells custom (step c.loop-partition.partition ∷ []) new (now.goes custom)));
      still = still_then old mid new kept.still now.still;
    }

pub returns-clause-goes : goal.returns-clause-goes
returns-clause-goes g c = λ custom.
    let old = c.args.self.now in
    let all : c.loop-partition.partition ≡ c.partitions-partition-end.result = omega (arith, c.loop-partition-test.false, c.loop-partition.auto.partition-end) in
    let count : c.loop-partition.partition ≡ (topology_in old).partitions = all ∙ c.partitions-partition-end.ensures.value ∙ ap (λ (t : Topology). t.partitions) c.requires.seated.plan in
    subst (λ n. Goes g.I.Ids.tells (topology_in old) custom (cut_in old) (map (shutting c.args.shut) (range_with_len 0 n)) old c.loop-partition.self) count (c.loop-partition.invariant.goes custom)
