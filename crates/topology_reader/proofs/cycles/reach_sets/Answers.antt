use Rattle.std.proofs.Common.{◌<◌, length, map, slice_index, ap, ◌∙◌, arith}
use Rattle.topology_reader.proofs.Common.{led}
use Rattle.topology_reader.proofs.ReachedSets.{reached-more}
use Rattle.topology_reader.proofs.cycles.reach_sets.Goals as goal

pub loop-n-preserved : goal.loop-n-preserved
loop-n-preserved c =
    let p = c.args.sources.now in
    let within : c.loop-n.n < length p.bolts = omega (arith, c.in_ok-sets.ensures.counted, c.in_ok-sets.sets.ok.0) in
    reached-more c.loop-n.n p c.loop-n.sets.items _ within c.loop-n.invariant
    (c.in_ok-sets-2.ensures ∙ ap (λ xs. map (led c.loop-n.n (slice_index xs c.loop-n.n)) xs) c.as_slice.ensures.value)
