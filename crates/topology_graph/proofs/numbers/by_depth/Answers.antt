use Rattle.std.proofs.Common.{refl, arith}
use Rattle.std.proofs.lemmas.Grind.{common_steps}
use Rattle.topology_graph.proofs.NumberLemmas.{at_depths_more, by_depth-numbers}
use Rattle.topology_graph.proofs.numbers.by_depth.Goals as goal

pub loop-below-preserved : goal.loop-below-preserved
loop-below-preserved c =
    let e = at_depths_more c.in_ok-depths.depths.items c.loop-below.below in
    let same = c.deref.ensures.value in
    let added = c.in_ok-add_depth.ensures in
    rw (e, added, same, c.loop-below.invariant) refl

pub returns : goal.returns
returns c = let e = by_depth-numbers c.args.graph.now c.in_ok-depths.depths.items c.in_ok-depths.ensures in grind (arith, common_steps)
