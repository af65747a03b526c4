use Rattle.std.proofs.Common.{◌<◌, length, sym, ◌∙◌, arith}
use Rattle.topology_plan.specs.declared.parts.Origin.TheVariants as origin
use Rattle.topology_graph.proofs.ValueLemmas.{feeds_are, next_at, less_deep, known_more, all_found, found_right, found_set}
use Rattle.topology_graph.proofs.values.+find.Goals as goal

pub find-requires : goal.find-requires
find-requires g t c κs within =
    let there : c.in-Component.c < length c.args.graph.now = rw c.in-Component.is at c.requires.there in
    let feeds = feeds_are c.args.graph.now c.in-Component.c c.at.result.now c.as_slice-feed-items.result.now c.at.ensures c.as_slice-feed-items.ensures in
    let next = next_at c.args.graph.now c.in-Component.c c.loop-feed.feed-index c.as_slice-feed-items.result.now (record { from = origin.Spout; copies = 0 }) feeds c.loop-feed-test.true in
    let less = less_deep c.args.graph.now c.in-Component.c c.loop-feed.feed-index _ c.requires.settled there next in (
      rw (← c.decreases, c.in-Component.is) less,
      (within.0, (within.1, (c.requires.small, (c.requires.closed, (c.requires.settled, (c.requires.closed c.in-Component.c c.loop-feed.feed-index _ next, c.loop-feed.invariant.right)))))),
    )

pub loop-feed-preserved : goal.loop-feed-preserved
loop-feed-preserved g t c =
    let found = c.in_ok-find.ensures in
    record {
      right = found.right;
      kept = λ other was. found.kept other (c.loop-feed.invariant.kept other was);
      found =
          known_more c.loop-feed.known c.find.new.known c.as_slice-feed-items.result.now c.loop-feed.feed-index (record { from = origin.Spout; copies = 0 }) c.loop-feed-test.true c.loop-feed.invariant.found found.kept found.known;
    }

pub returns : goal.returns
returns g t c =
    let graph = c.args.graph.now in
    let rule = g.R.Along.rule c.args.rule.now in
    let n = c.in-Component.c in
    let there : n < length graph = rw c.in-Component.is at c.requires.there in
    let listed = feeds_are graph n c.at.result.now c.as_slice-feed-items.result.now c.at.ensures c.as_slice-feed-items.ensures in
    let feeds = feeds_are graph n c.at-2.result.now c.as_slice.result.now c.at-2.ensures c.as_slice.ensures in
    let all = all_found c.loop-feed.known c.as_slice-feed-items.result.now c.as_slice.result.now c.loop-feed.feed-index c.loop-feed-test.false (listed ∙ sym feeds) c.loop-feed.invariant.found in
    let value = found_right rule graph c.requires.closed c.requires.settled c.loop-feed.known n c.as_slice.result.now c.in_ok-value.value c.loop-feed.invariant.right there feeds all c.in_ok-value.ensures in
    rw c.in-Component.is
    (found_set rule graph c.requires.closed c.requires.settled c.args.known.now c.loop-feed.known n c.in_ok-value.value c.loop-feed.invariant.right c.loop-feed.invariant.kept (omega (arith, there, c.loop-feed.invariant.right.count)) value)
