use Rattle.std.proofs.Common.{arith}
use Rattle.topology_graph.proofs.NumberLemmas.{tuples_seen, ended_sum_start}
use Rattle.topology_graph.proofs.numbers.TuplesRuleAlongU64.over.Goals as goal

pub loop-feed-init : goal.loop-feed-init
loop-feed-init c = (omega arith, ended_sum_start (tuples_seen c.args.known.now c.args.feeds.now))
