use Rattle.std.proofs.Common.{arith}
use Rattle.topology_graph.proofs.NumberLemmas.{ended_sum_start}
use Rattle.topology_graph.proofs.numbers.total.Goals as goal

pub loop-number-init : goal.loop-number-init
loop-number-init c = (omega arith, ended_sum_start c.args.numbers.now)
