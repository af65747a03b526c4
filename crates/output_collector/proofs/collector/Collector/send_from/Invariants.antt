use Rattle.std.proofs.Common.{◌≡◌, ◌-◌}
use Rattle.std.specs.List.{range_with_len}
use Rattle.output_collector.specs.Sending.{BeginsWith, Sends, nodes_at, sent}
use Rattle.output_collector.proofs.collector.Collector.send_from.Given as goal

abbrev pub invariant-loop-task : goal.invariant-loop-task
invariant-loop-task g l = record {
  sends : Sends g.I.Ids.tells l.below.root l.below.path.now (nodes_at l.fn.first.component l.row (range_with_len l.fn.first.task (l.task - l.fn.first.task))) (range_with_len l.fn.first.task (l.task - l.fn.first.task))
      (sent l.fn.self l.fn.edges l.fn.into) (sent l.self l.edges l.into);
  outlet : l.self.outlet ≡ l.fn.self.outlet;
  source : l.self.source ≡ l.fn.self.source;
  kept : BeginsWith l.into l.fn.into;
}
