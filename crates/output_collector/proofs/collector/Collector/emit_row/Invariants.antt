use Rattle.std.proofs.Common.{◌≡◌}
use Rattle.output_collector.specs.Sending.{BeginsWith, sent}
use Rattle.output_collector.proofs.Rows.{with_routed, nodes_left, tasks_left}
use Rattle.output_collector.proofs.Sending.{Goes}
use Rattle.output_collector.proofs.collector.Collector.emit_row.Given as goal

abbrev pub invariant-loop-sub : goal.invariant-loop-sub
invariant-loop-sub g l = record {
  goes : Goes g.I.Ids.tells l.below.root l.below.path.now (nodes_left l.fn.self.outlet l.fn.row 0) (tasks_left l.fn.self.outlet l.fn.row 0) (sent l.fn.self l.fn.edges l.fn.into)
      (nodes_left l.fn.self.outlet l.fn.row l.sub) (tasks_left l.fn.self.outlet l.fn.row l.sub) (sent l.self l.edges l.into);
  outlet : l.self.outlet ≡ with_routed l.sub l.fn.self.outlet;
  source : l.self.source ≡ l.fn.self.source;
  kept : BeginsWith l.into l.fn.into;
}
