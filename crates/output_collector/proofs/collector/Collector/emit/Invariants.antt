use Rattle.std.proofs.Common.{◌≡◌, []}
use Rattle.std.specs.Vec.Iter.{into_iter_items}
use Rattle.tuple_account.specs.tree_model.Trees.{kids}
use Rattle.output_collector.specs.Outlets.{IsSameSource, after_rows, tasks_for}
use Rattle.output_collector.specs.Sending.{BeginsWith, sent}
use Rattle.output_collector.proofs.Sending.{Goes}
use Rattle.output_collector.proofs.collector.Collector.emit.Given as goal

abbrev pub invariant-loop-row : goal.invariant-loop-row
invariant-loop-row g l = record {
  can_go_on : (goal.iterator-loop-row g).can_next l.row-iterator;
  will_end : (goal.iterator-loop-row g).is_finite l.row-iterator;
  goes : Goes g.I.Ids.tells l.below.root l.below.path.now (kids l.fn.self.outlet.topology l.fn.self.outlet.from l.fn.rows) (tasks_for l.fn.self.outlet.lanes l.fn.rows) (sent l.fn.self [] l.fn.into)
      (kids l.fn.self.outlet.topology l.fn.self.outlet.from (into_iter_items l.row-iterator)) (tasks_for l.self.outlet.lanes (into_iter_items l.row-iterator)) (sent l.self l.edges l.into);
  outlet : after_rows (into_iter_items l.row-iterator) l.self.outlet ≡ after_rows l.fn.rows l.fn.self.outlet;
  same_source : IsSameSource l.self.outlet l.fn.self.outlet;
  source : l.self.source ≡ l.fn.self.source;
  kept : BeginsWith l.into l.fn.into;
}
