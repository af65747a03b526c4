use Rattle.std.proofs.Common.{◌≡◌, ◌<◌, ◌++◌, ℕ, All, List, length}
use Rattle.std.specs.Vec.Iter.{into_iter_items}
use Rattle.tree_model.specs.storm_values.Rows.{IsRow}
use Rattle.tree_model.specs.topology_plan.declared.parts.Origin.TheVariants as origin
use Rattle.tree_model.specs.topology_plan.Wired.{width_of}
use Rattle.track_runs.specs.Steps.{counts_with, ends_with}
use Rattle.track_runs.proofs.tracking.Tracking.track_all.Given as goal

abbrev pub invariant-loop-row : goal.invariant-loop-row
invariant-loop-row g l = record {
  can_go_on : (goal.iterator-loop-row g).can_next l.row-iterator;
  will_end : (goal.iterator-loop-row g).is_finite l.row-iterator;
  few : length l.window.items < 1024;
  rows : All (IsRow (width_of l.self.plan.now origin.Spout)) l.window.items;
  left : All (IsRow (width_of l.self.plan.now origin.Spout)) (into_iter_items l.row-iterator);
  components : length l.tallies ≡ length l.fn.tallies;
  ends : ends_with l.self.plan.now (g.O.RowOp.meaning l.self.custom.now) l.ends.items (l.window.items ++ into_iter_items l.row-iterator)
      ≡ ends_with l.self.plan.now (g.O.RowOp.meaning l.self.custom.now) l.fn.ends.items l.fn.rows.items;
  counts : (state : ℕ) (key : List ℕ) → counts_with l.self.plan.now (g.O.RowOp.meaning l.self.custom.now) l.tallies (l.window.items ++ into_iter_items l.row-iterator) state key
      ≡ counts_with l.self.plan.now (g.O.RowOp.meaning l.self.custom.now) l.fn.tallies l.fn.rows.items state key;
}
