use Rattle.std.proofs.Common.{◌≡◌, ◌+◌, ◌++◌, drop, length}
use Rattle.std.specs.Vec.Iter.{into_iter_items}
use Rattle.track_runs.specs.Steps.{open_rows}
use Rattle.track_runs.proofs.ends.open_rows.Given as goal

abbrev pub invariant-loop-row : goal.invariant-loop-row
invariant-loop-row l = record {
  can_go_on : (goal.iterator-loop-row).can_next l.row-iterator;
  will_end : (goal.iterator-loop-row).is_finite l.row-iterator;
  count : l.place + length (into_iter_items l.row-iterator) ≡ length l.acked;
  rest : l.left.items ++ open_rows (into_iter_items l.row-iterator) (drop l.place l.acked) ≡ open_rows l.fn.rows.items l.acked;
}
