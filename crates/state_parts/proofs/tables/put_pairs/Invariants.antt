use Rattle.std.proofs.Common.{◌≡◌, ℕ, List}
use Rattle.std.specs.BTreeMap.{IsOrdered}
use Rattle.std.specs.Cmp.Lexicographic.{slice_cmp}
use Rattle.std.specs.Ordering.{nat_cmp}
use Rattle.std.specs.Vec.Iter.{into_iter_items}
use Rattle.state_parts.specs.Gathered.{value_of}
use Rattle.state_parts.specs.PartTables.{put_all}
use Rattle.state_parts.proofs.tables.put_pairs.Given as goal

abbrev pub invariant-loop-pair : goal.invariant-loop-pair
invariant-loop-pair l = record {
  can_go_on : (goal.iterator-loop-pair).can_next l.pair-iterator;
  will_end : (goal.iterator-loop-pair).is_finite l.pair-iterator;
  ordered : IsOrdered (slice_cmp nat_cmp) l.values;
  put : (key : List ℕ) → put_all (value_of l.values) (into_iter_items l.pair-iterator) key ≡ put_all (value_of l.fn.values) l.fn.pairs key;
}
