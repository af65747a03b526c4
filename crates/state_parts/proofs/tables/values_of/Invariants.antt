use Rattle.std.specs.BTreeMap.{IsOrdered}
use Rattle.std.specs.Cmp.Lexicographic.{slice_cmp}
use Rattle.std.specs.Ordering.{nat_cmp}
use Rattle.state_parts.specs.Gathered.{value_of}
use Rattle.state_parts.proofs.TableLemmas.{Reading}
use Rattle.state_parts.proofs.tables.values_of.Given as goal

abbrev pub invariant-loop-i : goal.invariant-loop-i
invariant-loop-i g l = record {
  ordered : IsOrdered (slice_cmp nat_cmp) l.values;
  reading : Reading g.C.CellStore.tells g.C.CellStore.fault_count l.number l.fn.parts.items l.parts.items l.i (value_of l.values);
}
