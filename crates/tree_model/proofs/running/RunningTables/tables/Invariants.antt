use Rattle.std.proofs.Common.{List, length}
use Rattle.std.specs.List.{AllZip, filter_map, range_with_len}
use Rattle.bolt_ops.specs.RowOp.{Custom}
use Rattle.tree_model.specs.declared.write.Write.{Write}
use Rattle.tree_model.specs.Tables.{IsTableOf, AreRunningTables, state_at}
use Rattle.tree_model.proofs.running.RunningTables.tables.Given as goal

abbrev pub invariant-loop-number : goal.invariant-loop-number
invariant-loop-number l = (custom : Custom) (writes : List Write) → AreRunningTables l.plan custom writes l.fn.self → AllZip (IsTableOf writes) (filter_map (state_at l.plan custom) (range_with_len 0 (length l.yielded))) l.tables
