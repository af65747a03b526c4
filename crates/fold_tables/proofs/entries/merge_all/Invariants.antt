use Rattle.std.proofs.Common.{◌≡◌, ℕ, List}
use Rattle.std.specs.List.{IsDistinct}
use Rattle.std.specs.Map.{keys_of, lookup}
use Rattle.std.specs.Str.{bytes_eq}
use Rattle.tree_model.specs.Inside.{entries_of}
use Rattle.tree_model.specs.Tables.{value_at}
use Rattle.fold_tables.specs.Merging.{joined, merged}
use Rattle.fold_tables.proofs.entries.merge_all.Given as goal

abbrev pub invariant-loop-key : goal.invariant-loop-key
invariant-loop-key g l = record {
  distinct : IsDistinct bytes_eq (keys_of l.key-iterator);
  left : (at : List ℕ) → merged (joined (g.O.RowOp.meaning l.custom) l.by) (value_at (entries_of l.entries) at) (lookup (bytes_eq at) l.key-iterator)
      ≡ merged (joined (g.O.RowOp.meaning l.custom) l.by) (value_at (entries_of l.fn.entries) at) (lookup (bytes_eq at) l.fn.others.entries);
}
