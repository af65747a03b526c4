-- What the amounts of a key come to, for all folds at once. This project's own.
use Rattle.std.specs.Prelude.{ℕ, ℤ, pos, ◌+ℤ◌, List, [], map, Option, None, Some, slice_index_or}
use Rattle.std.specs.Int.{int_max, saturate_signed, w128}
use Rattle.tree_model.specs.topology_plan.declared.parts.Fold.{Fold}
use Rattle.tree_model.specs.topology_plan.declared.parts.Fold.TheVariants.{Count, Sum, Last, Max}
use Rattle.tree_model.specs.topology_plan.declared.parts.Fold.TheVariants as fold_of
use Rattle.tree_model.specs.bolt_ops.RowOp.{Custom, custom_of}
use Rattle.tree_model.specs.Tables.{Folding, folded}
use Rattle.state_reader.specs.declared.totals.Keys.{Keys}
use Rattle.state_reader.specs.declared.totals.Total.{Total}

-- An operation of rows alone: a custom fold takes the last amount. No topology file has a custom
-- fold yet.
abbrev pub rows_alone : Custom
rows_alone = custom_of (λ row. [])

-- what a fold does with such an operation
abbrev pub folding : Fold → Folding
folding by = folded rows_alone by

-- a key's total with one more amount
abbrev pub grown : Option Total → ℤ → Total
grown None amount = record {
  sum = saturate_signed w128 (pos 0 +ℤ amount);
  last = amount;
  max = amount;
}
grown (Some old) amount = record {
  sum = saturate_signed w128 (old.sum +ℤ amount);
  last = amount;
  max = int_max old.max amount;
}

-- the value by a fold
abbrev pub total_by : Fold → Total → ℤ
total_by Count total = total.sum
total_by Sum total = total.sum
total_by Last total = total.last
total_by Max total = total.max
total_by fold_of.Custom total = total.last

-- the entries of a state's keys, none where there is no such state
abbrev pub entries_at : List Keys → ℕ → List (List ℕ × Total)
entries_at states number =
    slice_index_or (map (λ (keys : Keys). keys.totals.entries) states) number []
