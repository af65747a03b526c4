-- What a report says of tables.
use Rattle.std.specs.Prelude.{ℕ, List, map}
use Rattle.std.specs.List.{flat_map}
use Rattle.tree_model.specs.declared.write.Pair.{Pair}
use Rattle.tree_model.specs.declared.write.Table.{Table}
use Rattle.report_grammar.specs.Report.{CellText}

abbrev pub cell_of : List ℕ → Pair → CellText
cell_of name pair = record { state = name; key = pair.key; value = pair.value }

-- the cells of a table, and of all tables
abbrev pub table_cells : Table → List CellText
table_cells table = map (cell_of table.name) table.pairs

abbrev pub cells_of : List Table → List CellText
cells_of tables = flat_map table_cells tables
