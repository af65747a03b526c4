use Rattle.std.proofs.Common.{sym, ◌∙◌}
use Rattle.storm_stores.proofs.TableCells.{length-cells_of}
use Rattle.storm_stores.proofs.memory_store.count_cells.Goals as goal

pub returns : goal.returns
returns c = c.len.ensures.len ∙ sym (length-cells_of c.args.cells.now.entries c.len.ensures.unique)
