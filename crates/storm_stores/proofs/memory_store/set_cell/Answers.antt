use Rattle.indexmap.proofs.CallerLemmas.{keys-with_value_at}
use Rattle.indexmap.specs.IndexMap.{with_value_at}
use Rattle.storm_stores.proofs.TableCells.{cells_of-at, keys_of-cells_of}
use Rattle.storm_stores.proofs.memory_store.set_cell.Goals as goal

pub returns-clause-cells : goal.returns-clause-cells
returns-clause-cells c = cells_of-at c.args.cells.now c.args.at c.args.key.now c.requires.0 c.args.cell c.get_index_mut.ensures.unique c.requires.1

pub returns-clause-keys : goal.returns-clause-keys
returns-clause-keys c = keys_of-cells_of c.args.cells.now.entries (with_value_at c.args.cells.now c.args.at c.args.cell).entries (keys-with_value_at c.args.cells.now c.args.at c.args.cell)
