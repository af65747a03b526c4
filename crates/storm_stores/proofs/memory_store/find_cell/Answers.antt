use Rattle.storm_stores.proofs.TableCells.{cell_at-cells_of}
use Rattle.storm_stores.proofs.memory_store.find_cell.Goals as goal

pub returns-in_ok-copy-in-Some : goal.returns-in_ok-copy-in-Some
returns-in_ok-copy-in-Some c = rw (cell_at-cells_of c.args.cells.now.entries c.args.key.now, c.in_ok-copy-in-Some.ensures) c.in-Some.ensures.value

pub returns-in-None : goal.returns-in-None
returns-in-None c = rw (cell_at-cells_of c.args.cells.now.entries c.args.key.now) c.in-None.ensures.value
