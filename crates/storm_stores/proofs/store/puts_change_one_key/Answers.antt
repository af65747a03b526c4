use Rattle.storm_stores.proofs.CellMapLemmas.{cell_at-with_cell, cell_at-with_cell_other}
use Rattle.storm_stores.proofs.store.puts_change_one_key.Goals as goal

pub returns-clause-changed : goal.returns-clause-changed
returns-clause-changed c = cell_at-with_cell

pub returns-clause-others : goal.returns-clause-others
returns-clause-others c = cell_at-with_cell_other
