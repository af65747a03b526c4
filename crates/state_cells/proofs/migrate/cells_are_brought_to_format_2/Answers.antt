use Rattle.state_cells.proofs.MigrateLemmas.{migrated_bytes, migrated_kept, migrated_new}
use Rattle.state_cells.proofs.migrate.cells_are_brought_to_format_2.Goals as goal

pub returns-clause-same : goal.returns-clause-same
returns-clause-same c = migrated_bytes

pub returns-clause-none_old : goal.returns-clause-none_old
returns-clause-none_old c = migrated_new

pub returns-clause-kept : goal.returns-clause-kept
returns-clause-kept c = migrated_kept
