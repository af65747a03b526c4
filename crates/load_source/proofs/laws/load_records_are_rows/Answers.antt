use Rattle.load_source.proofs.Rows.{all_rows, so_many}
use Rattle.load_source.proofs.laws.load_records_are_rows.Goals as goal

pub returns-clause-rows : goal.returns-clause-rows
returns-clause-rows c = all_rows

pub returns-clause-count : goal.returns-clause-count
returns-clause-count c = so_many
