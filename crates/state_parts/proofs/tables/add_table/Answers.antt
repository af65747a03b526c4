use Rattle.state_parts.proofs.TableLemmas.{all_read, counts_same}
use Rattle.state_parts.proofs.tables.add_table.Goals as goal

pub returns-in-Bolt-clause-read : goal.returns-in-Bolt-clause-read
returns-in-Bolt-clause-read g c = all_read g.C.CellStore.tells g.C.CellStore.fault_count c.args.parts.now.items

pub returns-in-Bolt-clause-quiet : goal.returns-in-Bolt-clause-quiet
returns-in-Bolt-clause-quiet g c = λ other. counts_same g.C.CellStore.fault_count c.args.parts.now.items
