use Rattle.state_cells.specs.declared.fault.PartFault.TheVariants.{BadCell, Store}
use Rattle.state_parts.proofs.TableLemmas.{all_read, all_read_on, bad_before, counts_on, counts_same, raised_later, read_plans, same_fault, tables_more, told_fault}
use Rattle.state_parts.proofs.tables.tables_of.Goals as goal

pub loop-number-init : goal.loop-number-init
loop-number-init g c = record { read = all_read g.C.CellStore.tells g.C.CellStore.fault_count c.args.parts.now.items; counts = counts_same g.C.CellStore.fault_count c.args.parts.now.items; tables = λ custom. rw c.new-tables.ensures tt }

pub loop-number-preserved : goal.loop-number-preserved
loop-number-preserved g c = record {
  read = all_read_on g.C.CellStore.tells g.C.CellStore.fault_count c.args.parts.now.items c.loop-number.parts.items c.add_table.new.parts.items c.loop-number.invariant.read c.add_table.ensures.read;
  counts = counts_on g.C.CellStore.fault_count c.args.parts.now.items c.loop-number.parts.items c.add_table.new.parts.items c.loop-number.invariant.counts (c.in-Ok.ensures.quiet (λ is. cc));
  tables = λ custom. tables_more g.C.CellStore.tells g.C.CellStore.fault_count c.args.plan.now custom c.args.parts.now.items c.loop-number.parts.items c.loop-number.number c.component.result.now c.loop-number.tables c.add_table.new.tables
      c.component.ensures.value c.loop-number.invariant.read (c.in-Ok.ensures.added custom) (c.loop-number.invariant.tables custom);
}

pub returns-in-Err-clause-read : goal.returns-in-Err-clause-read
returns-in-Err-clause-read g c = all_read_on g.C.CellStore.tells g.C.CellStore.fault_count c.args.parts.now.items c.loop-number.parts.items c.add_table.new.parts.items c.loop-number.invariant.read c.add_table.ensures.read

pub returns-in-Err-clause-plans : goal.returns-in-Err-clause-plans
returns-in-Err-clause-plans g c = read_plans g.C.CellStore.tells g.C.CellStore.fault_count c.args.parts.now.items c.add_table.new.parts.items
    (all_read_on g.C.CellStore.tells g.C.CellStore.fault_count c.args.parts.now.items c.loop-number.parts.items c.add_table.new.parts.items c.loop-number.invariant.read c.add_table.ensures.read)

pub returns-in-Err-clause-failed : goal.returns-in-Err-clause-failed
returns-in-Err-clause-failed g c = λ is. raised_later g.C.CellStore.fault_count c.args.parts.now.items c.loop-number.parts.items c.add_table.new.parts.items c.loop-number.invariant.counts (c.add_table.ensures.failed (same_fault c.add_table.result c.in-Err.fault Store c.in-Err.is is))

pub returns-in-Err-clause-quiet : goal.returns-in-Err-clause-quiet
returns-in-Err-clause-quiet g c = λ other. counts_on g.C.CellStore.fault_count c.args.parts.now.items c.loop-number.parts.items c.add_table.new.parts.items c.loop-number.invariant.counts
    (c.add_table.ensures.quiet (λ is. other (told_fault c.add_table.result c.in-Err.fault Store c.in-Err.is is)))

pub returns-clause-quiet : goal.returns-clause-quiet
returns-clause-quiet g c = λ other. c.loop-number.invariant.counts

pub returns-clause-plans : goal.returns-clause-plans
returns-clause-plans g c = read_plans g.C.CellStore.tells g.C.CellStore.fault_count c.args.parts.now.items c.loop-number.parts.items c.loop-number.invariant.read

pub returns-in-Err-clause-bad : goal.returns-in-Err-clause-bad
returns-in-Err-clause-bad g c = λ key is. bad_before g.C.CellStore.tells g.C.CellStore.fault_count c.args.parts.now.items c.loop-number.parts.items key c.loop-number.invariant.read (c.add_table.ensures.bad key (same_fault c.add_table.result c.in-Err.fault (BadCell key) c.in-Err.is is))
