use Rattle.std.proofs.Common.{◌<◌, length, arith}
use Rattle.state_cells.specs.declared.fault.PartFault.TheVariants.{BadCell, Store}
use Rattle.state_parts.specs.Gathered.{value_of}
use Rattle.state_parts.proofs.TableLemmas.{all_read, bad_at, counts_same, counts_set, raised_set, read_set, reading_last, reading_more, same_fault, told_fault, value_none}
use Rattle.state_parts.proofs.tables.values_of.Goals as goal

pub loop-i-init : goal.loop-i-init
loop-i-init g c = record {
  ordered = c.new-values.ensures.ordered;
  reading = record { read = all_read g.C.CellStore.tells g.C.CellStore.fault_count c.args.parts.now.items; counts = counts_same g.C.CellStore.fault_count c.args.parts.now.items; told = λ maps told key. value_none c.new-values.result c.new-values.ensures.empty key };
}

pub loop-i-preserved : goal.loop-i-preserved
loop-i-preserved g c =
    let within : c.loop-i.i < length c.args.parts.now.items = omega (arith, c.len-i-end.ensures, c.args.parts.now.ok.0) in
    record {
      ordered = c.add_values.ensures.ordered;
      reading = reading_more g.C.CellStore.tells g.C.CellStore.fault_count c.args.number c.args.parts.now.items c.loop-i.parts.items c.loop-i.i (value_of c.loop-i.values) (value_of c.add_values.new.values)
          c.index_mut.result.now c.add_values.new.at within c.index_mut.ensures.value c.in-Ok.ensures.added c.add_values.ensures.read (c.in-Ok.ensures.quiet (λ is. cc)) c.loop-i.invariant.reading;
    }

pub returns-in-Err-clause-read : goal.returns-in-Err-clause-read
returns-in-Err-clause-read g c =
    let within : c.loop-i.i < length c.args.parts.now.items = omega (arith, c.len-i-end.ensures, c.args.parts.now.ok.0) in
    read_set g.C.CellStore.tells g.C.CellStore.fault_count c.args.parts.now.items c.loop-i.parts.items c.loop-i.i c.index_mut.result.now c.add_values.new.at within c.index_mut.ensures.value c.loop-i.invariant.reading.read c.add_values.ensures.read

pub returns-in-Err-clause-failed : goal.returns-in-Err-clause-failed
returns-in-Err-clause-failed g c = λ is.
    let within : c.loop-i.i < length c.args.parts.now.items = omega (arith, c.len-i-end.ensures, c.args.parts.now.ok.0) in
    raised_set g.C.CellStore.fault_count c.args.parts.now.items c.loop-i.parts.items c.loop-i.i c.index_mut.result.now c.add_values.new.at within c.index_mut.ensures.value c.loop-i.invariant.reading.counts (c.add_values.ensures.failed (same_fault c.add_values.result c.in-Err.fault Store c.in-Err.is is))

pub returns-in-Err-clause-quiet : goal.returns-in-Err-clause-quiet
returns-in-Err-clause-quiet g c = λ other.
    let within : c.loop-i.i < length c.args.parts.now.items = omega (arith, c.len-i-end.ensures, c.args.parts.now.ok.0) in
    counts_set g.C.CellStore.fault_count c.args.parts.now.items c.loop-i.parts.items c.loop-i.i c.index_mut.result.now c.add_values.new.at within c.index_mut.ensures.value c.loop-i.invariant.reading.counts
    (c.add_values.ensures.quiet (λ is. other (told_fault c.add_values.result c.in-Err.fault Store c.in-Err.is is)))

pub returns-clause-quiet : goal.returns-clause-quiet
returns-clause-quiet g c = λ other. c.loop-i.invariant.reading.counts

pub returns-in-Err-clause-bad : goal.returns-in-Err-clause-bad
returns-in-Err-clause-bad g c = λ key is.
    let within : c.loop-i.i < length c.args.parts.now.items = omega (arith, c.len-i-end.ensures, c.args.parts.now.ok.0) in
    bad_at g.C.CellStore.tells g.C.CellStore.fault_count c.args.parts.now.items c.loop-i.parts.items c.loop-i.i c.index_mut.result.now key within c.index_mut.ensures.value c.loop-i.invariant.reading.read (c.add_values.ensures.bad key (same_fault c.add_values.result c.in-Err.fault (BadCell key) c.in-Err.is is))

pub returns-clause-values : goal.returns-clause-values
returns-clause-values g c = λ maps told key.
    reading_last g.C.CellStore.tells g.C.CellStore.fault_count c.args.number c.args.parts.now.items c.loop-i.parts.items c.loop-i.i (value_of c.loop-i.values) (omega (arith, c.len-i-end.ensures, c.args.parts.now.ok.0)) c.loop-i.invariant.reading maps told key
