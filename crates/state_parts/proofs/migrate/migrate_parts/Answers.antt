use Rattle.std.proofs.Common.{◌≡◌, ◌<◌, length, sym, ap, subst, arith, Some, Err, Ok}
use Rattle.state_cells.specs.declared.fault.PartFault.TheVariants.{BadCell, Store}
use Rattle.state_parts.specs.Migrate.{IsBrokenOff, StopsBefore}
use Rattle.state_parts.proofs.MigrateLemmas.{front_counts, front_end, kept_plans, kept_table, migrated_kept, migrating_bad, migrating_end, migrating_more, migrating_none, migrating_stop, stopped_kept}
use Rattle.state_parts.proofs.TableLemmas.{counts_set, raised_set, same_fault, told_fault}
use Rattle.state_parts.proofs.migrate.migrate_parts.Goals as goal

pub loop-i-init : goal.loop-i-init
loop-i-init g c = record { migrating = migrating_none g.C.CellStore.tells g.C.CellStore.fault_count c.args.parts.now.items }

pub loop-i-preserved : goal.loop-i-preserved
loop-i-preserved g c =
    let within : c.loop-i.i < length c.args.parts.now.items = omega (arith, c.len-i-end.ensures, c.args.parts.now.ok.0) in
    record {
      migrating = rw c.saturating_add-total.ensures (migrating_more g.C.CellStore.tells g.C.CellStore.fault_count c.loop-i.i c.loop-i.total c.in-Ok.count c.args.parts.now.items c.loop-i.parts.items c.index_mut.result.now c.migrate_part.new.at within c.index_mut.ensures.value c.in-Ok.ensures.counted c.in-Ok.ensures.done c.loop-i.invariant.migrating);
    }

pub returns-in-Err-clause-broken : goal.returns-in-Err-clause-broken
returns-in-Err-clause-broken g c =
    let within : c.loop-i.i < length c.args.parts.now.items = omega (arith, c.len-i-end.ensures, c.args.parts.now.ok.0) in
    migrating_stop g.C.CellStore.tells g.C.CellStore.fault_count (IsBrokenOff g.C.CellStore.tells g.C.CellStore.fault_count) c.loop-i.i c.loop-i.total c.args.parts.now.items c.loop-i.parts.items c.index_mut.result.now c.migrate_part.new.at within c.index_mut.ensures.value c.migrate_part.ensures.reached c.loop-i.invariant.migrating

pub returns-in-Err-clause-stopped : goal.returns-in-Err-clause-stopped
returns-in-Err-clause-stopped g c = λ key is.
    let within : c.loop-i.i < length c.args.parts.now.items = omega (arith, c.len-i-end.ensures, c.args.parts.now.ok.0) in
    migrating_stop g.C.CellStore.tells g.C.CellStore.fault_count (StopsBefore g.C.CellStore.tells key) c.loop-i.i c.loop-i.total c.args.parts.now.items c.loop-i.parts.items c.index_mut.result.now c.migrate_part.new.at within c.index_mut.ensures.value
    (c.migrate_part.ensures.stopped key (same_fault c.migrate_part.result c.in-Err.fault (BadCell key) c.in-Err.is is)) c.loop-i.invariant.migrating

pub returns-in-Err-clause-kept : goal.returns-in-Err-clause-kept
returns-in-Err-clause-kept g c =
    let within : c.loop-i.i < length c.args.parts.now.items = omega (arith, c.len-i-end.ensures, c.args.parts.now.ok.0) in
    let stop = migrating_stop g.C.CellStore.tells g.C.CellStore.fault_count (IsBrokenOff g.C.CellStore.tells g.C.CellStore.fault_count) c.loop-i.i c.loop-i.total c.args.parts.now.items c.loop-i.parts.items c.index_mut.result.now c.migrate_part.new.at within c.index_mut.ensures.value c.migrate_part.ensures.reached c.loop-i.invariant.migrating in
    stopped_kept g.C.CellStore.tells g.C.CellStore.fault_count g.met.C.CellStore.one_map c.args.parts.now.items _ stop

pub returns-in-Err-clause-plans : goal.returns-in-Err-clause-plans
returns-in-Err-clause-plans g c =
    let within : c.loop-i.i < length c.args.parts.now.items = omega (arith, c.len-i-end.ensures, c.args.parts.now.ok.0) in
    let stop = migrating_stop g.C.CellStore.tells g.C.CellStore.fault_count (IsBrokenOff g.C.CellStore.tells g.C.CellStore.fault_count) c.loop-i.i c.loop-i.total c.args.parts.now.items c.loop-i.parts.items c.index_mut.result.now c.migrate_part.new.at within c.index_mut.ensures.value c.migrate_part.ensures.reached c.loop-i.invariant.migrating in
    let kept = stopped_kept g.C.CellStore.tells g.C.CellStore.fault_count g.met.C.CellStore.one_map c.args.parts.now.items _ stop in
    kept_plans g.C.CellStore.tells g.C.CellStore.fault_count c.args.parts.now.items _ kept

pub returns-in-Err-clause-tables : goal.returns-in-Err-clause-tables
returns-in-Err-clause-tables g c = λ state table is.
    let within : c.loop-i.i < length c.args.parts.now.items = omega (arith, c.len-i-end.ensures, c.args.parts.now.ok.0) in
    let stop = migrating_stop g.C.CellStore.tells g.C.CellStore.fault_count (IsBrokenOff g.C.CellStore.tells g.C.CellStore.fault_count) c.loop-i.i c.loop-i.total c.args.parts.now.items c.loop-i.parts.items c.index_mut.result.now c.migrate_part.new.at within c.index_mut.ensures.value c.migrate_part.ensures.reached c.loop-i.invariant.migrating in
    let kept = stopped_kept g.C.CellStore.tells g.C.CellStore.fault_count g.met.C.CellStore.one_map c.args.parts.now.items _ stop in
    kept_table g.C.CellStore.tells g.C.CellStore.fault_count c.args.parts.now.items _ state table kept is

pub returns-in-Err-clause-failed : goal.returns-in-Err-clause-failed
returns-in-Err-clause-failed g c = λ is.
    let within : c.loop-i.i < length c.args.parts.now.items = omega (arith, c.len-i-end.ensures, c.args.parts.now.ok.0) in
    raised_set g.C.CellStore.fault_count c.args.parts.now.items c.loop-i.parts.items c.loop-i.i c.index_mut.result.now c.migrate_part.new.at within c.index_mut.ensures.value
    (front_counts g.C.CellStore.tells g.C.CellStore.fault_count c.loop-i.i c.args.parts.now.items c.loop-i.parts.items c.loop-i.invariant.migrating.front) (c.migrate_part.ensures.failed (same_fault c.migrate_part.result c.in-Err.fault Store c.in-Err.is is))

pub returns-in-Err-clause-quiet : goal.returns-in-Err-clause-quiet
returns-in-Err-clause-quiet g c = λ other.
    let within : c.loop-i.i < length c.args.parts.now.items = omega (arith, c.len-i-end.ensures, c.args.parts.now.ok.0) in
    counts_set g.C.CellStore.fault_count c.args.parts.now.items c.loop-i.parts.items c.loop-i.i c.index_mut.result.now c.migrate_part.new.at within c.index_mut.ensures.value
    (front_counts g.C.CellStore.tells g.C.CellStore.fault_count c.loop-i.i c.args.parts.now.items c.loop-i.parts.items c.loop-i.invariant.migrating.front)
    (c.migrate_part.ensures.quiet (λ is. other (told_fault c.migrate_part.result c.in-Err.fault Store c.in-Err.is is)))

pub returns-in-Err-clause-bad : goal.returns-in-Err-clause-bad
returns-in-Err-clause-bad g c = λ key is.
    let within : c.loop-i.i < length c.args.parts.now.items = omega (arith, c.len-i-end.ensures, c.args.parts.now.ok.0) in
    migrating_bad g.C.CellStore.tells g.C.CellStore.fault_count c.loop-i.i c.loop-i.total c.args.parts.now.items c.loop-i.parts.items c.index_mut.result.now key within c.index_mut.ensures.value c.loop-i.invariant.migrating
    (c.migrate_part.ensures.bad key (same_fault c.migrate_part.result c.in-Err.fault (BadCell key) c.in-Err.is is))

pub returns-clause-counted : goal.returns-clause-counted
returns-clause-counted g c = λ maps told.
    migrating_end g.C.CellStore.tells g.C.CellStore.fault_count c.loop-i.i c.loop-i.total c.args.parts.now.items c.loop-i.parts.items maps (omega (arith, c.len-i-end.ensures, c.args.parts.now.ok.0)) told c.loop-i.invariant.migrating

pub returns-clause-done : goal.returns-clause-done
returns-clause-done g c = front_end g.C.CellStore.tells g.C.CellStore.fault_count c.loop-i.i c.args.parts.now.items c.loop-i.parts.items (omega (arith, c.len-i-end.ensures, c.args.parts.now.ok.0)) c.loop-i.invariant.migrating.front

pub returns-clause-kept : goal.returns-clause-kept
returns-clause-kept g c = migrated_kept g.C.CellStore.tells g.C.CellStore.fault_count c.args.parts.now.items c.loop-i.parts.items (front_end g.C.CellStore.tells g.C.CellStore.fault_count c.loop-i.i c.args.parts.now.items c.loop-i.parts.items (omega (arith, c.len-i-end.ensures, c.args.parts.now.ok.0)) c.loop-i.invariant.migrating.front)

pub returns-clause-plans : goal.returns-clause-plans
returns-clause-plans g c = kept_plans g.C.CellStore.tells g.C.CellStore.fault_count c.args.parts.now.items c.loop-i.parts.items (migrated_kept g.C.CellStore.tells g.C.CellStore.fault_count c.args.parts.now.items c.loop-i.parts.items (front_end g.C.CellStore.tells g.C.CellStore.fault_count c.loop-i.i c.args.parts.now.items c.loop-i.parts.items (omega (arith, c.len-i-end.ensures, c.args.parts.now.ok.0)) c.loop-i.invariant.migrating.front))

pub returns-clause-tables : goal.returns-clause-tables
returns-clause-tables g c = λ state table is. kept_table g.C.CellStore.tells g.C.CellStore.fault_count c.args.parts.now.items c.loop-i.parts.items state table (migrated_kept g.C.CellStore.tells g.C.CellStore.fault_count c.args.parts.now.items c.loop-i.parts.items (front_end g.C.CellStore.tells g.C.CellStore.fault_count c.loop-i.i c.args.parts.now.items c.loop-i.parts.items (omega (arith, c.len-i-end.ensures, c.args.parts.now.ok.0)) c.loop-i.invariant.migrating.front)) is

pub returns-clause-quiet : goal.returns-clause-quiet
returns-clause-quiet g c = λ other. front_counts g.C.CellStore.tells g.C.CellStore.fault_count c.loop-i.i c.args.parts.now.items c.loop-i.parts.items c.loop-i.invariant.migrating.front
