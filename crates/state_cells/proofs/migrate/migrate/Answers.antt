use Rattle.std.proofs.Common.{◌≡◌, ◌<◌, ◌+◌, ◌∙◌, sym, ap, length, take, rules, arith}
use Rattle.std.specs.Prelude.{IsErrOf}
use Rattle.state_cells.specs.declared.fault.PartFault.TheVariants.{BadCell}
use Rattle.state_cells.specs.Migrate.{first_migrated, old_count}
use Rattle.state_cells.proofs.MigrateLemmas.{Migrates-bad, Migrates-before, Migrates-more, Migrates-some, from_bool-le, length-first_migrated}
use Rattle.state_cells.proofs.migrate.migrate.Goals as goal

pub returns-in-Err-clause-reached : goal.returns-in-Err-clause-reached
returns-in-Err-clause-reached g c = λ cells told.
    let x = c.loop-i.invariant.done cells told in
    Migrates-some g.C.CellStore.tells c.args.kind c.loop-i.i cells c.loop-i.store c.migrate_key.new.store (g.met.C.CellStore.in_order c.args.store.now cells told) x.1 (c.in-Err.ensures.err (first_migrated c.loop-i.i cells) x.1.told)

pub returns-in-Err-clause-stopped : goal.returns-in-Err-clause-stopped
returns-in-Err-clause-stopped g c = λ k is cells told.
    let x = c.loop-i.invariant.done cells told in
    let same : IsErrOf c.migrate_key.result (BadCell k) = search rules in
    let bad = c.migrate_key.ensures.bad k same (first_migrated c.loop-i.i cells) x.1.told in
    Migrates-before g.C.CellStore.tells c.args.kind c.loop-i.i k cells c.loop-i.store c.migrate_key.new.store x.1 bad.0 bad.1

pub returns-in-Err-clause-bad : goal.returns-in-Err-clause-bad
returns-in-Err-clause-bad g c = λ k is cells told.
    let x = c.loop-i.invariant.done cells told in
    let same : IsErrOf c.migrate_key.result (BadCell k) = search rules in
    let bad = c.migrate_key.ensures.bad k same (first_migrated c.loop-i.i cells) x.1.told in
    Migrates-bad g.C.CellStore.tells c.args.kind c.loop-i.i k cells c.loop-i.store x.1 bad.0

pub loop-i-preserved : goal.loop-i-preserved
loop-i-preserved g c = record {
  done = λ cells told.
      let x = c.loop-i.invariant.done cells told in
      let within : c.loop-i.i < length (first_migrated c.loop-i.i cells) = omega (arith, x.0, c.loop-i-test.true, length-first_migrated c.loop-i.i cells) in
      let at = c.in-Ok.ensures.ok (first_migrated c.loop-i.i cells) x.1.told within in
      let more = Migrates-more g.C.CellStore.tells c.args.kind c.loop-i.i c.in-Ok.was_old cells c.loop-i.store c.migrate_key.new.store (g.met.C.CellStore.in_order c.args.store.now cells told) x.1 at in
      (x.0, more.0, ap (λ n. n + c.from-migrated.result) x.2 ∙ ap (λ n. old_count (take c.loop-i.i cells) + n) c.from-migrated.ensures ∙ sym more.1);
  told_before = λ cells told.
      let x = c.migrate_key.ensures.told_before cells told in
      c.loop-i.invariant.told_before x.0 x.1;
  quiet = c.in-Ok.ensures.quiet (λ is. cc) ∙ c.loop-i.invariant.quiet;
  few = omega (arith, c.loop-i.invariant.few, c.from-migrated.ensures, from_bool-le c.in-Ok.was_old);
}
