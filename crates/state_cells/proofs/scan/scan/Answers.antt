use Rattle.std.proofs.Common.{◌<◌, length, ◌∙◌, arith}
use Rattle.state_cells.proofs.KnownLemmas.{known_of_scan}
use Rattle.state_cells.proofs.ScanLemmas.{Scanned-more}
use Rattle.tree_model.specs.topology_plan.declared.parts.Kind.TheVariants.{Opaque}
use Rattle.state_cells.proofs.scan.scan.Goals as goal

pub loop-i-preserved : goal.loop-i-preserved
loop-i-preserved g c = record {
  txid = c.scan_key.ensures.txid ∙ c.loop-i.invariant.txid;
  scanned = λ cells told.
      let x = c.loop-i.invariant.scanned cells told in
      let within : c.loop-i.i < length cells = omega (arith, x.1) in
      (c.scan_key.ensures.same cells x.0, x.1, rw c.scan_key.ensures.txid (Scanned-more Opaque c.loop-i.found.txid cells c.loop-i.i _ _ _ _ x.2 (c.in-Ok.ensures.seen cells x.0 within)));
  told_before = λ cells told. c.loop-i.invariant.told_before cells (c.scan_key.ensures.told_before cells told);
  quiet = c.in-Ok.ensures.quiet (λ is. cc) ∙ c.loop-i.invariant.quiet;
}

pub returns-clause-knows : goal.returns-clause-knows
returns-clause-knows g c = λ cells told.
    let x = c.loop-i.invariant.scanned cells told in
    known_of_scan c.loop-i.found.txid cells c.loop-i.i _ _ (omega (arith, x.1)) (g.met.C.CellStore.in_order c.args.store.now cells told) x.2
