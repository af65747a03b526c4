use Rattle.std.proofs.Common.{◌<◌, length, ◌∙◌, arith}
use Rattle.state_cells.proofs.RowLemmas.{Tabled-end, Tabled-more}
use Rattle.state_cells.proofs.table.table.Goals as goal

pub loop-i-preserved : goal.loop-i-preserved
loop-i-preserved g c = record {
  scanned = λ cells told.
      let x = c.loop-i.invariant.scanned cells told in
      let within : c.loop-i.i < length cells = omega (arith, x.1) in
      (c.read_key.ensures.same cells x.0, x.1, Tabled-more c.args.kind cells c.loop-i.i _ _ x.2 (c.in-Ok.ensures.reads cells x.0 within));
  told_before = λ cells told. c.loop-i.invariant.told_before cells (c.read_key.ensures.told_before cells told);
  quiet = c.in-Ok.ensures.quiet (λ is. cc) ∙ c.loop-i.invariant.quiet;
}

pub returns-clause-rows : goal.returns-clause-rows
returns-clause-rows g c = λ cells told.
    let x = c.loop-i.invariant.scanned cells told in
    (Tabled-end c.args.kind cells c.loop-i.i _ (omega (arith, x.1)) x.2).0

pub returns-clause-good : goal.returns-clause-good
returns-clause-good g c = λ cells told.
    let x = c.loop-i.invariant.scanned cells told in
    (Tabled-end c.args.kind cells c.loop-i.i _ (omega (arith, x.1)) x.2).1
